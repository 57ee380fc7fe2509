-- A sheet as text, and what it is for bytes to be in form.
use Rattle.std.specs.Prelude.{◌≡◌, ℕ, ◌+◌, ◌^◌, ◌<◌, ◌≤◌, cond, ◌⊎◌, List, [], ◌∷◌, ◌++◌, length, take, codes, decimal, ◌==◌}

abbrev pub Row : Type 0
Row = List ℕ

abbrev pub Table : Type 0
Table = List Row

abbrev pub Sheet : Type 0
Sheet = List Table

-- a table's line of names, its line feed with it, and how many values each of its rows has
pub record Form : Type 0 where
  pub names : List ℕ
  pub cols : ℕ

abbrev pub form : List ℕ → ℕ → Form
form ns n = record { names = ns ++ 10 ∷ []; cols = n }

abbrev pub operations : Form
operations = form (codes "effect op takes gives") 4

abbrev pub instances : Form
instances = form (codes "instance effect") 2

abbrev pub types : Form
types = form (codes "type kind a b d e") 6

abbrev pub parts : Form
parts = form (codes "part kind a b type dirt") 6

-- the tables of a recipe's sheet, in order
abbrev pub forms : List Form
forms = operations ∷ instances ∷ types ∷ parts ∷ []

-- a row: its values in decimal, a space between two, and a line feed
abbrev pub row_text : Row → List ℕ
row_text [] = 10 ∷ []
row_text (n ∷ []) = decimal n ++ 10 ∷ []
row_text (n ∷ m ∷ r) = decimal n ++ 32 ∷ row_text (m ∷ r)

abbrev pub rows_text : Table → List ℕ
rows_text [] = []
rows_text (r ∷ t) = row_text r ++ rows_text t

-- a table: its names, its rows and an empty line
abbrev pub table_text : Form → Table → List ℕ
table_text f t = f.names ++ rows_text t ++ 10 ∷ []

abbrev pub sheet_text : List Form → Sheet → List ℕ
sheet_text [] s = []
sheet_text (f ∷ fs) [] = []
sheet_text (f ∷ fs) (t ∷ s) = table_text f t ++ sheet_text fs s

-- values below 2 ^ 64
abbrev pub Small : Row → Type 0
Small [] = Unit {0}
Small (n ∷ r) = (n < 2 ^ 64) × Small r

-- rows of so many values, each below 2 ^ 64
abbrev pub Wide : ℕ → Table → Type 0
Wide n [] = Unit {0}
Wide n (r ∷ t) = (length r ≡ n) × Small r × Wide n t

-- one table for each form, with as many columns
abbrev pub Fitting : List Form → Sheet → Type 0
Fitting [] [] = Unit {0}
Fitting [] (t ∷ s) = ⊥
Fitting (f ∷ fs) [] = ⊥
Fitting (f ∷ fs) (t ∷ s) = Wide f.cols t × Fitting fs s

-- The following is over any list of forms.
module _ (fs : List Form) where
  -- these bytes are the text of this sheet
  pub record Writes (bs : List ℕ) (s : Sheet) : Type 0 where
    pub fits : Fitting fs s
    pub text : bs ≡ sheet_text fs s

  abbrev pub InForm : List ℕ → Type 0
  InForm bs = (s : Sheet) × Writes bs s

  -- some bytes after these make a text in form
  abbrev pub Alive : List ℕ → Type 0
  Alive bs = (more : List ℕ) × InForm (bs ++ more)

  -- p bytes can still become a text in form; with the next byte they cannot, or they are all there is and not in form
  pub record FirstWrong (bs : List ℕ) (p : ℕ) : Type 0 where
    pub within : p ≤ length bs
    pub alive : Alive (take p bs)
    pub dead : ((p < length bs) × (Alive (take (p + 1) bs) → ⊥)) ⊎ ((p ≡ length bs) × (InForm bs → ⊥))

-- how many line feeds there are
abbrev pub feeds : List ℕ → ℕ
feeds [] = 0
feeds (b ∷ bs) = cond (b == 10) (feeds bs + 1) (feeds bs)

-- the line after so many bytes
abbrev pub line_after : ℕ → List ℕ → ℕ
line_after p bs = 1 + feeds (take p bs)

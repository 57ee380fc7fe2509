-- What a reader has before it, and what its moves keep.
use Rattle.std.specs.Prelude.{◌≡◌, ℕ, ◌+◌, ◌-◌, ◌*◌, ◌^◌, ◌<◌, ◌≤◌, Bool, true, false, cond, ◌⊎◌, List, [], ◌∷◌, ◌++◌, map, length, take, drop, replicate, Some, None, Ok, Err, Option, Result, ◌==◌, ◌≢◌}
use Rattle.fault.specs.declared.at.At.{At}
use Rattle.fault.specs.declared.text.TextFault.{TextFault}
use Rattle.fault.specs.declared.text.TextFault.TheVariants.{Size}
use Rattle.sheet.specs.declared.reader.Reader.{Reader}
use Rattle.sheet.specs.declared.draft.Draft.{Draft}
use Rattle.sheet.specs.declared.draft.Drafts.{Drafts}
use Rattle.sheet.specs.declared.tables.Rows.{Rows}
use Rattle.sheet.specs.Text.{Row, Table, Sheet}
use Rattle.sheet.specs.Scan.{Place, State, title, line, shut, scan, is_digit, wrong}
use Rattle.sheet.specs.Rows.{operation_of, instance_of, type_of, part_of}
use Rattle.sheet.specs.declared.tables.Tables.{Tables}
use Rattle.sheet.specs.Answer.{sized, Stored, array, Contents, contents}
use Rattle.sheet.specs.Faults.{Which, operations, instances, types, parts}

abbrev pub rest : Reader → List ℕ
rest r = r.rest.now

-- what is read from here on, in this state
abbrev pub reads : State → Reader → Result Sheet (At TextFault)
reads st r = scan st r.line (rest r)

-- a method's answer, and what follows an Ok
abbrev pub then : {X : Type 0} → Result X (At TextFault) → (X → Result Sheet (At TextFault)) → Result Sheet (At TextFault)
then (Ok x) f = f x
then (Err e) f = Err e

-- an Ok leaves less to be read
abbrev pub moves : {X : Type 0} → Result X (At TextFault) → Reader → Reader → Type 0
moves (Ok x) a b = length (rest b) < length (rest a)
moves (Err e) a b = Unit {0}

abbrev pub NoDigit : List ℕ → Type 0
NoDigit [] = Unit {0}
NoDigit (b ∷ bs) = is_digit b ≡ false

abbrev pub Misses : ℕ → List ℕ → Type 0
Misses w [] = Unit {0}
Misses w (b ∷ bs) = (b == w) ≡ false

-- a digit d was taken
pub record Took (a b : Reader) (d : ℕ) : Type 0 where
  pub small : d < 10
  pub rest : rest a ≡ (48 + d) ∷ rest b
  pub line : b.line ≡ a.line

-- no digit comes next
pub record Stays (a b : Reader) : Type 0 where
  pub none : NoDigit (rest a)
  pub same : b ≡ a

-- what `digit` answers
abbrev pub Digit : Reader → Reader → Option ℕ → Type 0
Digit a b None = Stays a b
Digit a b (Some d) = Took a b d

-- what `grown` answers
abbrev pub Grown : ℕ → ℕ → Option ℕ → Type 0
Grown n d (Some m) = (n ≢ 0) × (m ≡ n * 10 + d) × (m < 2 ^ 64)
Grown n d None = (n ≡ 0) ⊎ ((n ≢ 0) × (2 ^ 64 ≤ n * 10 + d))

-- the byte w was taken
pub record Passed (w : ℕ) (a b : Reader) : Type 0 where
  pub rest : rest a ≡ w ∷ rest b
  pub line : b.line ≡ cond (w == 10) (a.line + 1) a.line

-- the byte w does not come next
pub record Missed (w : ℕ) (a : Reader) (e : At TextFault) : Type 0 where
  pub other : Misses w (rest a)
  pub fault : e ≡ wrong a.line

-- what `expect` answers
abbrev pub Expected : ℕ → Reader → Reader → Result (Unit {0}) (At TextFault) → Type 0
Expected w a b (Ok x) = Passed w a b
Expected w a b (Err e) = Missed w a e

-- what `skip` answers
abbrev pub Skipped : ℕ → Reader → Reader → Bool → Type 0
Skipped w a b true = Passed w a b
Skipped w a b false = Misses w (rest a) × (b ≡ a)

-- after a row, or after the empty line in its place
abbrev pub rowed : Option Row → Place → Table → Reader → Result Sheet (At TextFault)
rowed (Some row) p t r = reads (line p (t ++ row ∷ [])) r
rowed None p t r = reads (shut p t) r

-- n rows came: the first of them stand in `rows`, as far as there is room, and zero rows past them
pub record Gathered {R : Type 0} (made : Row → R) (room : ℕ) (zero : R) (rows : List R) (t : Table) (n : ℕ) : Type 0 where
  pub count : length t ≡ n
  pub first : take n rows ≡ map made (take room t)
  pub rest : drop n rows ≡ replicate (room - n) zero
  pub long : length rows ≡ room

-- p stands at a table of these names and so many columns
pub record Fits (ns : List ℕ) (n : ℕ) (p : Place) : Type 0 where
  pub names : p.here.names ≡ ns
  pub cols : p.here.cols ≡ n

-- the table t stands between the two readers
pub record Between (ns : List ℕ) (n : ℕ) (a b : Reader) (t : Table) : Type 0 where
  pub at : (p : Place) → Fits ns n p → reads (title p 0) a ≡ reads (shut p t) b

-- what `table` answers
abbrev pub Tabled : {R : Type 0} {room : ℕ} (made : Row → R) → List ℕ → ℕ → Reader → Reader → Result (Draft R room) (At TextFault) → Type 0
Tabled {room = room} made names cols a b (Ok d) = (t : Table) × Gathered made room (made (replicate cols 0)) d.rows t d.count × Between names cols a b t
Tabled made names cols a b (Err e) = (p : Place) → Fits names cols p → reads (title p 0) a ≡ Err e

-- nothing follows, or the fault
abbrev pub Finished : Reader → Result (Unit {0}) (At TextFault) → Type 0
Finished a (Ok x) = rest a ≡ []
Finished a (Err e) = (0 < length (rest a)) × (e ≡ wrong a.line)

-- the drafts hold the rows of these tables, as far as there is room, zero rows past them, and count them all
pub record Drafted (d : Drafts) (a b c e : Table) : Type 0 where
  pub operations : Gathered operation_of 32 (operation_of []) d.operations.rows a d.operations.count
  pub instances : Gathered instance_of 16 (instance_of []) d.instances.rows b d.instances.count
  pub types : Gathered type_of 252 (type_of []) d.types.rows c d.types.count
  pub parts : Gathered part_of 1024 (part_of []) d.parts.rows e d.parts.count

-- what `sheet` answers
abbrev pub Read : Result Drafts (At TextFault) → Result Sheet (At TextFault) → Type 0
Read (Ok d) s = (a b c e : Table) × Drafted d a b c e × (s ≡ Ok (a ∷ b ∷ c ∷ e ∷ []))
Read (Err e) s = s ≡ Err e

-- how many rows each table has
abbrev pub counted : Drafts → Which → ℕ
counted d operations = d.operations.count
counted d instances = d.instances.count
counted d types = d.types.count
counted d parts = d.parts.count

abbrev pub draft : {R : Type 0} {n : ℕ} → Draft R n → Stored R
draft d = record { rows = d.rows; count = d.count }

-- the drafts' arrays and counts
abbrev pub drafted : Drafts → Contents
drafted d = record { operations = draft d.operations; instances = draft d.instances; types = draft d.types; parts = draft d.parts }

-- what `sized` answers for one table, whose first row stands at this line
abbrev pub Roomed : {R : Type 0} {room : ℕ} → Draft R room → ℕ → Result (Rows R room) (At TextFault) → Type 0
Roomed {room = room} d first (Ok t) = (d.count ≤ room) × (array t ≡ draft d)
Roomed {room = room} d first (Err e) = (room < d.count) × (e ≡ record { line = first + room; fault = Size })

-- what `sized` answers for all
abbrev pub Sized : Drafts → Result Tables (At TextFault) → Type 0
Sized d (Ok t) = (sized (counted d) ≡ Ok tt) × (contents t ≡ drafted d)
Sized d (Err e) = sized (counted d) ≡ Err e

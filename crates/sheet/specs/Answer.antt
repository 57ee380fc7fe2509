-- What is read of a sheet: its four tables, or the first refusal with its line.
use Rattle.std.specs.Prelude.{◌≡◌, ℕ, ◌+◌, ◌-◌, Bool, cond, ◌&&◌, ◌||◌, List, [], ◌∷◌, ◌++◌, length, take, replicate, Ok, Err, Result, ◌==◌, nat_eq, nat_lt}
use Rattle.fault.specs.declared.at.At.{At}
use Rattle.fault.specs.Search.{Verdict, refused, and_then, search, First, NoLine}
use Rattle.fault.specs.declared.text.TextFault.{TextFault}
use Rattle.fault.specs.declared.text.TextFault.TheVariants.{Form as NotInForm, Size, Turn}
use Rattle.sheet.specs.declared.rows.Operation.{Operation}
use Rattle.sheet.specs.declared.rows.Instance.{Instance}
use Rattle.sheet.specs.declared.rows.TypeRow.{TypeRow}
use Rattle.sheet.specs.declared.rows.PartRow.{PartRow}
use Rattle.sheet.specs.declared.tables.Rows.{Rows}
use Rattle.sheet.specs.declared.tables.Tables.{Tables}
use Rattle.sheet.specs.Text.{Sheet, forms, Writes, FirstWrong, line_after}
use Rattle.sheet.specs.Scan.{formed}
use Rattle.sheet.specs.Rows.{Listing, sheet_of, listing_of, operation_of, instance_of, type_of, part_of, instance_number, type_number, part_number, first_type}
use Rattle.sheet.specs.Faults.{Which, operations, instances, types, parts, room, count, row_line, SizeFault, TurnFault}

-- the tables' sizes, in order
abbrev pub sized : (Which → ℕ) → Verdict TextFault
sized n =
    cond (nat_lt (room operations) (n operations)) (refused (row_line n operations (room operations)) Size)
    (cond (nat_lt (room instances) (n instances)) (refused (row_line n instances (room instances)) Size)
    (cond (nat_lt (room types) (n types)) (refused (row_line n types (room types)) Size)
    (cond (nat_lt (room parts) (n parts)) (refused (row_line n parts (room parts)) Size)
    (cond (n parts == 0) (refused (row_line n parts 0) Size) (Ok tt)))))

-- rows numbered n, n + 1 and so on, the first at this line
abbrev pub numbered : {R : Type 0} → (R → ℕ) → ℕ → ℕ → List R → Verdict TextFault
numbered number line n rows = search Turn (λ k r. nat_eq (number r) k) line n rows

-- where op of effect is the next: this operation, or the first of the effect after, may come
abbrev pub follows : ℕ → ℕ → Operation → Bool
follows effect op o =
    (o.effect == effect && o.op == op) || (nat_lt 0 op && (o.effect == effect + 1 && o.op == 0))

abbrev pub orderly : ℕ → ℕ → ℕ → List Operation → Verdict TextFault
orderly line effect op [] = Ok tt
orderly line effect op (o ∷ os) = cond (follows effect op o) (orderly (line + 1) o.effect (o.op + 1) os) (refused line Turn)

-- the numbers of the rows, table by table
abbrev pub turned : Listing → Verdict TextFault
turned l =
    and_then (orderly (row_line (count l) operations 0) 0 0 l.operations)
    (and_then (numbered instance_number (row_line (count l) instances 0) 0 l.instances)
    (and_then (numbered type_number (row_line (count l) types 0) first_type l.types)
    (numbered part_number (row_line (count l) parts 0) 0 l.parts)))

-- sizes before numbers
abbrev pub judged : Listing → Result Listing (At TextFault)
judged l = and_then (sized (count l)) (and_then (turned l) (Ok l))

abbrev pub listed : Result Sheet (At TextFault) → Result Listing (At TextFault)
listed (Ok s) = judged (listing_of s)
listed (Err e) = Err e

-- the rows of these bytes, or the first refusal
abbrev pub answer : List ℕ → Result Listing (At TextFault)
answer bs = listed (formed forms bs)

-- A table's array, whole, and how many rows it lists.
pub record Stored (R : Type 0) : Type 0 where
  pub rows : List R
  pub count : ℕ

-- these rows, and zero rows up to the room
abbrev pub stored : {R : Type 0} → ℕ → R → List R → Stored R
stored n zero rs = record { rows = rs ++ replicate (n - length rs) zero; count = length rs }

pub record Contents : Type 0 where
  pub operations : Stored Operation
  pub instances : Stored Instance
  pub types : Stored TypeRow
  pub parts : Stored PartRow

-- what tables hold that list these rows
abbrev pub holding : Listing → Contents
holding l =
    record {
      operations = stored (room operations) (operation_of []) l.operations;
      instances = stored (room instances) (instance_of []) l.instances;
      types = stored (room types) (type_of []) l.types;
      parts = stored (room parts) (part_of []) l.parts;
    }

-- an answer of any layer, with whole arrays
abbrev pub held : {F : Type 0} → Result Listing (At F) → Result Contents (At F)
held (Ok l) = Ok (holding l)
held (Err e) = Err e

abbrev pub array : {R : Type 0} {n : ℕ} → Rows R n → Stored R
array r = record { rows = r.rows; count = r.count }

abbrev pub contents : Tables → Contents
contents t = record { operations = array t.operations; instances = array t.instances; types = array t.types; parts = array t.parts }

-- what was answered in any layer, with whole arrays
abbrev pub shown : {F : Type 0} → Result Tables (At F) → Result Contents (At F)
shown (Ok t) = Ok (contents t)
shown (Err e) = Err e

-- the rows that a table lists
abbrev pub rows_of : {R : Type 0} {n : ℕ} → Rows R n → List R
rows_of r = take r.count r.rows

-- the rows that tables list
abbrev pub listing : Tables → Listing
listing t = record { operations = rows_of t.operations; instances = rows_of t.instances; types = rows_of t.types; parts = rows_of t.parts }

-- what was answered in any layer, by the rows listed
abbrev pub told : {F : Type 0} → Result Tables (At F) → Result Listing (At F)
told (Ok t) = Ok (listing t)
told (Err e) = Err e

-- what a refusal of each kind means for these bytes
abbrev pub Refused : List ℕ → ℕ → TextFault → Type 0
Refused bs line NotInForm = (p : ℕ) × FirstWrong forms bs p × (line ≡ line_after p bs)
Refused bs line Size = (l : Listing) × Writes forms bs (sheet_of l) × First (SizeFault (count l)) line
Refused bs line Turn = (l : Listing) × Writes forms bs (sheet_of l) × NoLine (SizeFault (count l)) × First (TurnFault l) line

-- what an answer means for these bytes
abbrev pub Answered : List ℕ → Result Listing (At TextFault) → Type 0
Answered bs (Ok l) = Writes forms bs (sheet_of l) × NoLine (SizeFault (count l)) × NoLine (TurnFault l)
Answered bs (Err e) = Refused bs e.line e.fault

-- these bytes are the text of one listing at most
abbrev pub OneText : List ℕ → Type 0
OneText bs = (l m : Listing) → Writes forms bs (sheet_of l) → Writes forms bs (sheet_of m) → l ≡ m

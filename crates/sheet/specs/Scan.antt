-- The form of a sheet, byte by byte: which byte may come next, and what has been read.
use Rattle.std.specs.Prelude.{ℕ, ◌+◌, ◌-◌, ◌*◌, ◌^◌, Bool, cond, ◌&&◌, List, [], ◌∷◌, ◌++◌, length, Some, None, Ok, Err, Option, Result, ◌==◌, nat_le, nat_lt, slice_index}
use Rattle.fault.specs.declared.at.At.{At}
use Rattle.fault.specs.declared.text.TextFault.{TextFault}
use Rattle.fault.specs.declared.text.TextFault.TheVariants.{Form as NotInForm}
use Rattle.sheet.specs.Text.{Row, Table, Sheet, Form}

-- the bytes are not in form, at this line
abbrev pub wrong : ℕ → At TextFault
wrong l = record { line = l; fault = NotInForm }

-- the tables read, with their forms, the form of the table at hand, and the forms to come
pub record Place : Type 0 where
  pub past : List Form
  pub read : Sheet
  pub here : Form
  pub next : List Form

pub data State : Type 0 where
  -- k bytes of the names are read
  title : Place → ℕ → State
  -- these rows are read, and a line begins
  line : Place → Table → State
  -- these values of a row are read, and the next has to begin
  begin : Place → Table → Row → State
  -- and the next reads n so far
  digit : Place → Table → Row → ℕ → State
  end : Sheet → State

-- after a table
abbrev pub onward : List Form → Sheet → List Form → State
onward past read [] = end read
onward past read (f ∷ fs) = title (record { past = past; read = read; here = f; next = fs }) 0

abbrev pub shut : Place → Table → State
shut p t = onward (p.past ++ p.here ∷ []) (p.read ++ t ∷ []) p.next

abbrev pub is_digit : ℕ → Bool
is_digit b = nat_le 48 b && nat_le b 57

-- what stands after one more value of this row: a space, or a line feed after the last
abbrev pub closing : Place → Row → ℕ
closing p r = cond (nat_lt (length r + 1) p.here.cols) 32 10

-- these values of a row are read
abbrev pub filled : Place → Table → Row → State
filled p t r = cond (nat_lt (length r) p.here.cols) (begin p t r) (line p (t ++ r ∷ []))

abbrev pub closed : Place → Table → Row → ℕ → State
closed p t r n = filled p t (r ++ n ∷ [])

-- k bytes of the names are read
abbrev pub titled : Place → ℕ → State
titled p k = cond (nat_lt k (length p.here.names)) (title p k) (line p [])

abbrev pub first : Place → Table → Row → ℕ → Option State
first p t r b = cond (is_digit b) (Some (digit p t r (b - 48))) None

-- one more byte, or None where it is wrong
abbrev pub step : State → ℕ → Option State
step (title p k) b =
    cond (b == slice_index p.here.names k) (Some (titled p (k + 1))) None
step (line p t) b = cond (b == 10) (Some (shut p t)) (first p t [] b)
step (begin p t r) b = first p t r b
step (digit p t r n) b =
    cond (is_digit b)
    (cond (n == 0) None (cond (nat_lt (n * 10 + (b - 48)) (2 ^ 64)) (Some (digit p t r (n * 10 + (b - 48)))) None))
    (cond (b == closing p r) (Some (closed p t r n)) None)
step (end s) b = None

-- the bytes end
abbrev pub ended : State → ℕ → Result Sheet (At TextFault)
ended (title p k) l = Err (wrong l)
ended (line p t) l = Err (wrong l)
ended (begin p t r) l = Err (wrong l)
ended (digit p t r n) l = Err (wrong l)
ended (end s) l = Ok s

-- what is read from a state at line l: the tables, or the line of the first wrong byte or of the end
unfoldable pub scan : State → ℕ → List ℕ → Result Sheet (At TextFault)
scan st l [] = ended st l
scan st l (b ∷ bs) = elim (step st b) [ None ↦ Err (wrong l) | Some n ↦ scan n (cond (b == 10) (l + 1) l) bs ]

abbrev pub start : List Form → State
start fs = onward [] [] fs

abbrev pub formed : List Form → List ℕ → Result Sheet (At TextFault)
formed fs bs = scan (start fs) 1 bs

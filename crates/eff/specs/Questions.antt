-- The questions that calls put, and the terms that answers stand for.
use Rattle.std.specs.Prelude.{◌≡◌, ℕ, suc, Bool, true, min, List, Some, None, Option}
use Rattle.eff.specs.Sorts.{expr}
use Rattle.eff.specs.Syntax.{Term, var, truth, num, succ, unit, inst, fn, handler, head}
use Rattle.eff.specs.Types.{Ty}
use Rattle.eff.specs.Types as t
use Rattle.eff.specs.Tables.{Tables, gives}
use Rattle.eff.specs.Grounds.{grounded}
use Rattle.eff.specs.declared.ground.Ground.{Ground}
use Rattle.eff.specs.declared.ground.Ground.TheVariants as g
use Rattle.eff.specs.declared.part.Part.{Part}
use Rattle.eff.specs.declared.question.Value.{Value}
use Rattle.eff.specs.declared.question.Value.TheVariants.{Truth, Count, Unit}
use Rattle.eff.specs.declared.question.Question.{Question}

-- a value is of a ground type; none is of the empty one
pub data Of : Value → Ty → Type 0 where
  a_truth : {b : Bool} → Of (Truth b) t.bool
  a_count : {n : ℕ} → Of (Count n) t.nat
  the_unit : Of Unit t.unit

-- the ground type of a value
abbrev pub type_of : Value → Ground
type_of (Truth b) = g.Bool
type_of (Count n) = g.Nat
type_of Unit = g.Unit

-- the term of a value
abbrev pub term : Value → Term expr
term (Truth b) = truth b
term (Count n) = num n
term Unit = unit

-- a numeral holds a count below 2 ^ 32; a larger one is cut down
abbrev pub cut : Value → Value
cut (Truth b) = Truth b
cut (Count n) = Count (min n 4294967295)
cut Unit = Unit

-- the part of a value's term
abbrev pub value_part : Value → Part
value_part v = head (term (cut v))

abbrev pub one_more : Option Value → Option Value
one_more (Some (Truth b)) = None
one_more (Some (Count n)) = Some (Count (suc n))
one_more (Some Unit) = None
one_more None = None

-- the value of a closed term of ground type: a truth, the count of a numeral and the successors on it, or unit
abbrev pub worth : Term expr → Option Value
worth (truth b) = Some (Truth b)
worth (num n) = Some (Count n)
worth (succ e) = one_more (worth e)
worth unit = Some Unit
worth (var n) = None
worth (inst i) = None
worth (fn a c) = None
worth (handler a c cs) = None

abbrev pub asked : (i op : ℕ) → Option Value → Option Ground → Option Question
asked i op (Some a) (Some g) = Some (record { call = record { instance = i; op = op }; argument = a; wanted = g })
asked i op (Some a) None = None
asked i op None (Some g) = None
asked i op None None = None

-- the question of the call i#op of effect e with the argument v, if v has a value and the given type is ground; of a typed call, if its signature is ground
abbrev pub question : Tables → (e op i : ℕ) → Term expr → Option Question
question T e op i v = asked i op (worth v) (grounded (gives T e op))

-- a reply: the answer, or nothing where the question is refused
abbrev pub Reply : Type 0
Reply = Option Value

-- What a host replies: to a question after a list of others.
abbrev pub Replies : Type 0
Replies = List Question → Question → Reply

-- The term of a value is worth that value, and the term true the truth true.
pub record Worth : Type 0 where
  pub terms : (v : Value) → worth (term v) ≡ Some v
  pub truths : worth (truth true) ≡ Some (Truth true)

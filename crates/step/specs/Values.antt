-- The values of closed expressions, and how a report shows them.
use Rattle.std.specs.Prelude.{ℕ, Some, None, Option}
use Rattle.eff.specs.Sorts.{expr}
use Rattle.eff.specs.Syntax.{Term, inst, fn, handler, digit}
use Rattle.eff.specs.Questions.{worth, type_of}
use Rattle.eff.specs.Grounds as grounds
use Rattle.eff.specs.Formers as formers
use Rattle.eff.specs.declared.ground.Ground.TheVariants as g
use Rattle.eff.specs.declared.former.Former.TheVariants as f
use Rattle.eff.specs.declared.question.Value.{Value}
use Rattle.eff.specs.declared.question.Value.TheVariants as v
use Rattle.step.specs.declared.value.Shown.{Shown}
use Rattle.step.specs.declared.value.Shown.TheVariants.{Ground, Function, Instance, Handler, Nothing}

-- a value that is not of a ground type
abbrev pub shown_kind : Term expr → Shown
shown_kind (fn a c) = Function
shown_kind (inst i) = Instance i
shown_kind (handler a c cs) = Handler
shown_kind _ = Nothing

-- a value of a ground type is shown as it is
abbrev pub shown_value : Option Value → Shown → Shown
shown_value (Some v) s = Ground v
shown_value None s = s

-- how a report shows a closed value
abbrev pub shown : Term expr → Shown
shown v = shown_value (worth v) (shown_kind v)

-- the number of the ground type or of the type's constructor; the empty type's stands for what is no value
abbrev pub kind_number : Shown → ℕ
kind_number (Ground v) = grounds.number (type_of v)
kind_number Function = formers.number f.Function
kind_number (Instance i) = formers.number f.Instance
kind_number Handler = formers.number f.Handler
kind_number Nothing = grounds.number g.Empty

-- a truth's digit, a count or the number of an instance
abbrev pub value_number : Shown → ℕ
value_number (Ground (v.Truth b)) = digit b
value_number (Ground (v.Count n)) = n
value_number (Ground v.Unit) = 0
value_number Nothing = 0
value_number Function = 0
value_number (Instance i) = i
value_number Handler = 0

-- The value of the expression that opens some parts, and how a report shows it.
use Rattle.std.specs.Prelude.{not, List, [], ◌∷◌, Some, None, Option, ◌==◌}
use Rattle.eff.specs.Questions.{one_more}
use Rattle.eff.specs.declared.kind.Kind.{Kind}
use Rattle.eff.specs.declared.kind.Kind.TheVariants as k
use Rattle.eff.specs.declared.part.Part.{Part}
use Rattle.eff.specs.declared.question.Value.{Value}
use Rattle.eff.specs.declared.question.Value.TheVariants.{Truth, Count, Unit}
use Rattle.step.specs.declared.value.Shown.{Shown}
use Rattle.step.specs.declared.value.Shown.TheVariants.{Function, Instance, Handler, Nothing}
use Rattle.step.specs.Values.{shown_value}

-- by the kind of the first part p, o being the value of what stands behind it
abbrev pub valued_by : Kind → Part → Option Value → Option Value
valued_by k.Truth p o = Some (Truth (not (p.a == 0)))
valued_by k.Numeral p o = Some (Count p.a)
valued_by k.Successor p o = one_more o
valued_by k.Unit p o = Some Unit
valued_by _ p o = None

-- the value, if it is of a ground type
abbrev pub valued : List Part → Option Value
valued [] = None
valued (p ∷ ps) = valued_by p.kind p (valued ps)

-- how a first part p of this kind is shown if the value is not of a ground type
abbrev pub shown_by : Kind → Part → Shown
shown_by k.Instance p = Instance p.a
shown_by k.Function p = Function
shown_by k.Handler p = Handler
shown_by _ p = Nothing

-- how the first part is shown
abbrev pub shown_first : List Part → Shown
shown_first [] = Nothing
shown_first (p ∷ ps) = shown_by p.kind p

-- how the expression is shown
abbrev pub shown_parts : List Part → Shown
shown_parts ps = shown_value (valued ps) (shown_first ps)

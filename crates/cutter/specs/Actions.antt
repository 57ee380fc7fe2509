-- What a question asks of the cutter.
use Rattle.std.specs.Prelude.{ℕ, ◌+◌, ◌/◌, Bool, true, false, cond, Some, None, Option, ◌==◌, nat_le}
use Rattle.eff.specs.declared.ground.Ground.{Ground}
use Rattle.eff.specs.declared.ground.Ground.TheVariants.{Bool as BoolType, Nat as NatType, Unit as UnitType, Empty as EmptyType}
use Rattle.eff.specs.declared.question.Value.{Value}
use Rattle.eff.specs.declared.question.Value.TheVariants.{Truth, Count, Unit as UnitValue}
use Rattle.cutter.specs.declared.action.Action.{Action}
use Rattle.cutter.specs.declared.action.Action.TheVariants.{Go, Cut, Feel}

-- micrometres in motor steps of 50, a half up
abbrev pub motor_steps : ℕ → ℕ
motor_steps micrometres = (micrometres + 25) / 50

-- an action that takes a count of at most `most`
abbrev pub count_to : ℕ → (ℕ → Action) → Value → Option Action
count_to most action (Truth _) = None
count_to most action (Count n) = cond (nat_le n most) (Some (action n)) None
count_to most action UnitValue = None

-- an action that takes unit
abbrev pub by_unit : Action → Value → Option Action
by_unit action (Truth _) = None
by_unit action (Count _) = None
by_unit action UnitValue = Some action

-- Operation 0 goes to a position, 0 to 15; operation 1 cuts by 0 to 6,000 micrometres; operation 2 feels.
abbrev pub action_of : ℕ → Value → Option Action
action_of op argument =
    cond (op == 0) (count_to 15 (λ n. Go n) argument)
    (cond (op == 1) (count_to 6000 (λ n. Cut n) argument)
    (cond (op == 2) (by_unit Feel argument) None))

-- whether a type is unit
abbrev pub is_unit : Ground → Bool
is_unit BoolType = false
is_unit NatType = false
is_unit UnitType = true
is_unit EmptyType = false

-- whether a type is nat
abbrev pub is_nat : Ground → Bool
is_nat BoolType = false
is_nat NatType = true
is_nat UnitType = false
is_nat EmptyType = false

-- going and cutting give unit, feeling gives a nat
abbrev pub gives : Action → Ground → Bool
gives (Go _) wanted = is_unit wanted
gives (Cut _) wanted = is_unit wanted
gives Feel wanted = is_nat wanted

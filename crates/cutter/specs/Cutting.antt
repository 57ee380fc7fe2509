-- The cutter's meaning, over its carriage and the depth of each position.
use Rattle.std.specs.Prelude.{ℕ, ◌*◌, ◌<◌, ◌≤◌, max, cond, ◌&&◌, List, [], ◌∷◌, replicate, Some, None, Option, ◌==◌, nat_lt, slice_index, slice_set}
use Rattle.eff.specs.declared.ground.Ground.{Ground}
use Rattle.eff.specs.declared.question.Question.{Question}
use Rattle.eff.specs.declared.question.Value.{Value}
use Rattle.eff.specs.declared.question.Value.TheVariants.{Count, Unit as UnitValue}
use Rattle.eff.specs.Questions.{Reply}
use Rattle.host.specs.Meaning.{Replies, Known}
use Rattle.cutter.specs.declared.action.Action.{Action}
use Rattle.cutter.specs.declared.action.Action.TheVariants.{Go, Cut, Feel}
use Rattle.cutter.specs.declared.state.State.{State}
use Rattle.cutter.specs.Actions.{motor_steps, action_of, gives}

-- a fresh cutter: every depth and the carriage at 0
abbrev pub fresh : State
fresh = record { carriage = 0; depths = replicate 16 0 }

-- how deep a state is at a position
abbrev pub depth_at : State → ℕ → ℕ
depth_at s position = slice_index s.depths position

-- the depth of a position, if there is such a position
abbrev pub depth_of : State → ℕ → Option ℕ
depth_of s position = cond (nat_lt position 16) (Some (depth_at s position)) None

-- the carriage stands at a position, and none is deeper than the longest cut
abbrev pub Sound : State → Type 0
Sound s = (s.carriage < 16) × ((position : ℕ) → depth_at s position ≤ motor_steps 6000)

-- the calls of operations 0 to 2 of instance 0
abbrev pub cutter_knows : Known
cutter_knows c = c.instance == 0 && nat_lt c.op 3

-- an action, if it gives the type wanted
abbrev pub giving : Option Action → Ground → Option Action
giving None wanted = None
giving (Some a) wanted = cond (gives a wanted) (Some a) None

-- the action of a question: the call is known, its argument in range, and the type wanted is what the action gives
abbrev pub accepted : Question → Option Action
accepted q = cond (cutter_knows q.call) (giving (action_of q.call.op q.argument) q.wanted) None

-- going and cutting give unit, feeling gives the depth under the carriage in micrometres
abbrev pub result : State → Action → Value
result s (Go _) = UnitValue
result s (Cut _) = UnitValue
result s Feel = Count (50 * depth_at s s.carriage)

-- going moves the carriage; under it, a cut keeps the larger of the depth and the cut
abbrev pub moved : State → Action → State
moved s (Go position) = record { carriage = position; depths = s.depths }
moved s (Cut micrometres) =
    record { carriage = s.carriage; depths = slice_set s.depths s.carriage (max (depth_at s s.carriage) (motor_steps micrometres)) }
moved s Feel = s

-- what is not accepted is refused
abbrev pub reply_to : State → Option Action → Reply
reply_to s None = None
reply_to s (Some a) = Some (result s a)

-- what is not accepted moves nothing
abbrev pub state_by : State → Option Action → State
state_by s None = s
state_by s (Some a) = moved s a

-- the state to which questions lead
abbrev pub state_after : State → List Question → State
state_after s [] = s
state_after s (q ∷ qs) = state_after (state_by s (accepted q)) qs

-- the cutter's replies from a state on
abbrev pub cutting : State → Replies
cutting s = λ qs q. reply_to (state_after s qs) (accepted q)

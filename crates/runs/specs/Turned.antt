-- How a turn of the code follows a turn of the definition.
use Rattle.std.specs.Prelude.{◌≡◌, ℕ, Bool, true, List, [], nat_lt, Some, None}
use Rattle.eff.specs.Sorts.{comp}
use Rattle.eff.specs.Syntax.{Term, put}
use Rattle.eff.specs.Outcome.{Outcome, value, asks as calls, next, stuck}
use Rattle.eff.specs.Questions.{term}
use Rattle.eff.specs.declared.part.Part.{Part}
use Rattle.eff.specs.declared.question.Call.{Call}
use Rattle.eff.specs.declared.question.Question.{Question}
use Rattle.eff.specs.declared.question.Value.{Value}
use Rattle.host.specs.Meaning.{Replies, Alike, after}
use Rattle.step.specs.Steps.{Written}
use Rattle.machine.specs.Turns.{Turn, rests, asks, goes}
use Rattle.runs.specs.declared.turn.Turn.{Turn as Code}
use Rattle.runs.specs.declared.turn.Turn.TheVariants.{Rests, Stops, Steps, Answers}

-- a call's instance is below 256, as its number in a question is
abbrev pub in_a_byte : Outcome → Bool
in_a_byte (value v) = true
in_a_byte (calls e op i v k) = nat_lt i 256
in_a_byte (next b) = true
in_a_byte stuck = true

-- the question was refused
pub record RefusedAt (q : Question) (m m' : Replies) (call : Call) : Type 0 where
  pub refused : m [] q ≡ None
  pub call_is : call ≡ q.call
  pub means : Alike m' (after q m)

-- the question was answered, and what the answer leads to is written
pub record AnsweredAt (q : Question) (on : Value → Term comp) (room : ℕ) (m m' : Replies) (new : List Part) (n : ℕ) : Type 0 where
  pub reply : Value
  pub answered : m [] q ≡ Some reply
  pub written : Written (on reply) room new n
  pub means : Alike m' (after q m)

-- a question was put whose continuation is c
abbrev pub Put : Question → Term comp → ℕ → Replies → Replies → List Part → Code → Type 0
Put q c room m m' new (Rests s) = ⊥
Put q c room m m' new (Stops call) = RefusedAt q m m' call
Put q c room m m' new (Steps n) = ⊥
Put q c room m m' new (Answers n) = AnsweredAt q (λ w. put 0 (term w) c) room m m' new n

-- the turn asks
pub record AskingTurn (t : Turn) : Type 0 where
  pub question : Question
  pub on : Value → Term comp
  pub is : t ≡ asks question on

-- the turn goes on with a computation that is written
pub record GoingTurn (t : Turn) (room : ℕ) (new : List Part) (n : ℕ) : Type 0 where
  pub to : Term comp
  pub is : t ≡ goes to
  pub written : Written to room new n

-- the code's turn follows the definition's, over a host that meant m and now means m'
abbrev pub Turned : Turn → ℕ → Replies → Replies → List Part → Code → Type 0
Turned t room m m' new (Rests s) = (t ≡ rests s) × Alike m' m
Turned t room m m' new (Stops call) = (a : AskingTurn t) × RefusedAt a.question m m' call
Turned t room m m' new (Steps n) = GoingTurn t room new n × Alike m' m
Turned t room m m' new (Answers n) = (a : AskingTurn t) × AnsweredAt a.question a.on room m m' new n

-- The turns of a run, and how far it goes by an allowance: what the relation of `Ends.antt` allows, as a function that computes.
use Rattle.std.specs.Prelude.{ℕ, zero, suc, Bool, true, false, cond, List, [], ◌∷◌, ◌++◌, Some, None, Option, nat_le, nat_lt}
use Rattle.eff.specs.Sorts.{comp}
use Rattle.eff.specs.Syntax.{Term, size, put}
use Rattle.eff.specs.Tables.{Tables}
use Rattle.eff.specs.Outcome.{Outcome, value, asks as calls, next, stuck, step}
use Rattle.eff.specs.Questions.{question, term}
use Rattle.eff.specs.declared.question.Question.{Question}
use Rattle.eff.specs.declared.question.Value.{Value}
use Rattle.eff.specs.Questions.{Reply}
use Rattle.host.specs.Meaning.{Replies, after}
use Rattle.step.specs.Values.{shown}
use Rattle.machine.specs.declared.report.State.{State}
use Rattle.machine.specs.declared.report.State.TheVariants.{Refused, Paused, Done, Stopped, Full, Limit}

-- the most steps that a run takes
abbrev pub limit : ℕ
limit = 4000000000

-- What a turn comes to: the run rests so, puts a question and goes on by the answer, or goes on.
pub data Turn : Type 0 where
  rests : State → Turn
  asks : Question → (Value → Term comp) → Turn
  goes : Term comp → Turn

-- a call puts its question, and an answer is written in for the name of the continuation; without a question no rule fits
abbrev pub put_to_host : Option Question → Term comp → Turn
put_to_host (Some q) k = asks q (λ w. put 0 (term w) k)
put_to_host None k = rests Refused

-- a run at its limit, or whose allowance is spent, rests
abbrev pub held_back : Bool → ℕ → Turn → Turn
held_back spent n t = cond (nat_le limit n) (rests Limit) (cond spent (rests Paused) t)

module _ (T : Tables) (room : ℕ) where
  -- by what the computation does next, after n steps; the allowance may be spent. Of a stuck computation no rule speaks.
  abbrev pub turn_by : Bool → ℕ → Outcome → Turn
  turn_by spent n (value v) = rests (Done (shown v))
  turn_by spent n (calls e op i v k) = held_back spent n (put_to_host (question T e op i v) k)
  turn_by spent n (next b) = held_back spent n (cond (nat_lt room (size b)) (rests Full) (goes b))
  turn_by spent n stuck = held_back spent n (rests Refused)

  -- A turn, in this order: a val is done; at the limit the run is at its limit; with no allowance left it is paused; a call goes to the host; a
  -- next computation of more parts than the room makes the run full; otherwise it steps.
  abbrev pub turn : Bool → ℕ → Term comp → Turn
  turn spent n c = turn_by spent n (step T c)

-- How far a run goes: its state, its steps, the questions put on the way, and its computation.
pub record Gone : Type 0 where
  pub state : State
  pub steps : ℕ
  pub put : List Question
  pub computation : Term comp

-- at rest after n steps, with no question
abbrev pub rest : State → ℕ → Term comp → Gone
rest s n c = record { state = s; steps = n; put = []; computation = c }

-- with these questions in front
abbrev pub having_put : List Question → Gone → Gone
having_put qs g = record { state = g.state; steps = g.steps; put = qs ++ g.put; computation = g.computation }

-- stopped at a question, the computation as it is
abbrev pub stop : Question → ℕ → Term comp → Gone
stop q n c = record { state = Stopped q.call; steps = n; put = q ∷ []; computation = c }

-- by a turn: the ways on are functions, so that only the one taken is computed
abbrev pub on_turn : Turn → ℕ → Term comp → (Term comp → Gone) → (Question → (Value → Term comp) → Gone) → Gone
on_turn (rests s) n c go ask = rest s n c
on_turn (asks q k) n c go ask = ask q k
on_turn (goes b) n c go ask = go b

-- by a reply: an answer is one step, a refusal ends the run
abbrev pub on_reply : Reply → Question → ℕ → Term comp → (Value → Gone) → Gone
on_reply (Some w) q n c on = having_put (q ∷ []) (on w)
on_reply None q n c on = stop q n c

module _ (T : Tables) (room : ℕ) where
  -- turns until one rests, by an allowance, over a host that means m, after n steps
  unfoldable pub going : ℕ → Replies → ℕ → Term comp → Gone
  going zero m n c = on_turn (turn T room true n c) n c (λ b. rest Paused n c) (λ q k. rest Paused n c)
  going (suc left) m n c =
      on_turn (turn T room false n c) n c (λ b. going left m (suc n) b)
      (λ q k. on_reply (m [] q) q n c (λ w. going left (after q m) (suc n) (k w)))

-- a run that goes on when it is advanced
abbrev pub paused : State → Bool
paused Refused = false
paused Paused = true
paused (Done s) = false
paused (Stopped c) = false
paused Full = false
paused Limit = false

-- what is meant once these questions have been put
abbrev pub after_all : List Question → Replies → Replies
after_all qs m = λ ps. m (qs ++ ps)

-- the way on where the test holds, and otherwise as it is
abbrev pub only_if : Bool → Gone → (Unit {0} → Gone) → Gone
only_if true g on = on tt
only_if false g on = g

-- an advance by an allowance of a run that has gone so far, over a host that meant m at its making; a run that is not paused stays as it is
abbrev pub advanced : Tables → ℕ → ℕ → Replies → Gone → Gone
advanced T room left m g =
    only_if (paused g.state) g (λ _. having_put g.put (going T room left (after_all g.put m) g.steps g.computation))

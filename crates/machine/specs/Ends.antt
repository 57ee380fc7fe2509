-- Where a run goes and why it rests there: a relation in core Eff's own words. It determines the run, which `going` computes.
use Rattle.std.specs.Prelude.{◌≡◌, ℕ, ◌<◌, ◌≤◌, List, [], ◌∷◌, ◌++◌, Some, None, ◌≢◌}
use Rattle.eff.specs.Sorts.{expr, comp}
use Rattle.eff.specs.Syntax.{Term, val, call, inst, size}
use Rattle.eff.specs.Tables.{Tables}
use Rattle.eff.specs.Steps.{◌⇝◌}
use Rattle.eff.specs.Questions.{question}
use Rattle.eff.specs.Runs.{Reaches}
use Rattle.eff.specs.declared.question.Question.{Question}
use Rattle.host.specs.Meaning.{Replies, Refusal}
use Rattle.step.specs.Values.{shown}
use Rattle.machine.specs.declared.report.State.{State}
use Rattle.machine.specs.declared.report.State.TheVariants.{Refused, Paused, Done, Stopped, Full, Limit}
use Rattle.machine.specs.Turns.{Gone, limit}

-- c is no val
abbrev pub NoVal : Term comp → Type 0
NoVal c = (v : Term expr) → c ≢ val v

-- no rule fits c: it is no val and no call of an instance, and has no next computation
pub record NoRule (T : Tables) (c : Term comp) : Type 0 where
  pub no_val : NoVal c
  pub no_call : (e op i : ℕ) (v : Term expr) (k : Term comp) → c ≢ call e op (inst i) v k
  pub no_next : (b : Term comp) → ◌⇝◌ T c b → ⊥

-- neither the limit nor the allowance is spent
pub record Free (allowance steps : ℕ) : Type 0 where
  pub below : steps < limit
  pub left : steps < allowance

module _ (T : Tables) (room : ℕ) (m : Replies) where
  -- A computation c, reached by an allowance after the steps counted and with the questions of past answered, rests in a state, having put these
  -- questions.
  pub data Rests (allowance : ℕ) (past : List Question) (c : Term comp) (steps : ℕ) : State → List Question → Type 0 where
    -- it is a val
    done : (v : Term expr) → c ≡ val v → Rests allowance past c steps (Done (shown v)) past
    -- it is none, and the most steps are taken
    at_limit : NoVal c → steps ≡ limit → Rests allowance past c steps Limit past
    -- fewer are, and the allowance is spent
    paused : NoVal c → steps < limit → steps ≡ allowance → Rests allowance past c steps Paused past
    -- both are left, and the host refuses its question
    stopped : {e op i : ℕ} {v : Term expr} {k : Term comp} {q : Question} → Free allowance steps → c ≡ call e op (inst i) v k
        → question T e op i v ≡ Some q → Refusal (m past q) → Rests allowance past c steps (Stopped q.call) (past ++ (q ∷ []))
    -- or its next computation has more parts than the room
    full : (b : Term comp) → Free allowance steps → ◌⇝◌ T c b → room < size b → Rests allowance past c steps Full past
    -- or no rule fits it
    unruled : Free allowance steps → NoRule T c → Rests allowance past c steps Refused past
    -- or it is a call that puts no question
    unasked : {e op i : ℕ} {v : Term expr} {k : Term comp} → Free allowance steps → c ≡ call e op (inst i) v k → question T e op i v ≡ None
        → Rests allowance past c steps Refused past

  -- By an allowance, c reaches what the run has gone to, by so many steps and answers, no more than the allowance and the limit; every computation
  -- on the way fits the room; and there it rests.
  pub record Ran (c : Term comp) (allowance : ℕ) (g : Gone) : Type 0 where
    pub answered : List Question
    pub reaches : Reaches T m [] c g.steps answered g.computation
    pub within : g.steps ≤ allowance
    pub limited : g.steps ≤ limit
    pub fits : (n : ℕ) (qs : List Question) (b : Term comp) → Reaches T m [] c n qs b → n ≤ g.steps → size b ≤ room
    pub rests : Rests allowance answered g.computation g.steps g.state g.put

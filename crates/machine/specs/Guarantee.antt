-- What is guaranteed of a run of a computation of type A!d.
use Rattle.std.specs.Prelude.{◌≡◌, ℕ, ◌<◌}
use Rattle.eff.specs.Sorts.{expr, comp}
use Rattle.eff.specs.Syntax.{Term, val, call, inst, size}
use Rattle.eff.specs.Types.{Ty}
use Rattle.eff.specs.Tables.{Tables}
use Rattle.eff.specs.Dirt.{sets, ◌⊆◌, weight}
use Rattle.eff.specs.Steps.{◌⇝◌}
use Rattle.eff.specs.Claims.{HasType}
use Rattle.eff.specs.declared.question.Call.{Call}
use Rattle.step.specs.Values.{shown}
use Rattle.machine.specs.declared.report.State.{State}
use Rattle.machine.specs.declared.report.State.TheVariants.{Paused, Done, Stopped, Full, Limit}
use Rattle.machine.specs.Turns.{limit}

module _ (T : Tables) (A : Ty) (d : ℕ) where
  -- the call i#op is in the dirt d
  abbrev pub InDirt : (i op : ℕ) → Type 0
  InDirt i op = ◌⊆◌ (sets T) (weight i op) d

  -- A run stands well in a state: done with a value whose claims follow at A, stopped at a call of d, full, at its limit, or paused before a step
  -- or a call of d.
  pub data StandsWell (room : ℕ) (c : Term comp) (steps : ℕ) : State → Type 0 where
    done : (v : Term expr) → c ≡ val v → HasType T (sets T) expr v A → StandsWell room c steps (Done (shown v))
    stopped : {q : Call} → InDirt q.instance q.op → StandsWell room c steps (Stopped q)
    full : (b : Term comp) → ◌⇝◌ T c b → room < size b → StandsWell room c steps Full
    at_limit : steps ≡ limit → StandsWell room c steps Limit
    before_step : (b : Term comp) → ◌⇝◌ T c b → StandsWell room c steps Paused
    before_call : {e op i : ℕ} {v : Term expr} {k : Term comp} → c ≡ call e op (inst i) v k → InDirt i op → StandsWell room c steps Paused

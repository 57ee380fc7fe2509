-- The stages of a step: the question of a call, the writing of the next computation.
use Rattle.std.specs.Prelude.{◌≡◌, ℕ, List, Some, None, Option, Ok, Err, Result}
use Rattle.eff.specs.Sorts.{expr, comp}
use Rattle.eff.specs.Syntax.{Term, call, flatten}
use Rattle.eff.specs.Tables.{Tables}
use Rattle.eff.specs.Outcome.{step}
use Rattle.eff.specs.declared.part.Part.{Part}
use Rattle.step.specs.declared.halt.Halt.{Halt}
use Rattle.step.specs.declared.halt.Halt.TheVariants.{Stuck}
use Rattle.step.specs.declared.stepping.Asking.{Asking}
use Rattle.step.specs.declared.stepping.Outcome.TheVariants.{Asks, Next}
use Rattle.step.specs.Rewrites.{ready}
use Rattle.step.specs.Spine.{Redex}
use Rattle.step.specs.Steps.{Answer, Answers}

-- the parts are those of a call
pub record ACall (ps : List Part) : Type 0 where
  pub e : ℕ
  pub op : ℕ
  pub x : Term expr
  pub v : Term expr
  pub c : Term comp
  pub is : ps ≡ flatten (call e op x v c)

-- the answer to a call, by what it asks
abbrev pub asking_is : Option Asking → Answer
asking_is (Some a) = Ok (Asks a)
asking_is None = Err Stuck

-- the answer to a computation that takes a step of its own, by how many parts the next one has
abbrev pub next_is : Result ℕ Halt → Answer
next_is (Ok n) = Ok (Next n)
next_is (Err h) = Err h

-- the answer to a call follows its outcome
pub record AskingOf (T : Tables) (ps : List Part) (r : Option Asking) : Type 0 where
  pub asks : (room : ℕ) (new : List Part) (e op : ℕ) (x v : Term expr) (c : Term comp) → ps ≡ flatten (call e op x v c)
      → Answers T (step T (call e op x v c)) room new (asking_is r)

-- the answer to a computation whose redex opens the rest follows its outcome
pub record Nexts (T : Tables) (before rest : List Part) (room : ℕ) (new : List Part) (r : Result ℕ Halt) : Type 0 where
  pub nexts : (t : Term comp) (d : Redex before rest t) → ready T d.u → Answers T (step T t) room new (next_is r)

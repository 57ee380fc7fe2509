-- What a run shows, and what an advance makes of it.
use Rattle.std.specs.Prelude.{ℕ, ◌+◌, min, max, Bool, true, false, cond, List, length, Some, None, Option}
use Rattle.eff.specs.Sorts.{comp}
use Rattle.eff.specs.Syntax.{Term}
use Rattle.eff.specs.declared.question.Question.{Question}
use Rattle.host.specs.Meaning.{Replies}
use Rattle.sheet.specs.Rows.{Listing}
use Rattle.table.specs.Meant.{tables_of}
use Rattle.machine.specs.declared.report.State.{State}
use Rattle.machine.specs.declared.report.State.TheVariants.{Refused, Paused, Done, Stopped, Full, Limit}
use Rattle.machine.specs.declared.report.Report.{Report}
use Rattle.machine.specs.Turns.{Gone, rest, going, only_if, paused}

-- A run as it is seen: the rows of its recipe, the lengths of its shorter and its longer slab, its state, its steps, how many questions it has put,
-- and the term at the start of its first slab.
pub record View : Type 0 where
  pub recipe : Listing
  pub shorter : ℕ
  pub longer : ℕ
  pub state : State
  pub steps : ℕ
  pub asked : ℕ
  pub term : Term comp

-- the view of a run of a recipe with these rows, in slabs of these lengths, that has gone so far
abbrev pub view_of : Listing → (first second : ℕ) → Gone → View
view_of l first second g = record {
  recipe = l;
  shorter = min first second;
  longer = max first second;
  state = g.state;
  steps = g.steps;
  asked = length g.put;
  term = g.computation;
}

-- a run that was made against the test was not begun
abbrev pub begun : State → Bool
begun Refused = false
begun Paused = true
begun (Done s) = true
begun (Stopped q) = true
begun Full = true
begun Limit = true

-- its computation, if it was begun
abbrev pub computation : View → Option (Term comp)
computation v = cond (begun v.state) (Some v.term) None

abbrev pub report : View → Report
report v = record { state = v.state; steps = v.steps; asked = v.asked }

-- how far an advance by n goes from here, over a host that now means m; a run that is not paused stays as it is
abbrev pub onward : Replies → ℕ → View → Gone
onward m n v =
    only_if (paused v.state) (rest v.state v.steps v.term) (λ _. going (tables_of v.recipe) v.shorter n m v.steps v.term)

-- the view after going so far
abbrev pub gone_to : View → Gone → View
gone_to v g = record {
  recipe = v.recipe;
  shorter = v.shorter;
  longer = v.longer;
  state = g.state;
  steps = g.steps;
  asked = v.asked + length g.put;
  term = g.computation;
}

-- the view after an advance by n, and the questions that it puts
abbrev pub advance_view : Replies → ℕ → View → View
advance_view m n v = gone_to v (onward m n v)

abbrev pub questions : Replies → ℕ → View → List Question
questions m n v = (onward m n v).put

-- What a run shows.
use Rattle.std.specs.Prelude.{min, max, length, take}
use Rattle.eff.specs.Spelling.{term_of}
use Rattle.recipe.specs.Readers.{rows}
use Rattle.machine.specs.Views.{View}
use Rattle.runs.specs.declared.run.Run.{Run}

-- the view of a run
abbrev pub viewed : Run → View
viewed r = record {
  recipe = rows r.recipe.now;
  shorter = min (length r.first.now) (length r.second.now);
  longer = max (length r.first.now) (length r.second.now);
  state = r.report.state;
  steps = r.report.steps;
  asked = r.report.asked;
  term = term_of (take r.size r.first.now);
}

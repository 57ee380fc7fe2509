use Rattle.std.proofs.Common.{refl}
use Rattle.sheet.specs.Scan.{scan}
use Rattle.eff.specs.Tables.{type}
use Rattle.eff.specs.Dirt.{leaves}
use Rattle.eff.specs.Spelling.{term_of}
use Rattle.eff.proofs.Worked.{worked}
use Rattle.claim.specs.Below.{below}
use Rattle.claim.specs.Test.{admits}
use Rattle.machine.specs.Turns.{going}
use Rattle.worked.proofs.cases.cases_work.Goals as goal

pub returns : goal.returns
unfolding scan type leaves term_of below admits going
returns c = record {
  at_counter = refl;
  rationed_1 = refl;
  region_grows = worked.region_grows;
  region_shrinks = worked.region_shrinks;
  argument_shrinks = worked.argument_shrinks;
  argument_grows = worked.argument_grows;
  handled = refl;
  passed = refl;
  forever_9 = refl;
  forever_10 = refl;
  forever_waits = refl;
  cut_24 = refl;
  cut_25 = refl;
  unit_0 = refl;
  truth_0 = refl;
  choices = refl;
  wrong_claim = refl;
}

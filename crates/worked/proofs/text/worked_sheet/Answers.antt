use Rattle.std.proofs.Common.{refl}
use Rattle.sheet.specs.Scan.{scan}
use Rattle.worked.proofs.text.worked_sheet.Goals as goal

pub returns : goal.returns
unfolding scan
returns c = record { text = refl; rows = refl }

use Rattle.std.proofs.Common.{◌-◌, length}
use Rattle.claim.specs.Checker.{rows}
use Rattle.claim.proofs.checker.Checker.+left.Given as goal

abbrev pub decreases-left : goal.decreases-left
decreases-left l = length (rows l.self.now).parts - l.at

use Rattle.std.proofs.Common.{◌-◌, length}
use Rattle.claim.specs.Checker.{rows}
use Rattle.claim.proofs.checker.Checker.+cases_computation_expression.Given as goal

abbrev pub decreases-cases : goal.decreases-cases
decreases-cases l = length (rows l.self.now).parts - l.at

abbrev pub decreases-computation : goal.decreases-computation
decreases-computation l = length (rows l.self.now).parts - l.at

abbrev pub decreases-expression : goal.decreases-expression
decreases-expression l = length (rows l.self.now).parts - l.at

use Rattle.eff.proofs.theorem.cases_work.Goals as goal
use Rattle.eff.proofs.Worked.{worked}

pub returns : goal.returns
returns c = worked

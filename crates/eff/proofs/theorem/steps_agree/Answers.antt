use Rattle.eff.proofs.theorem.steps_agree.Goals as goal
use Rattle.eff.proofs.Agree.{steps_agree}

pub returns : goal.returns
returns c = steps_agree

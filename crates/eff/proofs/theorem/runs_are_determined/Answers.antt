use Rattle.eff.proofs.theorem.runs_are_determined.Goals as goal
use Rattle.eff.proofs.Runs.{determined}

pub returns : goal.returns
returns c = determined

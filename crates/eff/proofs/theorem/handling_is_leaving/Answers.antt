use Rattle.eff.proofs.theorem.handling_is_leaving.Goals as goal
use Rattle.eff.proofs.Handled.{handling_is_leaving}

pub returns : goal.returns
returns c = handling_is_leaving

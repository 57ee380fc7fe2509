use Rattle.eff.proofs.theorem.subtyping_is_an_order.Goals as goal
use Rattle.eff.proofs.Subtypes.{ordered}

pub returns : goal.returns
returns c = ordered

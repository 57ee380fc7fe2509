use Rattle.eff.proofs.theorem.moves_keep_size.Goals as goal
use Rattle.eff.proofs.Closed.{moves_keep_size}

pub returns : goal.returns
returns c = moves_keep_size

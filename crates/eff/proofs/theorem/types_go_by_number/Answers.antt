use Rattle.eff.proofs.theorem.types_go_by_number.Goals as goal
use Rattle.eff.proofs.TypeNumbers.{by_number}

pub returns : goal.returns
returns c = by_number

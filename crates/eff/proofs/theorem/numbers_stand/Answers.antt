use Rattle.eff.proofs.theorem.numbers_stand.Goals as goal
use Rattle.eff.proofs.KindNumbers.{numbers}

pub returns : goal.returns
returns c = numbers

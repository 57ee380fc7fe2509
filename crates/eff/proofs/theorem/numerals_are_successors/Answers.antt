use Rattle.eff.proofs.theorem.numerals_are_successors.Goals as goal
use Rattle.eff.proofs.Spelled.{numerals}

pub returns : goal.returns
returns c = numerals

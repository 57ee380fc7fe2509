use Rattle.eff.proofs.theorem.parts_are_of_one_term.Goals as goal
use Rattle.eff.proofs.Spelling.{one_term}

pub returns : goal.returns
returns c = one_term

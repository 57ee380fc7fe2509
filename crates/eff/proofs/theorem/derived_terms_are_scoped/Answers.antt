use Rattle.eff.proofs.theorem.derived_terms_are_scoped.Goals as goal
use Rattle.eff.proofs.Closed.{scoped}

pub returns : goal.returns
returns c = scoped

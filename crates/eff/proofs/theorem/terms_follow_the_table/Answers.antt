use Rattle.eff.proofs.theorem.terms_follow_the_table.Goals as goal
use Rattle.eff.proofs.Tabled.{follow}

pub returns : goal.returns
returns c = follow

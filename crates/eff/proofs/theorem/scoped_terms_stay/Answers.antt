use Rattle.eff.proofs.theorem.scoped_terms_stay.Goals as goal
use Rattle.eff.proofs.Closed.{put_none}

pub returns : goal.returns
returns c s t n v h = put_none t n v h

use Rattle.eff.proofs.theorem.claims_follow_by_part.Goals as goal
use Rattle.eff.proofs.Parted.{by_part}

pub returns : goal.returns
returns c = by_part

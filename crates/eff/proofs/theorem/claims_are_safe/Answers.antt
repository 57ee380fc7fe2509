use Rattle.eff.proofs.theorem.claims_are_safe.Goals as goal
use Rattle.eff.proofs.ClaimSafety.{claims_are_safe}

pub returns : goal.returns
returns c = claims_are_safe

use Rattle.eff.proofs.theorem.claims_are_derivations.Goals as goal
use Rattle.eff.proofs.Claimed.{claims_are_derivations}

pub returns : goal.returns
returns c = claims_are_derivations

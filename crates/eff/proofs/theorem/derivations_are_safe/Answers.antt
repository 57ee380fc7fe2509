use Rattle.eff.proofs.theorem.derivations_are_safe.Goals as goal
use Rattle.eff.proofs.Runs.{derivations_are_safe}

pub returns : goal.returns
returns c = derivations_are_safe

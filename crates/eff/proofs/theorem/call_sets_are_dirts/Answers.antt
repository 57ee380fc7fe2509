use Rattle.eff.proofs.theorem.call_sets_are_dirts.Goals as goal
use Rattle.eff.proofs.CallSets.{call_sets}

pub returns : goal.returns
returns c = call_sets

use Rattle.step.proofs.law.values_are_shown.Goals as goal
use Rattle.step.proofs.Typed.{values_are_shown}

pub returns : goal.returns
returns c = values_are_shown

use Rattle.std.proofs.Common.{◌≤◌, length}
use Rattle.step.proofs.Descending.{Reaches}
use Rattle.step.proofs.spine.split_at_redex.Given as goal

abbrev pub invariant-loop-inner : goal.invariant-loop-inner
invariant-loop-inner l = (length l.rest ≤ length l.parts) × Reaches l.parts l.rest

abbrev pub decreases-loop-inner : goal.decreases-loop-inner
decreases-loop-inner l = length l.rest

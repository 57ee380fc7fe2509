use Rattle.std.proofs.Common.{◌≡◌, ◌+◌, ◌*◌, ◌≤◌, drop}
use Rattle.step.specs.Walk.{skip}
use Rattle.step.proofs.walk.split_term.Given as goal

abbrev pub invariant-loop-end : goal.invariant-loop-end
invariant-loop-end l = (l.wanted ≤ 1 + 2 * l.end) × (skip 1 l.parts ≡ l.end + skip l.wanted (drop l.end l.parts))

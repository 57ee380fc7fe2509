use Rattle.std.proofs.Common.{map, length, drop}
use Rattle.step.specs.Reading.{Reached}
use Rattle.step.proofs.Forests.{sort}
use Rattle.step.proofs.reading.+after_term.Given as goal

abbrev pub decreases-after_term : goal.decreases-after_term
decreases-after_term l = length l.parts.now

abbrev pub invariant-loop-child : goal.invariant-loop-child
invariant-loop-child l =
    Reached (map sort l.child-items) (map sort (drop l.child-index l.child-items)) (drop 1 l.parts) l.rest

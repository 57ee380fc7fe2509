use Rattle.std.proofs.Common.{◌+◌, ◌*◌}
use Rattle.claim.specs.Decoded.{rank}
use Rattle.claim.proofs.checker.Checker.+lies_lies_dirty_subtype.Given as goal

abbrev pub decreases-lies : goal.decreases-lies
decreases-lies l = 3 * (rank l.p + rank l.q)

abbrev pub decreases-lies_dirty : goal.decreases-lies_dirty
decreases-lies_dirty l = 3 * (l.x.ty + l.y.ty) + 2

abbrev pub decreases-subtype : goal.decreases-subtype
decreases-subtype l = 3 * (l.x + l.y) + 1

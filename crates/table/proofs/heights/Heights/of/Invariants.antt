use Rattle.std.proofs.Common.{◌≡◌, ℕ, ◌+◌, ◌<◌, get_or}
use Rattle.table.specs.Heights.{height_at}
use Rattle.table.proofs.heights.Heights.of.Given as goal

abbrev pub invariant-loop-t : goal.invariant-loop-t
invariant-loop-t l = record {
  next : l.heights.n ≡ 4 + l.t-index;
  done : (k : ℕ) → k < 4 + l.t-index → get_or l.heights.heights k 1 ≡ height_at l.t-items k;
}

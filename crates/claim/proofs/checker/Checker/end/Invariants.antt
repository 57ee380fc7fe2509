use Rattle.std.proofs.Common.{◌≡◌, ◌+◌, ◌*◌, ◌≤◌}
use Rattle.claim.specs.Checker.{rows}
use Rattle.claim.specs.Placing.{end_of, extent}
use Rattle.claim.proofs.Extents.{kinds_from}
use Rattle.claim.proofs.checker.Checker.end.Given as goal

abbrev pub invariant-loop-next : goal.invariant-loop-next
invariant-loop-next l = record {
  small : l.wanted ≤ 1 + 3 * l.next;
  reached : end_of (rows l.self) l.at ≡ l.next + extent l.wanted (kinds_from (rows l.self) l.next);
}

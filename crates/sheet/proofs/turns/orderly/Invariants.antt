use Rattle.std.proofs.Common.{◌≡◌, ◌+◌, ◌≤◌, drop}
use Rattle.sheet.specs.Answer.{orderly}
use Rattle.sheet.proofs.turns.orderly.Given as goal

abbrev pub invariant-loop-i : goal.invariant-loop-i
invariant-loop-i l =
    record {
      same : orderly 2 0 0 l.rows ≡ orderly (2 + l.i) l.effect l.op (drop l.i l.rows);
      effects : l.effect ≤ l.i;
      operations : l.op ≤ l.i;
    }

use Rattle.std.proofs.Common.{◌≡◌, ◌≤◌, length}
use Rattle.sheet.specs.Text.{Table, Row}
use Rattle.sheet.specs.Scan.{Place, digit}
use Rattle.sheet.specs.Walk.{rest, reads}
use Rattle.sheet.proofs.reader.Reader.value.Given as goal

abbrev pub invariant-loop-d : goal.invariant-loop-d
invariant-loop-d l =
    (length (rest l.self) ≤ length (rest l.initial.self))
    × ((p : Place) (t : Table) (row : Row) → reads (digit p t row l.initial.n) l.initial.self ≡ reads (digit p t row l.n) l.self)

abbrev pub decreases-loop-d : goal.decreases-loop-d
decreases-loop-d l = length (rest l.self)

use Rattle.std.proofs.Common.{◌≡◌, ◌+◌, ◌≤◌, [], length, take}
use Rattle.sheet.specs.Text.{Table}
use Rattle.sheet.specs.Scan.{Place, begin, filled}
use Rattle.sheet.specs.Walk.{rest, reads}
use Rattle.sheet.proofs.reader.Reader.values.Given as goal

abbrev pub invariant-loop-i : goal.invariant-loop-i
invariant-loop-i g l =
    record {
      reads : (p : Place) (t : Table) → p.here.cols ≡ g.row.W → reads (begin p t []) l.initial.self ≡ reads (filled p t (take l.i l.value-items)) l.self;
      fewer : l.i + length (rest l.self) ≤ length (rest l.initial.self);
      long : length l.value-items ≡ g.row.W;
    }

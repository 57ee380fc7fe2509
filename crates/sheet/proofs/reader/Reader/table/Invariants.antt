use Rattle.std.proofs.Common.{◌≡◌, ◌+◌, ◌≤◌, [], length, replicate}
use Rattle.sheet.specs.Text.{Table}
use Rattle.sheet.specs.Scan.{Place, line}
use Rattle.sheet.specs.Walk.{rest, reads, Gathered}
use Rattle.sheet.proofs.reader.Reader.table.Given as goal

abbrev pub invariant-loop-values : goal.invariant-loop-values
invariant-loop-values g l =
    record {
      few : l.count + length (rest l.self) ≤ length (rest l.initial.self);
      gathered : (t : Table)
          × Gathered g.R.Cells.made g.row.N (g.R.Cells.made (replicate g.row.W 0)) l.rows t l.count
          × ((p : Place) → p.here.cols ≡ g.row.W → reads (line p []) l.initial.self ≡ reads (line p t) l.self);
    }

abbrev pub decreases-loop-values : goal.decreases-loop-values
decreases-loop-values g l = length (rest l.self)

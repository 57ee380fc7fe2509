use Rattle.std.proofs.Common.{◌≡◌}
use Rattle.sheet.specs.Scan.{Place, title, titled}
use Rattle.sheet.specs.Walk.{reads}
use Rattle.sheet.proofs.reader.Reader.names.Given as goal

abbrev pub invariant-loop-b : goal.invariant-loop-b
invariant-loop-b l =
    (p : Place) → p.here.names ≡ l.names → reads (title p 0) l.initial.self ≡ reads (titled p l.b-index) l.self

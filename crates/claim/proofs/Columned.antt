-- When the columns of every part of a labelled term are in range.
use Rattle.std.specs.List.{AllByRecursion}
use Rattle.eff.specs.Sorts.{Sort}
use Rattle.eff.specs.Syntax.{flatten}
use Rattle.eff.specs.Labels.{Labelled, erase}
use Rattle.eff.specs.declared.part.Part.{Part}
use Rattle.sheet.specs.Rows.{Listing}
use Rattle.table.specs.Ranges.{Columns}

abbrev pub Columned : {s : Sort} → Listing → Labelled s → Type 0
Columned l t = AllByRecursion (λ (p : Part). Columns l p.kind p.a p.b) (flatten (erase t))

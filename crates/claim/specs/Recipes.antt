-- The computation that a sheet's parts are, and its claims.
use Rattle.std.specs.Prelude.{List, map}
use Rattle.eff.specs.Sorts.{comp}
use Rattle.eff.specs.Kinds.{kinded}
use Rattle.eff.specs.Syntax.{Term, part}
use Rattle.eff.specs.Labels.{Labelled}
use Rattle.eff.specs.Spelling.{term_of, attach}
use Rattle.eff.specs.declared.part.Part.{Part}
use Rattle.sheet.specs.declared.rows.PartRow.{PartRow}
use Rattle.sheet.specs.Rows.{Listing}
use Rattle.claim.specs.Placing.{claim_of}
pub use Rattle.claim.specs.Placing.{kind_or}

-- the part of a row
abbrev pub row_part : PartRow → Part
row_part p = part (kind_or (kinded p.kind)) p.a p.b

abbrev pub parts_of : Listing → List Part
parts_of l = map row_part l.parts

-- the computation that the parts are
abbrev pub listed_term : Listing → Term comp
listed_term l = term_of (parts_of l)

-- with their claims
abbrev pub labels_of : Listing → Labelled comp
labels_of l = attach (listed_term l) (map (claim_of l) l.parts)

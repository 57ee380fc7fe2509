-- What a sheet in range declares.
use Rattle.eff.specs.Tables.{Tables}
use Rattle.eff.specs.Dirt.{Dirts, sets}
use Rattle.sheet.specs.Rows.{Listing}
use Rattle.sheet.specs.Answer.{listing}
use Rattle.table.specs.Meant.{tables_of}
use Rattle.table.specs.declared.ranged.Ranged.{Ranged}

-- its rows
abbrev pub rows : Ranged → Listing
rows s = listing s.tables

-- its tables
abbrev pub declared : Ranged → Tables
declared s = tables_of (rows s)

-- its dirts: call sets
abbrev pub dirts : Ranged → Dirts
dirts s = sets (declared s)

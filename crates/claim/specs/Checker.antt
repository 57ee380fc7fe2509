-- What a checker reads.
use Rattle.eff.specs.Tables.{Tables}
use Rattle.eff.specs.Dirt.{Dirts}
use Rattle.sheet.specs.Rows.{Listing}
use Rattle.claim.specs.Sheets as sheet
use Rattle.claim.specs.declared.checker.Checker.{Checker}

-- its sheet's rows
abbrev pub rows : Checker → Listing
rows c = sheet.rows c.sheet.now

-- its sheet's tables
abbrev pub declared : Checker → Tables
declared c = sheet.declared c.sheet.now

-- and their dirts
abbrev pub dirts : Checker → Dirts
dirts c = sheet.dirts c.sheet.now

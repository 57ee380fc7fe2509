-- Which rows are those of a recipe, and what a recipe's place holds.
use Rattle.std.specs.Prelude.{◌≡◌, ◌⊎◌, []}
use Rattle.fault.specs.Search.{NoLine}
use Rattle.eff.specs.Sorts.{comp}
use Rattle.eff.specs.Types.{Dirty}
use Rattle.eff.specs.Dirt.{sets}
use Rattle.eff.specs.Scope.{Scoped}
use Rattle.eff.specs.Labels.{Labelled, erase, DeclaredClaims}
use Rattle.eff.specs.Claims.{Follows}
use Rattle.sheet.specs.declared.tables.Tables.{Tables}
use Rattle.sheet.specs.Rows.{Listing, no_rows}
use Rattle.sheet.specs.Faults.{count, SizeFault, TurnFault}
use Rattle.sheet.specs.Answer.{contents, holding, listing}
use Rattle.table.specs.Meant.{tables_of}
use Rattle.table.specs.Ranges.{AllInRange}
use Rattle.shape.specs.Faults.{NamesFault}
use Rattle.claim.specs.Placing.{claim_of, row, RowsOf}

-- Rows within the limits, in turn and in range, whose parts are one closed computation, none under too many names, with declared claims that follow.
pub record Admitted (l : Listing) : Type 0 where
  pub sizes : NoLine (SizeFault (count l))
  pub turns : NoLine (TurnFault l)
  pub ranges : AllInRange l
  pub labels : Labelled comp
  pub rows : RowsOf l comp labels l.parts
  pub closed : Scoped 0 (erase labels)
  pub names : NoLine (NamesFault l)
  pub declared : DeclaredClaims (tables_of l) (sets (tables_of l)) labels
  pub follows : Follows (tables_of l) (sets (tables_of l)) [] labels

-- what the first part claims, which is the recipe's type and dirt
abbrev pub claimed : Listing → Dirty
claimed l = claim_of l (row l 0)

-- all zero, or the rows of a recipe and zeros past them
abbrev pub Sound : Tables → Type 0
Sound t = (contents t ≡ holding no_rows) ⊎ ((contents t ≡ holding (listing t)) × Admitted (listing t))

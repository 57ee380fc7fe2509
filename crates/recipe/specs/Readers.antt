-- What is read of a recipe.
use Rattle.std.specs.Prelude.{ℕ, length, slice_index_or}
use Rattle.eff.specs.Syntax.{part}
use Rattle.eff.specs.Tables.{Tables}
use Rattle.eff.specs.declared.part.Part.{Part}
use Rattle.eff.specs.declared.kind.Kind.TheVariants.{Nil}
use Rattle.sheet.specs.Rows.{Listing}
use Rattle.sheet.specs.Dirty.{dirty_of}
use Rattle.sheet.specs.declared.dirty.Dirty.{Dirty}
use Rattle.sheet.specs.Answer.{listing}
use Rattle.table.specs.Meant.{tables_of}
use Rattle.claim.specs.Placing.{row}
use Rattle.claim.specs.Recipes.{parts_of}
use Rattle.recipe.specs.declared.recipe.Recipe.{Recipe}

-- its rows
abbrev pub rows : Recipe → Listing
rows r = listing r.tables

-- its tables, as typing and steps take them
abbrev pub declared : Recipe → Tables
declared r = tables_of (rows r)

-- how many parts it has
abbrev pub size : Recipe → ℕ
size r = length (rows r).parts

-- its part of a number, a nil past the last
abbrev pub part_at : Recipe → ℕ → Part
part_at r n = slice_index_or (parts_of (rows r)) n (part Nil 0 0)

-- the claim of the first part, by the number of its type; zeros where there is none
abbrev pub claim_columns : Listing → Dirty
claim_columns l = dirty_of (row l 0)

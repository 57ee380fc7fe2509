-- What stands at the start of a run's first slab.
use Rattle.std.specs.Prelude.{◌<◌, List, length}
use Rattle.eff.specs.Sorts.{comp}
use Rattle.eff.specs.Dirt.{sets}
use Rattle.eff.specs.Claims.{HasType}
use Rattle.eff.specs.Spelling.{term_of, Whole}
use Rattle.eff.specs.declared.part.Part.{Part}
use Rattle.sheet.specs.Rows.{Listing}
use Rattle.table.specs.Meant.{tables_of}
use Rattle.recipe.specs.Admitted.{claimed}

-- The parts of a closed computation of the recipe's claimed type.
pub record Running (l : Listing) (ps : List Part) : Type 0 where
  pub some : 0 < length l.parts
  pub whole : Whole ps
  pub typed : HasType (tables_of l) (sets (tables_of l)) comp (term_of ps) (claimed l)

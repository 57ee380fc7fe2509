use Rattle.std.proofs.Common.{◌≡◌, take}
use Rattle.claim.specs.Recipes.{parts_of}
use Rattle.recipe.specs.Readers.{rows}
use Rattle.runs.proofs.start.copy.Given as goal

abbrev pub invariant-loop-at : goal.invariant-loop-at
invariant-loop-at l = take l.at l.part-items ≡ take l.at (parts_of (rows l.recipe))

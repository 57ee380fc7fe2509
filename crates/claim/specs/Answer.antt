-- Whether the claims of a sheet's parts follow, or the first refusal with its line.
use Rattle.std.specs.Prelude.{◌≡◌, ℕ, [], Ok, Err}
use Rattle.fault.specs.Search.{Verdict, First, NoLine}
use Rattle.fault.specs.declared.claim.ClaimFault.{ClaimFault}
use Rattle.fault.specs.declared.claim.ClaimFault.TheVariants.{Shape, Claim}
use Rattle.eff.specs.Sorts.{comp}
use Rattle.eff.specs.Dirt.{sets}
use Rattle.eff.specs.Labels.{Labelled}
use Rattle.sheet.specs.Rows.{Listing}
use Rattle.sheet.specs.Faults.{parts, count, row_line}
use Rattle.table.specs.Meant.{tables_of}
use Rattle.claim.specs.Standing.{Breaks}
use Rattle.claim.specs.Test.{claimed}
use Rattle.claim.specs.Placing.{RowsOf}
use Rattle.claim.specs.Recipes.{labels_of}

-- a part of the labelled computation that the sheet's parts are breaks its rule
pub data RuleFault (l : Listing) (line : ℕ) : Type 0 where
  breaks : (t : Labelled comp) → RowsOf l comp t l.parts → (i : ℕ) → Breaks (tables_of l) (sets (tables_of l)) comp [] t i → line ≡ row_line (count l) parts i
      → RuleFault l line

-- the first part that breaks its rule
abbrev pub answer : Listing → Verdict ClaimFault
answer l = claimed (tables_of l) (sets (tables_of l)) (row_line (count l) parts 0) [] (labels_of l)

-- what a refusal means for these rows
abbrev pub Refused : Listing → ℕ → ClaimFault → Type 0
Refused l line (Shape f) = ⊥
Refused l line Claim = First (RuleFault l) line

-- what an answer means for these rows
abbrev pub Answered : Listing → Verdict ClaimFault → Type 0
Answered l (Ok u) = NoLine (RuleFault l)
Answered l (Err e) = Refused l e.line e.fault

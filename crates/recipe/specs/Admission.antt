-- What is made of a sheet: a recipe, or the first refusal with its line.
use Rattle.std.specs.Prelude.{◌≡◌, ℕ, zero, suc, ◌↔◌, List, [], ◌∷◌, Ok, Err, Result}
use Rattle.fault.specs.declared.at.At.{At}
use Rattle.fault.specs.declared.shape.ShapeFault.{ShapeFault}
use Rattle.fault.specs.declared.claim.ClaimFault.{ClaimFault}
use Rattle.fault.specs.Numbers.{claim_number}
use Rattle.fault.specs.Upward.{in_claim}
use Rattle.fault.specs.Search.{Verdict, and_then, First, NoLine}
use Rattle.eff.specs.Sorts.{comp}
use Rattle.eff.specs.Dirt.{sets}
use Rattle.eff.specs.Checked.{Checked}
use Rattle.eff.specs.Rules.{Derives}
use Rattle.eff.specs.Claims.{HasType}
use Rattle.sheet.specs.Text.{forms, Writes, FirstWrong, line_after}
use Rattle.sheet.specs.Rows.{Listing, no_rows, sheet_of}
use Rattle.sheet.specs.Faults.{count, SizeFault, TurnFault}
use Rattle.sheet.specs.Answer.{Contents, holding}
use Rattle.table.specs.Meant.{tables_of}
use Rattle.table.specs.Ranges.{ColumnFault, PartFault}
use Rattle.shape.specs.Faults.{TermFault, NamesFault}
use Rattle.shape.specs.Reading.{read_as}
use Rattle.claim.specs.Recipes.{listed_term}
use Rattle.claim.specs.Answer.{RuleFault, answer}
use Rattle.recipe.specs.Admitted.{Admitted, claimed}

abbrev pub raised : Result Listing (At ShapeFault) → Result Listing (At ClaimFault)
raised (Ok l) = and_then (answer l) (Ok l)
raised (Err e) = Err (in_claim e)

-- the rows of these bytes as a recipe's, or the first refusal
abbrev pub admission : List ℕ → Result Listing (At ClaimFault)
admission bs = raised (read_as bs)

abbrev pub verdict : Result Listing (At ClaimFault) → Verdict ClaimFault
verdict (Ok l) = Ok tt
verdict (Err e) = Err e

-- what the place holds then, whatever it held
abbrev pub placed : Result Listing (At ClaimFault) → Contents
placed (Ok l) = holding l
placed (Err e) = holding no_rows

-- what can be wrong with rows, in the order in which it is looked for: refusals 2 to 8
abbrev pub faults : Listing → List (ℕ → Type 0)
faults l = SizeFault (count l) ∷ TurnFault l ∷ ColumnFault l ∷ PartFault l ∷ TermFault l ∷ NamesFault l ∷ RuleFault l ∷ []

-- no line has any of the first n faults, and this is the first line that has the next
abbrev pub Named : ℕ → List (ℕ → Type 0) → ℕ → Type 0
Named n [] line = ⊥
Named zero (F ∷ Fs) line = First F line
Named (suc n) (F ∷ Fs) line = NoLine F × Named n Fs line

-- what the refusal of a number and a line means: 1 is that the bytes are not in form, from the first wrong byte on; the others are of rows
abbrev pub Refusal : List ℕ → ℕ → ℕ → Type 0
Refusal bs zero line = ⊥
Refusal bs (suc zero) line = (p : ℕ) × FirstWrong forms bs p × (line ≡ line_after p bs)
Refusal bs (suc (suc n)) line = (l : Listing) × Writes forms bs (sheet_of l) × Named n (faults l) line

-- what an answer means for these bytes
abbrev pub Answered : List ℕ → Result Listing (At ClaimFault) → Type 0
Answered bs (Ok l) = Writes forms bs (sheet_of l) × Admitted l
Answered bs (Err e) = Refusal bs (claim_number e.fault) e.line

-- a sheet is admitted just where some admitted rows are written by its bytes
abbrev pub Exactly : List ℕ → Verdict ClaimFault → Type 0
Exactly bs v = (v ≡ Ok tt) ↔ ((l : Listing) × Writes forms bs (sheet_of l) × Admitted l)

-- the tables of an admitted sheet are checked, and its computation has the type and dirt that its first part claims, by its claims and by the
-- inference rules
abbrev pub Typed : Result Listing (At ClaimFault) → Type 0
Typed (Ok l) =
    Checked (tables_of l) (sets (tables_of l)) × HasType (tables_of l) (sets (tables_of l)) comp (listed_term l) (claimed l)
    × Derives (tables_of l) (sets (tables_of l)) comp [] (listed_term l) (claimed l)
Typed (Err e) = Unit {0}

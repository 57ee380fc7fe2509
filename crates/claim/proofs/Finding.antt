-- A row of the parts, as the code finds it.
use Rattle.std.proofs.Common.{◌≡◌, ℕ, ◌<◌, true, ltb, ltb-true, List, [], length, get_or, sym, ap, ◌∙◌, subst}
use Rattle.std.proofs.lemmas.List.{get_or_default}
use Rattle.sheet.specs.declared.rows.PartRow.{PartRow}
use Rattle.sheet.specs.Rows.{part_of}

-- p is the row of number r
pub record Row (ps : List PartRow) (r : ℕ) (p : PartRow) : Type 0 where
  pub within : r < length ps
  pub is : p ≡ get_or ps r (part_of [])

pub found : (ps qs : List PartRow) (r : ℕ) (p : PartRow) → qs ≡ ps → true ≡ ltb r (length qs) → p ≡ get_or qs r p → Row ps r p
found ps qs r p e lt q =
    let h : r < length qs = ltb-true _ _ (sym lt) in
    record { within = subst (λ xs. r < length xs) e h; is = q ∙ get_or_default qs r p (part_of []) h ∙ ap (λ (xs : List PartRow). get_or xs r (part_of [])) e }

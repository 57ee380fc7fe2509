-- A run by calls goes as far as the sum of their allowances.
use Rattle.std.proofs.Common.{◌≡◌, ℕ, ◌+◌, min, Bool, true, false, List, [], ◌∷◌, sym, refl, ap, ◌∙◌}
use Rattle.eff.specs.Sorts.{comp}
use Rattle.eff.specs.Syntax.{Term}
use Rattle.eff.specs.Tables.{Tables}
use Rattle.host.specs.Meaning.{Replies, Alike}
use Rattle.machine.specs.Turns.{Gone, going, only_if, advanced}
use Rattle.machine.specs.Calls.{ready, unmade, total, called}
use Rattle.machine.proofs.Going.{same_going, joins}

module _ (T : Tables) (size : ℕ) (c : Term comp) (first second : ℕ) where
  -- by the sum
  abbrev pub summed : Replies → ℕ → Gone
  summed m n = only_if (ready size first second) unmade (λ _. going T (min first second) n m 0 c)

  more_summed : (m : Replies) (k n : ℕ) (b : Bool)
      → advanced T (min first second) n m (only_if b unmade (λ _. going T (min first second) k m 0 c)) ≡ only_if b unmade (λ _. going T (min first second) (k + n) m 0 c)
  more_summed m k n true = sym (joins T (min first second) k n m 0 c)
  more_summed m k n false = refl

  pub by_sum : (m : Replies) (ns : List ℕ) → called T size c first second m ns ≡ summed m (total ns)
  by_sum m [] = refl
  by_sum m (n ∷ ns) = ap (advanced T (min first second) n m) (by_sum m ns) ∙ more_summed m (total ns) n (ready size first second)

  same_summed : (m m' : Replies) → Alike m m' → (n : ℕ) (b : Bool)
      → only_if b unmade (λ _. going T (min first second) n m 0 c) ≡ only_if b unmade (λ _. going T (min first second) n m' 0 c)
  same_summed m m' h n true = same_going T (min first second) n m m' h 0 c
  same_summed m m' h n false = refl

  -- hosts that reply alike, and allowances of one sum, lead alike
  pub same_called : (m m' : Replies) → Alike m m' → (ns ns' : List ℕ) → total ns ≡ total ns'
      → called T size c first second m ns ≡ called T size c first second m' ns'
  same_called m m' h ns ns' e =
      by_sum m ns ∙ same_summed m m' h (total ns) (ready size first second) ∙ ap (summed m') e ∙ sym (by_sum m' ns')

-- The names in scope.
use Rattle.std.proofs.Common.{◌≡◌, ℕ, zero, suc, ◌+◌, ◌-◌, ◌<◌, ◌≤◌, false, List, [], ◌∷◌, map, slice_get, Some, None, refl, ap, arith}
use Rattle.eff.specs.Types.{Ty}
use Rattle.eff.specs.Tables.{Tables}
use Rattle.eff.specs.Dirt.{Dirts}
use Rattle.claim.specs.Below.{below}
use Rattle.claim.specs.Decoded.{decoded}
use Rattle.claim.specs.Test.{name_ok}
use Rattle.claim.specs.declared.form.Form.{Form}

module _ (T : Tables) (D : Dirts) (A : Ty) where
  -- a name of the scope, and a place that has none
  pub name_found : (fs : List Form) (n : ℕ) (f : Form) → slice_get fs n ≡ Some f → name_ok D (map (decoded T) fs) n A ≡ below D (decoded T f) A
  name_found [] n f e = cc
  name_found (g ∷ fs) zero f e = cc
  name_found (g ∷ fs) (suc n) f e = name_found fs n f e

  pub name_missing : (fs : List Form) (n : ℕ) → slice_get fs n ≡ None → name_ok D (map (decoded T) fs) n A ≡ false
  name_missing [] n e = refl
  name_missing (g ∷ fs) zero e = cc
  name_missing (g ∷ fs) (suc n) e = name_missing fs n e

module _ {A : Type 0} where
  -- a list without a name has none at any place
  pub none_in : (n : ℕ) → slice_get {X = A} [] n ≡ None
  none_in n = refl

  -- one name further out, the place is one less
  pub outwards : (a : A) (rest : List A) (place passed : ℕ) → passed < place → slice_get (a ∷ rest) (place - passed) ≡ slice_get rest (place - (passed + 1))
  outwards a rest place passed l = let e : place - passed ≡ suc (place - (passed + 1)) = omega (arith, l) in ap (slice_get (a ∷ rest)) e

  -- where all names within the place are passed, the latest left is it
  pub at_end : (a : A) (rest : List A) (place passed : ℕ) → place ≤ passed → slice_get (a ∷ rest) (place - passed) ≡ Some a
  at_end a rest place passed l = let e : place - passed ≡ 0 = omega (arith, l) in ap (slice_get (a ∷ rest)) e

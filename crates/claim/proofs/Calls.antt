-- What a case leaves of a dirt, by the one instance of its region.
use Rattle.std.proofs.Common.{◌≡◌, ℕ, zero, suc, ◌^◌, ◌<◌, refl, sym, ap, ◌∙◌, subst, arith}
use Rattle.std.proofs.lemmas.Bool.{eq-eqb, ne_eqb, cond-true, cond-false}
use native.Mathlib.Decide.{dec_lt}
use Rattle.eff.specs.Sets.{Holds}
use Rattle.eff.specs.Dirt.{Dirts, leaves, leaves_below}
use Rattle.eff.proofs.Sets.{holds_own, own_holds}

-- 2 ^ i is of i alone
alone : (i j : ℕ) → 2 ^ i ≡ 2 ^ j → i ≡ j
alone i j e = own_holds j i (subst (λ R. Holds R i) e (holds_own i))

module _ (D : Dirts) (R op d : ℕ) where
  leaves_found : (i n : ℕ) → i < n → R ≡ 2 ^ i → leaves_below D n R op d ≡ D.without i op d
  leaves_found i zero h e = absurd (omega arith)
  leaves_found i (suc n) h e =
      elim (dec_lt i n) [
        | yes m ↦ cond-false _ _ _ (ne_eqb R (2 ^ n) (λ q. let z = alone i n (sym e ∙ q) in omega (arith, z))) ∙ leaves_found i n m e
        | no m ↦ let z : n ≡ i = omega arith in cond-true _ _ _ (eq-eqb R (2 ^ n) (e ∙ ap (λ j. 2 ^ j) (sym z))) ∙ ap (λ j. D.without j op d) z
      ]

  leaves_none : (n : ℕ) → ((i : ℕ) → i < n → R ≡ 2 ^ i → ⊥) → leaves_below D n R op d ≡ d
  leaves_none zero h = refl
  leaves_none (suc n) h = cond-false _ _ _ (ne_eqb R (2 ^ n) (h n (omega arith))) ∙ leaves_none n (λ i l. h i (omega arith))

  pub leaves_at : (i : ℕ) → i < 16 → R ≡ 2 ^ i → leaves D R op d ≡ D.without i op d
  unfolding leaves
  leaves_at i h e = leaves_found i 16 h e

  pub leaves_all : ((i : ℕ) → i < 16 → R ≡ 2 ^ i → ⊥) → leaves D R op d ≡ d
  unfolding leaves
  leaves_all h = leaves_none 16 h

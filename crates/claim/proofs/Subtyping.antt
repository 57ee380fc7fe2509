-- The subtype test says which types lie below which.
use Rattle.std.proofs.Common.{◌≡◌, ℕ, Bool, true, false, ◌&&◌, eqb, Decides, Some, refl, sym, ap, ◌∙◌, arith}
use Rattle.std.proofs.lemmas.Bool.Decides.{Decides-eqb, Decides-and, Decides-like, same_from_decides}
use Rattle.eff.specs.Types.{Ty, Dirty, ground, fun, instance, hand}
use Rattle.eff.specs.Grounds.{number, grounded}
use Rattle.eff.proofs.KindNumbers.{numbers}
use Rattle.eff.specs.declared.ground.Ground.{Ground}
use Rattle.eff.specs.Dirt.{Dirts}
use Rattle.eff.specs.Subtyping.{◌⊴◌, ◌≦◌}
use Rattle.eff.proofs.Sets.{within_true, true_within}
use Rattle.eff.proofs.Subtypes.{Means, means, meant}
use Rattle.eff.specs.Sets.{Within, inside}
use Rattle.claim.specs.Below.{compared, below, below_dirty}

pub decides_not_at_all : {P : Type 0} → (P → ⊥) → Decides false P
decides_not_at_all n = (λ h. absurd (let z : ◌≡◌ {A = ℕ} 0 1 = cc in omega arith), λ p. absurd (n p))

-- an equation with true decides itself
pub itself : (b : Bool) → Decides b (b ≡ true)
itself b = (λ h. h, λ h. h)

pub one_ground : (g h : Ground) → number g ≡ number h → g ≡ h
one_ground g h e = let q : Some g ≡ Some h = sym (numbers.ground g) ∙ ap grounded e ∙ numbers.ground h in cc

decides_ground : (g h : Ground) → Decides (eqb (number g) (number h)) (g ≡ h)
decides_ground g h = Decides-like _ (one_ground g h) (ap number) (Decides-eqb (number g) (number h))

decides_inside : (R S : ℕ) → Decides (inside R S) (Within R S)
decides_inside R S = (true_within R S, within_true R S)

module _ (D : Dirts) where
  decides_region : (e e' R R' : ℕ) → Decides (eqb e e' && inside R R') ((e ≡ e') × Within R R')
  decides_region e e' R R' = Decides-and _ _ (Decides-eqb e e') (decides_inside R R')

  record Both (A B : Ty) : Type 0 where
    up : Decides (compared D A B).0 (◌⊴◌ D A B)
    down : Decides (compared D A B).1 (◌⊴◌ D B A)

  from_means : (A B : Ty) → Decides (compared D A B).0 (Means D A B) → Decides (compared D A B).1 (Means D B A) → Both A B
  from_means A B u d = record { up = Decides-like _ (meant D A B) (means D) u; down = Decides-like _ (meant D B A) (means D) d }

  unlike : (A B : Ty) → compared D A B ≡ (false, false) → (Means D A B → ⊥) → (Means D B A → ⊥) → Both A B
  unlike A B e u d = from_means A B (rw e (decides_not_at_all u)) (rw e (decides_not_at_all d))

  dec : (A B : Ty) → Both A B
  dec (ground g) (ground g') = from_means _ _ (decides_ground g g') (decides_ground g' g)
  dec (ground g) (fun A' B' d') = unlike _ _ refl (λ z. z) (λ z. z)
  dec (ground g) (instance e' R') = unlike _ _ refl (λ z. z) (λ z. z)
  dec (ground g) (hand A' d' B' e') = unlike _ _ refl (λ z. z) (λ z. z)
  dec (fun A B d) (ground g') = unlike _ _ refl (λ z. z) (λ z. z)
  dec (fun A B d) (fun A' B' d') =
      let a = dec A A' in let b = dec B B' in
      from_means (fun A B d) (fun A' B' d')
      (Decides-like _ (λ p. (p.0, p.1.0, p.1.1)) (λ p. (p.0, (p.1, p.2))) (Decides-and _ _ a.down (Decides-and _ _ b.up (itself (D.within d d')))))
      (Decides-like _ (λ p. (p.0, p.1.0, p.1.1)) (λ p. (p.0, (p.1, p.2))) (Decides-and _ _ a.up (Decides-and _ _ b.down (itself (D.within d' d)))))
  dec (fun A B d) (instance e' R') = unlike _ _ refl (λ z. z) (λ z. z)
  dec (fun A B d) (hand A' d' B' e') = unlike _ _ refl (λ z. z) (λ z. z)
  dec (instance e R) (ground g') = unlike _ _ refl (λ z. z) (λ z. z)
  dec (instance e R) (fun A' B' d') = unlike _ _ refl (λ z. z) (λ z. z)
  dec (instance e R) (instance e' R') = from_means _ _ (decides_region e e' R R') (decides_region e' e R' R)
  dec (instance e R) (hand A' d' B' e') = unlike _ _ refl (λ z. z) (λ z. z)
  dec (hand A d B e) (ground g') = unlike _ _ refl (λ z. z) (λ z. z)
  dec (hand A d B e) (fun A' B' d') = unlike _ _ refl (λ z. z) (λ z. z)
  dec (hand A d B e) (instance e' R') = unlike _ _ refl (λ z. z) (λ z. z)
  dec (hand A d B e) (hand A' d' B' e') =
      let a = dec A A' in let b = dec B B' in
      from_means (hand A d B e) (hand A' d' B' e')
      (Decides-like _ (λ p. (p.0.0, p.0.1, p.1.0, p.1.1)) (λ p. ((p.0, p.1), (p.2, p.3)))
      (Decides-and _ _ (Decides-and _ _ a.down (itself (D.within d' d))) (Decides-and _ _ b.up (itself (D.within e e')))))
      (Decides-like _ (λ p. (p.0.0, p.0.1, p.1.0, p.1.1)) (λ p. ((p.0, p.1), (p.2, p.3)))
      (Decides-and _ _ (Decides-and _ _ a.up (itself (D.within d d'))) (Decides-and _ _ b.down (itself (D.within e' e)))))

  -- the test decides subtyping
  pub decides_below : (A B : Ty) → Decides (below D A B) (◌⊴◌ D A B)
  unfolding below
  decides_below A B = (dec A B).up

  pub decides_dirty : (A B : Dirty) → Decides (below_dirty D A B) (◌≦◌ D A B)
  decides_dirty A B = Decides-and _ _ (decides_below A.0 B.0) (itself (D.within A.1 B.1))

  -- the second of the two tests is the first the other way round
  pub turned : (A B : Ty) → (compared D A B).1 ≡ below D B A
  unfolding below
  turned A B = same_from_decides _ _ (dec A B).down (dec B A).up

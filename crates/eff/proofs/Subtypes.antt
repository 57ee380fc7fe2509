-- Subtyping is reflexive and transitive, and what it comes to by the outermost forms.
use Rattle.std.proofs.Common.{◌≡◌, refl, subst}
use Rattle.eff.specs.Sets.{Within}
use Rattle.eff.specs.Types.{Ty, Dirty}
use Rattle.eff.specs.Types as t
use Rattle.eff.specs.Tables.{Tables}
use Rattle.eff.specs.Dirt.{Dirts, Laws, ◌⊆◌}
use Rattle.eff.specs.Subtyping.{◌⊴◌, ◌≦◌, ground≤, instance≤, fun≤, hand≤}
use Rattle.eff.specs.Subtyping.{SubtypingIsAnOrder}

module _ (T : Tables) (D : Dirts) (L : Laws T D) where
  open L use {self, trans}

  pub ⊴_refl : (A : Ty) → ◌⊴◌ D A A
  ⊴_refl (t.ground g) = ground≤
  ⊴_refl (t.fun A B d) = fun≤ (⊴_refl A) (⊴_refl B) (self d)
  ⊴_refl (t.instance e R) = instance≤ (λ k h. h)
  ⊴_refl (t.hand A d B e) = hand≤ (⊴_refl A) (self d) (⊴_refl B) (self e)

  -- by recursion on the type in the middle, since the arguments' sides are swapped
  pub ⊴_trans : (B : Ty) {A C : Ty} → ◌⊴◌ D A B → ◌⊴◌ D B C → ◌⊴◌ D A C
  ⊴_trans (t.ground g) ground≤ ground≤ = ground≤
  ⊴_trans (t.fun A B d) (fun≤ a b p) (fun≤ a' b' p') = fun≤ (⊴_trans A a' a) (⊴_trans B b b') (trans p p')
  ⊴_trans (t.instance e R) (instance≤ p) (instance≤ q) = instance≤ (λ k h. q k (p k h))
  ⊴_trans (t.hand A d B e) (hand≤ a p b q) (hand≤ a' p' b' q') = hand≤ (⊴_trans A a' a) (trans p' p) (⊴_trans B b b') (trans q q')

  pub ≦_refl : (C : Dirty) → ◌≦◌ D C C
  ≦_refl C = (⊴_refl C.0, self C.1)

  pub ≦_trans : (B A C : Dirty) → ◌≦◌ D A B → ◌≦◌ D B C → ◌≦◌ D A C
  ≦_trans B A C p q = (⊴_trans B.0 p.0 q.0, trans p.1 q.1)

-- what subtyping comes to, by the outermost forms
module _ (D : Dirts) where
  abbrev pub Means : Ty → Ty → Type 0
  Means (t.ground g) (t.ground g') = g ≡ g'
  Means (t.ground g) (t.fun A' B' d') = ⊥
  Means (t.ground g) (t.instance e' R') = ⊥
  Means (t.ground g) (t.hand A' d' B' e') = ⊥
  Means (t.fun A B d) (t.ground g') = ⊥
  Means (t.fun A B d) (t.fun A' B' d') = ◌⊴◌ D A' A × ◌⊴◌ D B B' × ◌⊆◌ D d d'
  Means (t.fun A B d) (t.instance e' R') = ⊥
  Means (t.fun A B d) (t.hand A' d' B' e') = ⊥
  Means (t.instance e R) (t.ground g') = ⊥
  Means (t.instance e R) (t.fun A' B' d') = ⊥
  Means (t.instance e R) (t.instance e' R') = (e ≡ e') × Within R R'
  Means (t.instance e R) (t.hand A' d' B' e') = ⊥
  Means (t.hand A d B e) (t.ground g') = ⊥
  Means (t.hand A d B e) (t.fun A' B' d') = ⊥
  Means (t.hand A d B e) (t.instance e' R') = ⊥
  Means (t.hand A d B e) (t.hand A' d' B' e') = ◌⊴◌ D A' A × ◌⊆◌ D d' d × ◌⊴◌ D B B' × ◌⊆◌ D e e'

  pub means : {A B : Ty} → ◌⊴◌ D A B → Means A B
  means ground≤ = refl
  means (fun≤ a b p) = (a, b, p)
  means (instance≤ p) = (refl, p)
  means (hand≤ a p b q) = (a, p, b, q)

  pub meant : (A B : Ty) → Means A B → ◌⊴◌ D A B
  meant (t.ground g) (t.ground g') m = subst (λ x. ◌⊴◌ D (t.ground g) (t.ground x)) m ground≤
  meant (t.ground g) (t.fun A' B' d') m = elim m [ ]
  meant (t.ground g) (t.instance e' R') m = elim m [ ]
  meant (t.ground g) (t.hand A' d' B' e') m = elim m [ ]
  meant (t.fun A B d) (t.ground g') m = elim m [ ]
  meant (t.fun A B d) (t.fun A' B' d') m = fun≤ m.0 m.1 m.2
  meant (t.fun A B d) (t.instance e' R') m = elim m [ ]
  meant (t.fun A B d) (t.hand A' d' B' e') m = elim m [ ]
  meant (t.instance e R) (t.ground g') m = elim m [ ]
  meant (t.instance e R) (t.fun A' B' d') m = elim m [ ]
  meant (t.instance e R) (t.instance e' R') m = subst (λ x. ◌⊴◌ D (t.instance e R) (t.instance x R')) m.0 (instance≤ m.1)
  meant (t.instance e R) (t.hand A' d' B' e') m = elim m [ ]
  meant (t.hand A d B e) (t.ground g') m = elim m [ ]
  meant (t.hand A d B e) (t.fun A' B' d') m = elim m [ ]
  meant (t.hand A d B e) (t.instance e' R') m = elim m [ ]
  meant (t.hand A d B e) (t.hand A' d' B' e') m = hand≤ m.0 m.1 m.2 m.3

pub ordered : SubtypingIsAnOrder
ordered T D L = record { reflexive = ⊴_refl T D L; transitive = λ A B C p q. ⊴_trans T D L B p q }

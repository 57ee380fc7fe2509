-- The subtype test by the forms of two types.
use Rattle.std.proofs.Common.{◌≡◌, ℕ, Bool, true, false, ◌&&◌, eqb, sym, refl, ap, ◌∙◌, ap₂}
use Rattle.eff.specs.Types.{Ty, ground, fun, instance, hand}
use Rattle.eff.specs.Grounds.{number}
use Rattle.eff.specs.Dirt.{Dirts}
use Rattle.eff.specs.declared.ground.Ground as ground
use Rattle.eff.specs.declared.ground.Ground.TheVariants as g
use Rattle.eff.specs.contracts.ground.Ground.{the_type}
use denote.Enum.Bare.{sameb}
use Rattle.claim.specs.Checker as s
use Rattle.claim.specs.declared.checker.Checker.{Checker}
use Rattle.sheet.specs.declared.dirty.Dirty.{Dirty}
use Rattle.eff.specs.Sets.{inside}
use Rattle.claim.specs.Below.{compared, below, below_dirty}
use Rattle.claim.specs.Decoded.{decoded}
use Rattle.claim.specs.declared.form.Form.{Form}
use Rattle.claim.specs.declared.form.Form.TheVariants.{Ground, Function, Instance, Handler}
use Rattle.claim.proofs.Subtyping.{turned}

-- one test after another
pub both : (x a b r : Bool) → x ≡ true → x ≡ a → r ≡ b → r ≡ (a && b)
both x a b r e f h = h ∙ ap (λ y. y && b) (sym e ∙ f)

pub neither : (x a b : Bool) → x ≡ false → x ≡ a → x ≡ (a && b)
neither x a b e f = e ∙ ap (λ y. y && b) (sym e ∙ f)

module _ (D : Dirts) where
  pub below_fun : (A B A' B' : Ty) (d d' : ℕ) → below D (fun A B d) (fun A' B' d') ≡ (below D A' A && below_dirty D (B, d) (B', d'))
  unfolding below
  below_fun A B A' B' d d' = ap (λ b. b && ((compared D B B').0 && D.within d d')) (turned D A A')

  pub below_hand : (A B A' B' : Ty) (d e d' e' : ℕ) → below D (hand A d B e) (hand A' d' B' e') ≡ (below_dirty D (A', d') (A, d) && below_dirty D (B, e) (B', e'))
  unfolding below
  below_hand A B A' B' d e d' e' = ap (λ b. (b && D.within d' d) && ((compared D B B').0 && D.within e e')) (turned D A A')

  pub below_instance : (e R e' R' : ℕ) → below D (instance e R) (instance e' R') ≡ (eqb e e' && inside R R')
  unfolding below
  below_instance e R e' R' = refl

  pub below_ground : (g h : ground.Ground) → below D (ground g) (ground h) ≡ eqb (number g) (number h)
  unfolding below
  below_ground g h = refl

-- the derived test of ground types
pub same_number : (g h : ground.Ground) → sameb the_type g h ≡ eqb (number g) (number h)
same_number g.Bool g.Bool = refl
same_number g.Bool g.Nat = refl
same_number g.Bool g.Unit = refl
same_number g.Bool g.Empty = refl
same_number g.Nat g.Bool = refl
same_number g.Nat g.Nat = refl
same_number g.Nat g.Unit = refl
same_number g.Nat g.Empty = refl
same_number g.Unit g.Bool = refl
same_number g.Unit g.Nat = refl
same_number g.Unit g.Unit = refl
same_number g.Unit g.Empty = refl
same_number g.Empty g.Bool = refl
same_number g.Empty g.Nat = refl
same_number g.Empty g.Unit = refl
same_number g.Empty g.Empty = refl

-- the test by the forms of two types
module _ (x : Checker) where
  abbrev below_as : Form → Form → Bool
  below_as p q = below (s.dirts x) (decoded (s.declared x) p) (decoded (s.declared x) q)

  -- by other words for the two types
  pub of_forms : {p q p' q' : Form} {r : Bool} → p ≡ p' → q ≡ q' → r ≡ below_as p' q' → r ≡ below_as p q
  of_forms e f h = h ∙ sym (ap₂ (λ y z. below_as y z) e f)

  -- types of unlike forms
  pub not_ground : {p q : Form} {h : ground.Ground} → p ≡ Ground h → ((y : ground.Ground) → q ≡ Ground y → ⊥) → false ≡ below_as p q
  unfolding below
  not_ground {p} {q} {h} e n = sym (ap (λ f. below_as f q) e ∙ go q n)
    where
      go : (f : Form) → ((y : ground.Ground) → f ≡ Ground y → ⊥) → below_as (Ground h) f ≡ false
      go (Ground y) m = absurd (m y refl)
      go (Function a C) m = refl
      go (Instance f R) m = refl
      go (Handler A C) m = refl

  pub not_function : {p q : Form} {a : ℕ} {C : Dirty} → p ≡ Function a C → ((b : ℕ) (E : Dirty) → q ≡ Function b E → ⊥) → false ≡ below_as p q
  unfolding below
  not_function {p} {q} {a} {C} e n = sym (ap (λ f. below_as f q) e ∙ go q n)
    where
      go : (f : Form) → ((b : ℕ) (E : Dirty) → f ≡ Function b E → ⊥) → below_as (Function a C) f ≡ false
      go (Ground y) m = refl
      go (Function b E) m = absurd (m b E refl)
      go (Instance f R) m = refl
      go (Handler A E) m = refl

  pub not_instance : {p q : Form} {i R : ℕ} → p ≡ Instance i R → ((j S : ℕ) → q ≡ Instance j S → ⊥) → false ≡ below_as p q
  unfolding below
  not_instance {p} {q} {i} {R} e n = sym (ap (λ f. below_as f q) e ∙ go q n)
    where
      go : (f : Form) → ((j S : ℕ) → f ≡ Instance j S → ⊥) → below_as (Instance i R) f ≡ false
      go (Ground y) m = refl
      go (Function a C) m = refl
      go (Instance j S) m = absurd (m j S refl)
      go (Handler A C) m = refl

  pub not_handler : {p q : Form} {A C : Dirty} → p ≡ Handler A C → ((B E : Dirty) → q ≡ Handler B E → ⊥) → false ≡ below_as p q
  unfolding below
  not_handler {p} {q} {A} {C} e n = sym (ap (λ f. below_as f q) e ∙ go q n)
    where
      go : (f : Form) → ((B E : Dirty) → f ≡ Handler B E → ⊥) → below_as (Handler A C) f ≡ false
      go (Ground y) m = refl
      go (Function a E) m = refl
      go (Instance f R) m = refl
      go (Handler B E) m = absurd (m B E refl)

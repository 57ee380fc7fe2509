-- When the claims of a term follow, part by part, and when a term has a type.
use Rattle.std.specs.Prelude.{◌≡◌, ℕ, ◌^◌, ◌↔◌, [], ◌∷◌}
use Rattle.eff.specs.Sorts.{Sort, expr, comp}
use Rattle.eff.specs.Syntax.{Term}
use Rattle.eff.specs.Types.{Ty, Dirty}
use Rattle.eff.specs.Types as t
use Rattle.eff.specs.Tables.{Tables, Declares, takes, gives, Instance, Listed, type}
use Rattle.eff.specs.Dirt.{Dirts, Admits, sets}
use Rattle.eff.specs.Subtyping.{◌⊴◌, ◌≦◌}
use Rattle.eff.specs.Checked.{Checked}
use Rattle.eff.specs.Rules.{Cxt, At, Derives}
use Rattle.eff.specs.Labels.{Labelled, var, truth, num, succ, unit, inst, fn, handler, case, nil, if, match, absurd, apply, val, call, bind, rec, handle, erase, Claim, claim, DeclaredClaims}
use Rattle.eff.specs.Handling.{Passes}

-- the argument type of a function type; of another, unit, of which no rule speaks
abbrev pub parameter : Ty → Ty
parameter (t.fun A B d) = A
parameter (t.ground g) = t.unit
parameter (t.instance e R) = t.unit
parameter (t.hand A d B d') = t.unit

module _ (T : Tables) (D : Dirts) where
  infix 50 ◌≼◌
  abbrev ◌≼◌ : Ty → Ty → Type 0
  ◌≼◌ A B = ◌⊴◌ D A B

  infix 50 ◌≼!◌
  abbrev ◌≼!◌ : Dirty → Dirty → Type 0
  ◌≼!◌ A B = ◌≦◌ D A B

  abbrev type_at : ℕ → Ty
  type_at n = type T n

  -- What a part's rule asks, of its own columns and claim and its children's claims alone: the type that they give is at most its claim.
  abbrev pub Rule : {s : Sort} → Cxt → Labelled s → Type 0
  Rule Γ (var A n) = (B : Ty) × At Γ n B × B ≼ A
  Rule Γ (truth A b) = t.bool ≼ A
  Rule Γ (num A n) = t.nat ≼ A
  Rule Γ (succ A e) = (claim e ≡ t.nat) × t.nat ≼ A
  Rule Γ (unit A) = t.unit ≼ A
  Rule Γ (inst A i) = (e : ℕ) × Instance T i e × t.instance e (2 ^ i) ≼ A
  Rule Γ (fn A a c) = Listed T a × t.fun (type_at a) (claim c).0 (claim c).1 ≼ A
  -- the cases claim C, by their nil; the handler A0!d0 ⇒ B
  Rule Γ (handler A a c cs) = (A0 : Ty) × (d0 : ℕ) × (B : Dirty) × (A ≡ t.hand A0 d0 B.0 B.1) × Listed T a × claim c ≼! claim cs × A0 ≼ type_at a
      × claim cs ≼! B × Passes T D cs d0 (claim cs).1
  Rule Γ (case e op i c cs) = (R : ℕ) × (claim i ≡ t.instance e R) × Declares T e op × claim c ≼! claim cs
  Rule Γ (nil C) = Unit {0}
  Rule Γ (if C e c c') = (claim e ≡ t.bool) × claim c ≼! C × claim c' ≼! C
  Rule Γ (match C e c c') = (claim e ≡ t.nat) × claim c ≼! C × claim c' ≼! C
  Rule Γ (absurd C e) = claim e ≡ t.empty
  Rule Γ (apply C e f) = (A : Ty) × (B : Dirty) × (claim e ≡ t.fun A B.0 B.1) × claim f ≼ A × B ≼! C
  Rule Γ (val C e) = (claim e, D.none) ≼! C
  Rule Γ (call C e op i w c) = (R : ℕ) × (claim i ≡ t.instance e R) × Declares T e op × claim w ≼ type_at (takes T e op) × claim c ≼! C
      × Admits D R op C.1
  Rule Γ (bind C c c') = ((claim c').0, D.join (claim c).1 (claim c').1) ≼! C
  Rule Γ (rec C a c c') = (A : Ty) × (B : Dirty) × Listed T a × (type_at a ≡ t.fun A B.0 B.1) × claim c ≼! B × claim c' ≼! C
  Rule Γ (handle C e c) = (A B : Dirty) × (claim e ≡ t.hand A.0 A.1 B.0 B.1) × claim c ≼! A × B ≼! C

  -- the rule at this part and at every part below, in its context
  abbrev pub Follows : {s : Sort} → Cxt → Labelled s → Type 0
  Follows Γ (var A n) = Rule Γ (var A n)
  Follows Γ (truth A b) = Rule Γ (truth A b)
  Follows Γ (num A n) = Rule Γ (num A n)
  Follows Γ (succ A e) = Rule Γ (succ A e) × Follows Γ e
  Follows Γ (unit A) = Rule Γ (unit A)
  Follows Γ (inst A i) = Rule Γ (inst A i)
  Follows Γ (fn A a c) = Rule Γ (fn A a c) × Follows (type_at a ∷ Γ) c
  Follows Γ (handler A a c cs) = Rule Γ (handler A a c cs) × Follows (type_at a ∷ Γ) c × Follows Γ cs
  -- x of the taken type, then k of the given type to what the list claims
  Follows Γ (case e op i c cs) = Rule Γ (case e op i c cs) × Follows Γ i
      × Follows (t.fun (type_at (gives T e op)) (claim cs).0 (claim cs).1 ∷ type_at (takes T e op) ∷ Γ) c × Follows Γ cs
  Follows Γ (nil C) = Rule Γ (nil C)
  Follows Γ (if C e c c') = Rule Γ (if C e c c') × Follows Γ e × Follows Γ c × Follows Γ c'
  Follows Γ (match C e c c') = Rule Γ (match C e c c') × Follows Γ e × Follows Γ c × Follows (t.nat ∷ Γ) c'
  Follows Γ (absurd C e) = Rule Γ (absurd C e) × Follows Γ e
  Follows Γ (apply C e f) = Rule Γ (apply C e f) × Follows Γ e × Follows Γ f
  Follows Γ (val C e) = Rule Γ (val C e) × Follows Γ e
  Follows Γ (call C e op i w c) = Rule Γ (call C e op i w c) × Follows Γ i × Follows Γ w × Follows (type_at (gives T e op) ∷ Γ) c
  Follows Γ (bind C c c') = Rule Γ (bind C c c') × Follows Γ c × Follows ((claim c).0 ∷ Γ) c'
  -- x of the argument type, then f
  Follows Γ (rec C a c c') = Rule Γ (rec C a c c') × Follows (type_at a ∷ parameter (type_at a) ∷ Γ) c × Follows (type_at a ∷ Γ) c'
  Follows Γ (handle C e c) = Rule Γ (handle C e c) × Follows Γ e × Follows Γ c

  -- A closed term has a type when some declared claims for all its parts follow with that type at the first.
  pub record HasType (s : Sort) (t : Term s) (C : Claim s) : Type 0 where
    pub labels : Labelled s
    pub erased : erase labels ≡ t
    pub claimed : claim labels ≡ C
    pub declared : DeclaredClaims T D labels
    pub follows : Follows [] labels

-- for call sets, a closed expression or computation has just the types that the inference rules derive
pub record Claimed (T : Tables) : Type 0 where
  pub expressions : (e : Term expr) (A : Ty) → (HasType T (sets T) expr e A) ↔ (Derives T (sets T) expr [] e A)
  pub computations : (c : Term comp) (C : Dirty) → (HasType T (sets T) comp c C) ↔ (Derives T (sets T) comp [] c C)

abbrev pub ClaimsAreDerivations : Type 0
ClaimsAreDerivations = (T : Tables) → Checked T (sets T) → Claimed T

-- The test of a part says whether it meets its rule.
use Rattle.std.proofs.Common.{◌≡◌, ℕ, zero, suc, ◌^◌, ◌<◌, Bool, true, false, cond, eqb, ◌+◌, ◌≤◌, [], ◌∷◌, ◌++◌, get_or, Decides, sym, refl, ap, subst, arith}
use native.Mathlib.Decide.{dec_lt}
use Rattle.std.specs.List.{list_all, range_with_len}
use Rattle.std.proofs.lemmas.List.{length-map}
use Rattle.std.proofs.lemmas.Bool.Decides.{Decides-eqb, Decides-and, Decides-like}
use Rattle.std.proofs.lemmas.Bool.{eq-eqb, eqb-true}
use Rattle.eff.specs.Sorts.{Sort, expr, list}
use Rattle.eff.specs.Sets.{bit, Holds}
use Rattle.eff.specs.Types.{Ty, Dirty}
use Rattle.eff.specs.Types as t
use Rattle.eff.specs.Tables.{Tables, takes, type}
use Rattle.eff.specs.Dirt.{Dirts, Admits, ◌⊆◌, sets}
use Rattle.eff.specs.Subtyping.{◌⊴◌ as ◌≼◌, ◌≦◌, ground≤}
use Rattle.eff.specs.Checked.{Checked, Known, Declared}
use Rattle.eff.specs.Rules.{Cxt, At}
use Rattle.eff.specs.Syntax.{flatten}
use Rattle.eff.specs.Labels.{Labelled, var, truth, num, succ, unit, inst, fn, handler, case, nil, if, match, absurd as absurd_at, apply, val, call, bind, rec, handle, erase, claim, DeclaredClaims}
use Rattle.eff.specs.Claims.{Rule}
use Rattle.eff.specs.Handling.{DeclaredCases, cases_leave}
use Rattle.eff.specs.declared.ground.Ground.{Ground}
use Rattle.eff.specs.declared.ground.Ground.TheVariants as g
use Rattle.eff.proofs.Handled.{handling_is_leaving}
use Rattle.eff.proofs.Subtypes.{means}
use Rattle.sheet.specs.Rows.{Listing}
use Rattle.table.specs.Meant.{effect_of, tables_of}
use Rattle.claim.specs.Below.{below}
use Rattle.claim.specs.Test.{on_function, on_instance, on_handler, name_ok, admits_at, admits, holds}
use Rattle.claim.proofs.Columned.{Columned}
use Rattle.claim.proofs.Subtyping.{decides_below, decides_dirty, decides_not_at_all, itself}
use Rattle.claim.proofs.Parts.{all_right}

-- a test on a type of one form
on_function-decides : (f : Ty → Dirty → Bool) (P : Ty → Dirty → Type 0) → ((A : Ty) (B : Dirty) → Decides (f A B) (P A B)) → (X : Ty)
    → Decides (on_function f X) ((A : Ty) × (B : Dirty) × (X ≡ t.fun A B.0 B.1) × P A B)
on_function-decides f P d (t.ground g) = decides_not_at_all (λ z. let q : t.ground g ≡ t.fun z.0 z.1.0 z.1.1 = z.2 in let o : ◌≡◌ {A = ℕ} 0 1 = cc in omega arith)
on_function-decides f P d (t.fun A B e) = Decides-like _ (λ p. (A, (B, e), refl, p)) (λ z.
    let q : t.fun A B e ≡ t.fun z.0 z.1.0 z.1.1 = z.2 in
    let a : z.0 ≡ A = cc in let b : z.1.0 ≡ B = cc in let c : z.1.1 ≡ e = cc in
    subst (λ X. P X (B, e)) a (subst (λ X. P z.0 (X, e)) b (subst (λ x. P z.0 (z.1.0, x)) c z.3))) (d A (B, e))
on_function-decides f P d (t.instance e R) = decides_not_at_all (λ z. let q : t.instance e R ≡ t.fun z.0 z.1.0 z.1.1 = z.2 in let o : ◌≡◌ {A = ℕ} 0 1 = cc in omega arith)
on_function-decides f P d (t.hand A e B e') = decides_not_at_all (λ z. let q : t.hand A e B e' ≡ t.fun z.0 z.1.0 z.1.1 = z.2 in let o : ◌≡◌ {A = ℕ} 0 1 = cc in omega arith)

on_instance-decides : (f : ℕ → ℕ → Bool) (P : ℕ → ℕ → Type 0) → ((e R : ℕ) → Decides (f e R) (P e R)) → (X : Ty)
    → Decides (on_instance f X) ((e R : ℕ) × (X ≡ t.instance e R) × P e R)
on_instance-decides f P d (t.ground g) = decides_not_at_all (λ z. let q : t.ground g ≡ t.instance z.0 z.1 = z.2 in let o : ◌≡◌ {A = ℕ} 0 1 = cc in omega arith)
on_instance-decides f P d (t.fun A B e) = decides_not_at_all (λ z. let q : t.fun A B e ≡ t.instance z.0 z.1 = z.2 in let o : ◌≡◌ {A = ℕ} 0 1 = cc in omega arith)
on_instance-decides f P d (t.instance e R) = Decides-like _ (λ p. (e, R, refl, p)) (λ z.
    let q : t.instance e R ≡ t.instance z.0 z.1 = z.2 in
    let a : z.0 ≡ e = cc in let b : z.1 ≡ R = cc in
    subst (λ x. P x R) a (subst (λ x. P z.0 x) b z.3)) (d e R)
on_instance-decides f P d (t.hand A e B e') = decides_not_at_all (λ z. let q : t.hand A e B e' ≡ t.instance z.0 z.1 = z.2 in let o : ◌≡◌ {A = ℕ} 0 1 = cc in omega arith)

on_handler-decides : (f : Dirty → Dirty → Bool) (P : Dirty → Dirty → Type 0) → ((A B : Dirty) → Decides (f A B) (P A B)) → (X : Ty)
    → Decides (on_handler f X) ((A B : Dirty) × (X ≡ t.hand A.0 A.1 B.0 B.1) × P A B)
on_handler-decides f P d (t.ground g) = decides_not_at_all (λ z. let q : t.ground g ≡ t.hand z.0.0 z.0.1 z.1.0 z.1.1 = z.2 in let o : ◌≡◌ {A = ℕ} 0 1 = cc in omega arith)
on_handler-decides f P d (t.fun A B e) = decides_not_at_all (λ z. let q : t.fun A B e ≡ t.hand z.0.0 z.0.1 z.1.0 z.1.1 = z.2 in let o : ◌≡◌ {A = ℕ} 0 1 = cc in omega arith)
on_handler-decides f P d (t.instance e R) = decides_not_at_all (λ z. let q : t.instance e R ≡ t.hand z.0.0 z.0.1 z.1.0 z.1.1 = z.2 in let o : ◌≡◌ {A = ℕ} 0 1 = cc in omega arith)
on_handler-decides f P d (t.hand A e B e') = Decides-like _ (λ p. ((A, e), (B, e'), refl, p)) (λ z.
    let q : t.hand A e B e' ≡ t.hand z.0.0 z.0.1 z.1.0 z.1.1 = z.2 in
    let a : z.0.0 ≡ A = cc in let b : z.0.1 ≡ e = cc in let c : z.1.0 ≡ B = cc in let c' : z.1.1 ≡ e' = cc in
    subst (λ X. P (X, e) (B, e')) a (subst (λ x. P (z.0.0, x) (B, e')) b (subst (λ X. P (z.0.0, z.0.1) (X, e')) c (subst (λ x. P (z.0.0, z.0.1) (z.1.0, x)) c' z.3)))) (d (A, e) (B, e'))

module _ (D : Dirts) where
  -- below a ground type there is only itself
  at_ground : (X : Ty) (h : Ground) → Decides (below D X (t.ground h)) (X ≡ t.ground h)
  at_ground X h = Decides-like _ (to X) (λ e. subst (λ Y. ◌≼◌ D Y (t.ground h)) (sym e) ground≤) (decides_below D X (t.ground h))
    where
      to : (X : Ty) → ◌≼◌ D X (t.ground h) → X ≡ t.ground h
      to (t.ground g) p = ap t.ground (means D p)
      to (t.fun A B d) p = absurd (means D p)
      to (t.instance e R) p = absurd (means D p)
      to (t.hand A d B e) p = absurd (means D p)

  named : (Γ : Cxt) (n : ℕ) (A : Ty) → Decides (name_ok D Γ n A) ((B : Ty) × At Γ n B × ◌≼◌ D B A)
  named [] n A = decides_not_at_all (λ z. z.1)
  named (B ∷ Γ) zero A = Decides-like _ (λ h. (B, refl, h)) (λ z. subst (λ X. ◌≼◌ D X A) (sym z.1) z.2) (decides_below D B A)
  named (B ∷ Γ) (suc n) A = named Γ n A

  admitted_at : (R op d i : ℕ) → Decides (admits_at D R op d i) (Holds R i → ◌⊆◌ D (D.own i op) d)
  admitted_at R op d i = if_held (eqb (bit R i) 1) refl
    where
      if_held : (b : Bool) → eqb (bit R i) 1 ≡ b → Decides (cond b (D.within (D.own i op) d) true) (Holds R i → ◌⊆◌ D (D.own i op) d)
      if_held true e = (λ h k. h, λ h. h (eqb-true _ _ e))
      if_held false e = (λ h k. absurd (let q = eq-eqb _ _ k in let o : ◌≡◌ {A = ℕ} 0 1 = cc in omega arith), λ h. refl)

  admitted_from : (R op d a n : ℕ) → Decides (list_all (admits_at D R op d) (range_with_len a n)) ((i : ℕ) → a ≤ i → i < a + n → Holds R i → ◌⊆◌ D (D.own i op) d)
  admitted_from R op d a zero = (λ h i l m. absurd (omega arith), λ h. refl)
  admitted_from R op d a (suc n) =
      Decides-like _ (λ p i l m. elim (dec_lt a i) [ yes o ↦ p.1 i (omega arith) (omega arith) | no o ↦ (let e : a ≡ i = omega arith in subst (λ j. Holds R j → ◌⊆◌ D (D.own j op) d) e p.0) ])
      (λ p. (p a (omega arith) (omega arith), λ i l m. p i (omega arith) (omega arith)))
      (Decides-and _ _ (admitted_at R op d a) (admitted_from R op d (a + 1) n))

  -- for a region of instances below 16
  admitted : (R op d : ℕ) → ((i : ℕ) → Holds R i → i < 16) → Decides (admits D R op d) (Admits D R op d)
  unfolding admits
  admitted R op d low = Decides-like _ (λ p i k. p i (omega arith) (low i k) k) (λ p i l m k. p i k) (admitted_from R op d 0 16)

module _ (l : Listing) where
  abbrev T : Tables
  T = tables_of l

  abbrev D : Dirts
  D = sets T

  module _ (K : Checked T D) where
    -- every operation that a case names is declared
    declared_cases : (cs : Labelled list) → Columned l cs → DeclaredCases T cs
    declared_cases (nil C) h = tt
    declared_cases (case e op i c cs) h =
        (h.0.1, declared_cases cs (all_right _ (flatten (erase c)) (flatten (erase cs)) (all_right _ (flatten (erase i)) (flatten (erase c) ++ flatten (erase cs)) h.1)))

    -- an instance of a declared type is below 16
    few : (X : Ty) (e R : ℕ) → Declared T D X → X ≡ t.instance e R → (i : ℕ) → Holds R i → i < 16
    few X e R h q i k = let r = ((subst (λ Y. Declared T D Y) q h).1 i k).declared in omega (arith, r, K.instances)

    -- the dirt that a declared handler type takes is known
    known : (X : Ty) (A B : Dirty) → Declared T D X → X ≡ t.hand A.0 A.1 B.0 B.1 → Known T D A.1
    known X A B h q = (subst (λ Y. Declared T D Y) q h).1

    -- an expression's claim is declared
    own : (x : Labelled expr) → DeclaredClaims T D x → Declared T D (claim x)
    own (var A n) h = h
    own (truth A b) h = h
    own (num A n) h = h
    own (succ A e) h = h.0
    own (unit A) h = h
    own (inst A i) h = h
    own (fn A a c) h = h.0
    own (handler A a c cs) h = h.0

    pub decides_rule : {s : Sort} (Γ : Cxt) (x : Labelled s) → Columned l x → DeclaredClaims T D x → Decides (holds T D Γ x) (Rule T D Γ x)
    decides_rule Γ (var A n) h k = named D Γ n A
    decides_rule Γ (truth A b) h k = decides_below D t.bool A
    decides_rule Γ (num A n) h k = decides_below D t.nat A
    decides_rule Γ (succ A e) h k = Decides-and _ _ (at_ground D (claim e) g.Nat) (decides_below D t.nat A)
    decides_rule Γ (unit A) h k = decides_below D t.unit A
    decides_rule Γ (inst A i) h k =
        Decides-like _ (λ p. (get_or T.instances i 0, record { declared = omega (arith, h.0.0, length-map l.instances effect_of); effect = refl }, p))
        (λ z. subst (λ e. ◌≼◌ D (t.instance e (2 ^ i)) A) (sym z.1.effect) z.2) (decides_below D (t.instance (get_or T.instances i 0) (2 ^ i)) A)
    decides_rule Γ (fn A a c) h k = Decides-like _ (λ p. (h.0.0, p)) (λ z. z.1) (decides_below D (t.fun (type T a) (claim c).0 (claim c).1) A)
    decides_rule Γ (handler A a c cs) h k =
        let w = declared_cases cs (all_right _ (flatten (erase c)) (flatten (erase cs)) h.1) in
        Decides-like _
        (λ z. (z.0.0, z.0.1, z.1, z.2, h.0.0, z.3.0, z.3.1.0, z.3.1.1.0, (handling_is_leaving T K cs w z.0.1 (claim cs).1 (known A z.0 z.1 k.0 z.2)).1 z.3.1.1.1))
        (λ z. ((z.0, z.1), z.2, z.3, (z.5, (z.6, (z.7, (handling_is_leaving T K cs w z.1 (claim cs).1 (known A (z.0, z.1) z.2 k.0 z.3)).0 z.8)))))
        (on_handler-decides _ (λ I O. ◌≦◌ D (claim c) (claim cs) × (◌≼◌ D I.0 (type T a) × (◌≦◌ D (claim cs) O × ◌⊆◌ D (cases_leave D cs I.1) (claim cs).1)))
        (λ I O. Decides-and _ _ (decides_dirty D (claim c) (claim cs)) (Decides-and _ _ (decides_below D I.0 (type T a)) (Decides-and _ _ (decides_dirty D (claim cs) O) (itself (D.within (cases_leave D cs I.1) (claim cs).1))))) A)
    decides_rule Γ (case e op i c cs) h k =
        Decides-like _ (λ z. (z.0.1, subst (λ f. claim i ≡ t.instance f z.0.1) z.0.3 z.0.2, h.0.1, z.1)) (λ z. ((e, z.0, z.1, refl), z.3))
        (Decides-and _ _ (on_instance-decides _ (λ f R. f ≡ e) (λ f R. Decides-eqb f e) (claim i)) (decides_dirty D (claim c) (claim cs)))
    decides_rule Γ (nil C) h k = (λ z. tt, λ z. refl)
    decides_rule Γ (if C e c c') h k =
        Decides-like _ (λ z. (z.0, z.1.0, z.1.1)) (λ z. (z.0, (z.1, z.2))) (Decides-and _ _ (at_ground D (claim e) g.Bool) (Decides-and _ _ (decides_dirty D (claim c) C) (decides_dirty D (claim c') C)))
    decides_rule Γ (match C e c c') h k =
        Decides-like _ (λ z. (z.0, z.1.0, z.1.1)) (λ z. (z.0, (z.1, z.2))) (Decides-and _ _ (at_ground D (claim e) g.Nat) (Decides-and _ _ (decides_dirty D (claim c) C) (decides_dirty D (claim c') C)))
    decides_rule Γ (absurd_at C e) h k = at_ground D (claim e) g.Empty
    decides_rule Γ (apply C e f) h k =
        Decides-like _ (λ z. (z.0, z.1, z.2, z.3.0, z.3.1)) (λ z. (z.0, z.1, z.2, (z.3, z.4)))
        (on_function-decides _ (λ A B. ◌≼◌ D (claim f) A × ◌≦◌ D B C) (λ A B. Decides-and _ _ (decides_below D (claim f) A) (decides_dirty D B C)) (claim e))
    decides_rule Γ (val C e) h k = decides_dirty D (claim e, D.none) C
    decides_rule Γ (call C e op i w c) h k =
        Decides-like _
        (λ z. let q = subst (λ f. claim i ≡ t.instance f z.1) z.3.0 z.2 in
        (z.1, q, h.0.1, z.3.1.0, z.3.1.1.0, (admitted D z.1 op C.1 (few (claim i) e z.1 (own i k.1) q)).0 z.3.1.1.1))
        (λ z. (e, z.0, z.1, (refl, (z.3, (z.4, (admitted D z.0 op C.1 (few (claim i) e z.0 (own i k.1) z.1)).1 z.5)))))
        (on_instance-decides _ (λ f R. (f ≡ e) × (◌≼◌ D (claim w) (type T (takes T e op)) × (◌≦◌ D (claim c) C × (admits D R op C.1 ≡ true))))
        (λ f R. Decides-and _ _ (Decides-eqb f e) (Decides-and _ _ (decides_below D (claim w) (type T (takes T e op))) (Decides-and _ _ (decides_dirty D (claim c) C) (itself (admits D R op C.1))))) (claim i))
    decides_rule Γ (bind C c c') h k = decides_dirty D ((claim c').0, D.join (claim c).1 (claim c').1) C
    decides_rule Γ (rec C a c c') h k =
        Decides-like _ (λ z. (z.0, z.1, h.0.0.1, z.2, z.3.0, z.3.1)) (λ z. (z.0, z.1, z.3, (z.4, z.5)))
        (on_function-decides _ (λ A B. ◌≦◌ D (claim c) B × ◌≦◌ D (claim c') C) (λ A B. Decides-and _ _ (decides_dirty D (claim c) B) (decides_dirty D (claim c') C)) (type T a))
    decides_rule Γ (handle C e c) h k =
        Decides-like _ (λ z. (z.0, z.1, z.2, z.3.0, z.3.1)) (λ z. (z.0, z.1, z.2, (z.3, z.4)))
        (on_handler-decides _ (λ A B. ◌≦◌ D (claim c) A × ◌≦◌ D B C) (λ A B. Decides-and _ _ (decides_dirty D (claim c) A) (decides_dirty D B C)) (claim e))

-- For call sets, the calls that no case handles are what the cases leave.
use Rattle.std.proofs.Common.{◌≡◌, ℕ, zero, suc, ◌+◌, ◌*◌, ◌^◌, ◌<◌, Bool, true, false, cond, eqb, sym, refl, ap, ◌∙◌, subst, inl, inr, arith, eq-eqb, eqb-true}
use native.Mathlib.Decide.{dec_lt}
use borrow.Author.Tests.{eqb-false}
use Rattle.eff.specs.Sorts.{list}
use Rattle.eff.specs.Sets.{Holds}
use Rattle.eff.specs.Types.{Ty, ground, fun, instance, hand}
use Rattle.eff.specs.Tables.{Tables}
use Rattle.eff.specs.Dirt.{Dirts, ◌⊆◌, leaves, leaves_below, sets}
use Rattle.eff.specs.Checked.{Checked, Known}
use Rattle.eff.specs.Labels.{Labelled, case, nil, claim}
use Rattle.eff.specs.Handling.{Handles, DeclaredCases, case_leaves, cases_leave, Passes, HandlingIsLeaving}
use Rattle.eff.proofs.Sets.{holds_own, own_holds}
use Rattle.eff.proofs.CallSets.{taken_out, stays_in, within, is_within, own_within, facts}

module _ (T : Tables) (K : Checked T (sets T)) where
  abbrev D : Dirts
  D = sets T

  -- what one case leaves
  below_less : (n R op d k : ℕ) → Holds (leaves_below D n R op d) k → Holds d k
  below_less zero R op d k h = h
  below_less (suc n) R op d k h = go (eqb R (2 ^ n)) h (λ p. below_less n R op d k p)
    where
      go : (b : Bool) → Holds (cond b (D.without n op d) (leaves_below D n R op d)) k → (Holds (leaves_below D n R op d) k → Holds d k) → Holds d k
      go true p f = (stays_in T K n op d k p).0
      go false p f = f p

  below_out : (n i op d k : ℕ) → i < n → Holds (leaves_below D n (2 ^ i) op d) k → ¬ (k ≡ 4 * i + op)
  below_out zero i op d k l h = absurd (omega arith)
  below_out (suc n) i op d k l h = go (eqb (2 ^ i) (2 ^ n)) refl h (λ m p. below_out n i op d k m p)
    where
      go : (b : Bool) → eqb (2 ^ i) (2 ^ n) ≡ b → Holds (cond b (D.without n op d) (leaves_below D n (2 ^ i) op d)) k
          → (i < n → Holds (leaves_below D n (2 ^ i) op d) k → ¬ (k ≡ 4 * i + op)) → ¬ (k ≡ 4 * i + op)
      go true e p f q = let z : i ≡ n = own_holds n i (subst (λ m. Holds m i) (eqb-true _ _ e) (holds_own i)) in
          (stays_in T K n op d k p).1 (q ∙ ap (λ m. 4 * m + op) z)
      go false e p f q = elim (dec_lt i n) [ yes m ↦ f m p q | no m ↦ eqb-false _ _ e (ap (λ m. 2 ^ m) (omega arith)) ]

  below_stay : (n R op d k : ℕ) → Holds d k → ((i : ℕ) → R ≡ 2 ^ i → ¬ (k ≡ 4 * i + op)) → Holds (leaves_below D n R op d) k
  below_stay zero R op d k h f = h
  below_stay (suc n) R op d k h f = go (eqb R (2 ^ n)) refl (below_stay n R op d k h f)
    where
      go : (b : Bool) → eqb R (2 ^ n) ≡ b → Holds (leaves_below D n R op d) k → Holds (cond b (D.without n op d) (leaves_below D n R op d)) k
      go true e p = taken_out T K n op d k h (f n (eqb-true _ _ e))
      go false e p = p

  one_less : (A : Ty) (e op d k : ℕ) → Holds (case_leaves D A e op d) k → Holds d k
  unfolding leaves
  one_less (instance f R) e op d k h = go (eqb f e) h
    where
      go : (b : Bool) → Holds (cond b (leaves_below D 16 R op d) d) k → Holds d k
      go true p = below_less 16 R op d k p
      go false p = p
  one_less (ground g) e op d k h = h
  one_less (fun A B f) e op d k h = h
  one_less (hand A f B g) e op d k h = h

  one_out : (A : Ty) (i e op d k : ℕ) → i < 16 → A ≡ instance e (2 ^ i) → Holds (case_leaves D A e op d) k → ¬ (k ≡ 4 * i + op)
  unfolding leaves
  one_out A i e op d k l q h =
      let p : Holds (cond (eqb e e) (leaves_below D 16 (2 ^ i) op d) d) k = subst (λ X. Holds (case_leaves D X e op d) k) q h in
      below_out 16 i op d k l (subst (λ b. Holds (cond b (leaves_below D 16 (2 ^ i) op d) d) k) (eq-eqb e e refl) p)

  one_stays : (A : Ty) (e op d k : ℕ) → Holds d k → ((i : ℕ) → A ≡ instance e (2 ^ i) → ¬ (k ≡ 4 * i + op)) → Holds (case_leaves D A e op d) k
  unfolding leaves
  one_stays (instance f R) e op d k h n = go (eqb f e) refl
    where
      go : (b : Bool) → eqb f e ≡ b → Holds (cond b (leaves_below D 16 R op d) d) k
      go true q = below_stay 16 R op d k h (λ i r. n i (ap (λ x. instance x R) (eqb-true _ _ q) ∙ ap (instance e) r))
      go false q = h
  one_stays (ground g) e op d k h n = h
  one_stays (fun A B f) e op d k h n = h
  one_stays (hand A f B g) e op d k h n = h

  -- what the cases leave
  less : (cs : Labelled list) (d k : ℕ) → Holds (cases_leave D cs d) k → Holds d k
  less (nil C) d k h = h
  less (case e op x c cs) d k h = one_less (claim x) e op d k (less cs _ k h)

  out : (cs : Labelled list) (i op d : ℕ) → i < 16 → Holds (cases_leave D cs d) (4 * i + op) → ¬ Handles cs i op
  out (nil C) i op d l h n = n
  out (case e op' x c cs) i op d l h (inl n) = one_out (claim x) i e op' d _ l n.1 (less cs _ _ h) (ap (λ o. 4 * i + o) (sym n.0))
  out (case e op' x c cs) i op d l h (inr n) = out cs i op _ l h n

  stay : (cs : Labelled list) (i op d : ℕ) → DeclaredCases T cs → op < 4 → Holds d (4 * i + op) → ¬ Handles cs i op → Holds (cases_leave D cs d) (4 * i + op)
  stay (nil C) i op d g l h n = h
  stay (case e op' x c cs) i op d g l h n =
      stay cs i op _ g.1 l (one_stays (claim x) e op' d _ h (λ j q r.
      let s : op' < 4 = K.operations e op' g.0 in
      let u : j ≡ i = omega arith in
      let v : op' ≡ op = omega arith in
      n (inl (v, q ∙ ap (λ m. instance e (2 ^ m)) u)))) (λ m. n (inr m))

  pub passes : (cs : Labelled list) (d d' : ℕ) → Known T D d → Passes T D cs d d' → ◌⊆◌ D (cases_leave D cs d) d'
  passes cs d d' g h = within T K _ d' (λ k p.
      let q : Holds d k = less cs d k p in
      let r = ((facts T K).known d).0 g k q in
      let i = r.0 in let op = r.1 in let e = r.2 in let c = r.3 in
      let l : i < 16 = omega (arith, K.instances, c.instance.declared) in
      let o = own_within T K i op d (subst (Holds d) e q) in
      subst (Holds d') (sym e) (is_within T K _ d' (h i op c o (out cs i op d l (subst (Holds (cases_leave D cs d)) e p))) _ (holds_own (4 * i + op))))

  pub leaving : (cs : Labelled list) (d d' : ℕ) → DeclaredCases T cs → ◌⊆◌ D (cases_leave D cs d) d' → Passes T D cs d d'
  leaving cs d d' g h i op c p n =
      own_within T K i op d' (is_within T K _ d' h _ (stay cs i op d g (K.operations c.effect op c.operation) (is_within T K _ d p _ (holds_own (4 * i + op))) n))

pub handling_is_leaving : HandlingIsLeaving
handling_is_leaving T K cs g d d' k = (λ h. passes T K cs d d' k h, λ h. leaving T K cs d d' g h)

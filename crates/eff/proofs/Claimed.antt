-- Claims that follow are derivations, and back, for call sets.
use Rattle.std.proofs.Common.{◌≡◌, ℕ, ◌^◌, cond, [], ◌∷◌, sym, refl, ap, ◌∙◌, subst, eq-eqb}
use Rattle.eff.specs.Sorts.{Sort, expr, list, comp}
use Rattle.eff.specs.Syntax.{Term}
use Rattle.eff.specs.Syntax as y
use Rattle.eff.specs.Types.{Ty, Dirty}
use Rattle.eff.specs.Types as t
use Rattle.eff.specs.Tables.{Tables, takes, gives, Listed, type}
use Rattle.eff.specs.Dirt.{Dirts, Laws, ◌⊆◌, leaves, sets}
use Rattle.eff.specs.Subtyping.{◌⊴◌, ◌≦◌, hand≤}
use Rattle.eff.specs.Checked.{Checked, Known, Declared, DeclaredDirty}
use Rattle.eff.specs.Rules.{Cxt, Typing, Derives, sub_expr, sub_comp, d_var, d_truth, d_num, d_succ, d_unit, d_inst, d_fn, d_handler, d_case, d_nil, d_if, d_match, d_absurd, d_apply, d_val, d_call, d_let, d_rec, d_with}
use Rattle.eff.specs.Labels.{Labelled, var, truth, num, succ, unit, inst, fn, handler, case, nil, if, match, absurd, apply, val, call, bind, rec, handle, erase, Claim, claim, DeclaredClaims}
use Rattle.eff.specs.Handling.{DeclaredCases, case_leaves, cases_leave, Passes}
use Rattle.eff.specs.Claims.{parameter, Rule, Follows, HasType, ClaimsAreDerivations}
use Rattle.eff.proofs.Subtypes.{⊴_refl, ⊴_trans, ≦_refl, ≦_trans}
use Rattle.eff.proofs.CallSets.{laws}
use Rattle.eff.proofs.TypeNumbers.{declared}
use Rattle.eff.proofs.Put.{DeclaredCxt, derived, instance_declared}
use Rattle.eff.proofs.Handled as handled

-- over any kind of dirt for which the calls that no case handles are what the cases leave
module _ (T : Tables) (D : Dirts) (K : Checked T D) (L : Laws T D)
    (passes : (cs : Labelled list) (d d' : ℕ) → Known T D d → Passes T D cs d d' → ◌⊆◌ D (cases_leave D cs d) d')
    (leaving : (cs : Labelled list) (d d' : ℕ) → DeclaredCases T cs → ◌⊆◌ D (cases_leave D cs d) d' → Passes T D cs d d') where
  infix 50 ◌⊑◌
  abbrev ◌⊑◌ : ℕ → ℕ → Type 0
  ◌⊑◌ d e = ◌⊆◌ D d e

  infix 50 ◌≼◌
  abbrev ◌≼◌ : Ty → Ty → Type 0
  ◌≼◌ A B = ◌⊴◌ D A B

  infix 50 ◌≼!◌
  abbrev ◌≼!◌ : Dirty → Dirty → Type 0
  ◌≼!◌ A B = ◌≦◌ D A B

  abbrev Good : Ty → Type 0
  Good A = Declared T D A

  abbrev type_at : ℕ → Ty
  type_at n = type T n

  trans≼ : {A B C : Ty} → A ≼ B → B ≼ C → A ≼ C
  trans≼ {B} p q = ⊴_trans T D L B p q

  -- a term's own claim is declared
  abbrev GoodClaim : (s : Sort) → Claim s → Type 0
  GoodClaim expr A = Good A
  GoodClaim list C = DeclaredDirty T D C
  GoodClaim comp C = DeclaredDirty T D C

  own_good : {s : Sort} (l : Labelled s) → DeclaredClaims T D l → GoodClaim s (claim l)
  own_good (var A n) g = g
  own_good (truth A b) g = g
  own_good (num A n) g = g
  own_good (succ A e) g = g.0
  own_good (unit A) g = g
  own_good (inst A i) g = g
  own_good (fn A a c) g = g.0
  own_good (handler A a c cs) g = g.0
  own_good (case e op i c cs) g = own_good cs g.2
  own_good (nil C) g = g
  own_good (if C e c c') g = g.0
  own_good (match C e c c') g = g.0
  own_good (absurd C e) g = g.0
  own_good (apply C e f) g = g.0
  own_good (val C e) g = g.0
  own_good (call C e op i w c) g = g.0
  own_good (bind C c c') g = g.0
  own_good (rec C a c c') g = g.0
  own_good (handle C e c) g = g.0

  -- the operations of cases whose claims follow are declared
  cases_good : (cs : Labelled list) (Γ : Cxt) → Follows T D Γ cs → DeclaredCases T cs
  cases_good (nil C) Γ f = tt
  cases_good (case e op i c cs) Γ f = (f.0.2, cases_good cs Γ f.3)

  up : {Γ : Cxt} {c : Term comp} (A B : Dirty) → Derives T D comp Γ c A → A ≼! B → DeclaredDirty T D B → Derives T D comp Γ c B
  up A B h p g = sub_comp h p.0 p.1 g.0 g.1

  at : {Γ : Cxt} {e : Term expr} {A B : Ty} → A ≡ B → Derives T D expr Γ e A → Derives T D expr Γ e B
  at {Γ} {e} q h = subst (λ X. Derives T D expr Γ e X) q h

  -- what one case leaves, where its first child claims its effect
  leaves_at : (A : Ty) (e R op d : ℕ) → A ≡ t.instance e R → case_leaves D A e op d ≡ leaves D R op d
  leaves_at A e R op d q = ap (λ X. case_leaves D X e op d) q ∙ ap (λ b. cond b (leaves D R op d) d) (eq-eqb e e refl)

  -- what claims that follow derive; a case list, for every dirt of which it leaves no more than it claims
  abbrev Derived : (s : Sort) → Cxt → Labelled s → Type 0
  Derived expr Γ l = Derives T D expr Γ (erase l) (claim l)
  Derived list Γ l = (d : ℕ) → cases_leave D l d ⊑ (claim l).1 → Derives T D list Γ (erase l) ((claim l).0, (claim l).1, d)
  Derived comp Γ l = Derives T D comp Γ (erase l) (claim l)

  derive : {s : Sort} (l : Labelled s) (Γ : Cxt) → DeclaredClaims T D l → Follows T D Γ l → Derived s Γ l
  derive (var A n) Γ g f = sub_expr (d_var f.1) f.2 g
  derive (truth A b) Γ g f = sub_expr d_truth f g
  derive (num A n) Γ g f = sub_expr d_num f g
  derive (succ A e) Γ g f = sub_expr (d_succ (at f.0.0 (derive e Γ g.1 f.1))) f.0.1 g.0
  derive (unit A) Γ g f = sub_expr d_unit f g
  derive (inst A i) Γ g f = sub_expr (d_inst f.1) f.2 g
  derive (fn A a c) Γ g f = sub_expr (d_fn f.0.0 (derive c _ g.1 f.1)) f.0.1 g.0
  derive (handler A a c cs) Γ g f =
      let r = f.0 in
      let k : Known T D r.1 = (subst (λ X. Good X) r.3 g.0).1 in
      let b = own_good cs g.2 in
      sub_expr (d_handler r.4 (up (claim c) (claim cs) (derive c _ g.1 f.1) r.5 b)
      (derive cs Γ g.2 f.2 r.1 (passes cs r.1 (claim cs).1 k r.8)) k)
      (subst (λ X. t.hand (type_at a) r.1 (claim cs).0 (claim cs).1 ≼ X) (sym r.3) (hand≤ r.6 (L.self _) r.7.0 r.7.1)) g.0
  derive (case e op i c cs) Γ g f = λ d p.
      let r = f.0 in
      d_case r.2 (at r.1 (derive i Γ g.0 f.1)) (up (claim c) (claim cs) (derive c _ g.1 f.2) r.3 (own_good cs g.2))
      (derive cs Γ g.2 f.3 _ (subst (λ x. cases_leave D cs x ⊑ (claim cs).1) (leaves_at (claim i) e r.0 op d r.1) p))
  derive (nil C) Γ g f = λ d p. d_nil p
  derive (if C e c c') Γ g f =
      d_if (at f.0.0 (derive e Γ g.1 f.1)) (up _ C (derive c Γ g.2 f.2) f.0.1 g.0) (up _ C (derive c' Γ g.3 f.3) f.0.2 g.0)
  derive (match C e c c') Γ g f =
      d_match (at f.0.0 (derive e Γ g.1 f.1)) (up _ C (derive c Γ g.2 f.2) f.0.1 g.0) (up _ C (derive c' _ g.3 f.3) f.0.2 g.0)
  derive (absurd C e) Γ g f = d_absurd (at f.0 (derive e Γ g.1 f.1)) g.0.0 g.0.1
  derive (apply C e h) Γ g f =
      let r = f.0 in
      let k = subst (λ X. Good X) r.2 (own_good e g.1) in
      up r.1 C (d_apply (at r.2 (derive e Γ g.1 f.1)) (sub_expr (derive h Γ g.2 f.2) r.3 k.0)) r.4 g.0
  derive (val C e) Γ g f = up (claim e, D.none) C (d_val (derive e Γ g.1 f.1) (L.foot _)) f.0 g.0
  derive (call C e op i w c) Γ g f =
      let r = f.0 in
      d_call r.2 (at r.1 (derive i Γ g.1 f.1)) (sub_expr (derive w Γ g.2 f.2) r.3 (declared T D K _)) (up (claim c) C (derive c _ g.3 f.3) r.4 g.0) r.5
  derive (bind C c c') Γ g f =
      let r = f.0 in
      let b = own_good c g.1 in
      d_let (up (claim c) ((claim c).0, C.1) (derive c Γ g.1 f.1) (⊴_refl T D L _, L.trans (L.left _ _) r.1) (b.0, g.0.1))
      (up (claim c') C (derive c' _ g.2 f.2) (r.0, L.trans (L.right (claim c).1 _) r.1) g.0)
  derive (rec C a c c') Γ g f =
      let r = f.0 in
      let k = subst (λ X. Good X) r.3 (declared T D K a) in
      let h = subst (λ X. Derives T D comp (type_at a ∷ X ∷ Γ) (erase c) (claim c)) (ap parameter r.3) (derive c _ g.1 f.1) in
      d_rec r.2 r.3 (up (claim c) r.1 h r.4 (k.1, k.2)) (up (claim c') C (derive c' _ g.2 f.2) r.5 g.0)
  derive (handle C e c) Γ g f =
      let r = f.0 in
      let k = subst (λ X. Good X) r.2 (own_good e g.1) in
      up r.1 C (d_with (at r.2 (derive e Γ g.1 f.1)) (up (claim c) r.0 (derive c Γ g.2 f.2) r.3 (k.0, k.1))) r.4 g.0

  -- A term of a context with claims that follow, its own being C.
  record Has (s : Sort) (Γ : Cxt) (t : Term s) (C : Claim s) : Type 0 where
    labels : Labelled s
    erased : erase labels ≡ t
    claimed : claim labels ≡ C
    declares : DeclaredClaims T D labels
    follows : Follows T D Γ labels

  same≼ : {A B : Ty} → A ≡ B → A ≼ B
  same≼ {A} q = subst (λ X. A ≼ X) q (⊴_refl T D L A)

  same≼! : (A B : Dirty) → A ≡ B → A ≼! B
  same≼! A B q = subst (λ X. A ≼! X) q (≦_refl T D L A)

  trans! : (A B C : Dirty) → A ≼! B → B ≼! C → A ≼! C
  trans! A B C p q = ≦_trans T D L B A C p q

  less_hand : (a : ℕ) (c : Labelled comp) (cs : Labelled list) (Γ : Cxt) (A0 : Ty) (d0 : ℕ) (B : Dirty) (X : Ty) → Listed T a → claim c ≼! claim cs
      → A0 ≼ type_at a → claim cs ≼! B → Passes T D cs d0 (claim cs).1 → t.hand A0 d0 B.0 B.1 ≼ X → Rule T D Γ (handler X a c cs)
  less_hand a c cs Γ A0 d0 B X l p q r h (hand≤ u v w z) =
      (_, _, (_, _), refl, l, p, trans≼ u q, (trans≼ r.0 w, L.trans r.1 z), λ i op c k n. h i op c (L.trans k v) n)

  -- an expression's claim may be raised
  raise : (l : Labelled expr) (Γ : Cxt) (B : Ty) → DeclaredClaims T D l → Follows T D Γ l → claim l ≼ B → Good B → Has expr Γ (erase l) B
  raise (var A n) Γ B g f p b = record { labels = var B n; erased = refl; claimed = refl; declares = b; follows = (f.0, f.1, trans≼ f.2 p) }
  raise (truth A n) Γ B g f p b = record { labels = truth B n; erased = refl; claimed = refl; declares = b; follows = trans≼ f p }
  raise (num A n) Γ B g f p b = record { labels = num B n; erased = refl; claimed = refl; declares = b; follows = trans≼ f p }
  raise (succ A e) Γ B g f p b =
      record { labels = succ B e; erased = refl; claimed = refl; declares = (b, g.1); follows = ((f.0.0, trans≼ f.0.1 p), f.1) }
  raise (unit A) Γ B g f p b = record { labels = unit B; erased = refl; claimed = refl; declares = b; follows = trans≼ f p }
  raise (inst A i) Γ B g f p b = record { labels = inst B i; erased = refl; claimed = refl; declares = b; follows = (f.0, f.1, trans≼ f.2 p) }
  raise (fn A a c) Γ B g f p b =
      record { labels = fn B a c; erased = refl; claimed = refl; declares = (b, g.1); follows = ((f.0.0, trans≼ f.0.1 p), f.1) }
  raise (handler A a c cs) Γ B g f p b =
      let r = f.0 in
      record {
        labels = handler B a c cs;
        erased = refl;
        claimed = refl;
        declares = (b, g.1, g.2);
        follows = (less_hand a c cs Γ r.0 r.1 r.2 B r.4 r.5 r.6 r.7 r.8 (subst (λ X. X ≼ B) r.3 p), f.1, f.2);
      }

  -- and a computation's
  raise_comp : (l : Labelled comp) (Γ : Cxt) (E : Dirty) → DeclaredClaims T D l → Follows T D Γ l → claim l ≼! E → DeclaredDirty T D E → Has comp Γ (erase l) E
  raise_comp (if C e c c') Γ E g f p b = record {
    labels = if E e c c';
    erased = refl;
    claimed = refl;
    declares = (b, g.1, g.2, g.3);
    follows = ((f.0.0, trans! _ C E f.0.1 p, trans! _ C E f.0.2 p), f.1, f.2, f.3);
  }
  raise_comp (match C e c c') Γ E g f p b = record {
    labels = match E e c c';
    erased = refl;
    claimed = refl;
    declares = (b, g.1, g.2, g.3);
    follows = ((f.0.0, trans! _ C E f.0.1 p, trans! _ C E f.0.2 p), f.1, f.2, f.3);
  }
  raise_comp (absurd C e) Γ E g f p b = record { labels = absurd E e; erased = refl; claimed = refl; declares = (b, g.1); follows = f }
  raise_comp (apply C e h) Γ E g f p b = let r = f.0 in record {
    labels = apply E e h;
    erased = refl;
    claimed = refl;
    declares = (b, g.1, g.2);
    follows = ((r.0, r.1, r.2, r.3, trans! _ C E r.4 p), f.1, f.2);
  }
  raise_comp (val C e) Γ E g f p b = record { labels = val E e; erased = refl; claimed = refl; declares = (b, g.1); follows = (trans! _ C E f.0 p, f.1) }
  raise_comp (call C e op i w c) Γ E g f p b = let r = f.0 in record {
    labels = call E e op i w c;
    erased = refl;
    claimed = refl;
    declares = (b, g.1, g.2, g.3);
    follows = ((r.0, r.1, r.2, r.3, trans! _ C E r.4 p, λ j m. L.trans (r.5 j m) p.1), f.1, f.2, f.3);
  }
  raise_comp (bind C c c') Γ E g f p b =
      record { labels = bind E c c'; erased = refl; claimed = refl; declares = (b, g.1, g.2); follows = (trans! _ C E f.0 p, f.1, f.2) }
  raise_comp (rec C a c c') Γ E g f p b = let r = f.0 in record {
    labels = rec E a c c';
    erased = refl;
    claimed = refl;
    declares = (b, g.1, g.2);
    follows = ((r.0, r.1, r.2, r.3, r.4, trans! _ C E r.5 p), f.1, f.2);
  }
  raise_comp (handle C e c) Γ E g f p b = let r = f.0 in record {
    labels = handle E e c;
    erased = refl;
    claimed = refl;
    declares = (b, g.1, g.2);
    follows = ((r.0, r.1, r.2, r.3, trans! _ C E r.4 p), f.1, f.2);
  }

  -- the claims of a derived term; a case list's leave no more than it claims
  abbrev ClaimsOf : (s : Sort) → Cxt → Term s → Typing s → Type 0
  ClaimsOf expr Γ t A = Has expr Γ t A
  ClaimsOf list Γ t C = DeclaredDirty T D (C.0, C.1) → (h : Has list Γ t (C.0, C.1)) × (cases_leave D h.labels C.2 ⊑ C.1)
  ClaimsOf comp Γ t C = Has comp Γ t C

  claims : {s : Sort} {Γ : Cxt} {t : Term s} {C : Typing s} → Derives T D s Γ t C → DeclaredCxt T D Γ → ClaimsOf s Γ t C
  claims (sub_expr {Γ = Γ} {B = B} h p g) G = let r = claims h G in
      subst (λ x. Has expr Γ x B) r.erased (raise r.labels Γ B r.declares r.follows (subst (λ X. X ≼ B) (sym r.claimed) p) g)
  claims (sub_comp {Γ = Γ} {B = B} {d' = d'} h p q g k) G = let r = claims h G in
      subst (λ x. Has comp Γ x (B, d')) r.erased
      (raise_comp r.labels Γ (B, d') r.declares r.follows (subst (λ X. X ≼! (B, d')) (sym r.claimed) (p, q)) (g, k))
  claims (d_var {n = n} {A = A} h) G =
      record { labels = var A n; erased = refl; claimed = refl; declares = derived T D K (d_var h) G; follows = (A, h, ⊴_refl T D L A) }
  claims (d_truth {b = b}) G = record { labels = truth t.bool b; erased = refl; claimed = refl; declares = tt; follows = ⊴_refl T D L t.bool }
  claims (d_num {n = n}) G = record { labels = num t.nat n; erased = refl; claimed = refl; declares = tt; follows = ⊴_refl T D L t.nat }
  claims (d_succ h) G = let r = claims h G in record {
    labels = succ t.nat r.labels;
    erased = ap y.succ r.erased;
    claimed = refl;
    declares = (tt, r.declares);
    follows = ((r.claimed, ⊴_refl T D L t.nat), r.follows);
  }
  claims d_unit G = record { labels = unit t.unit; erased = refl; claimed = refl; declares = tt; follows = ⊴_refl T D L t.unit }
  claims (d_inst {Γ = Γ} {i = i} {e = e} h) G = record {
    labels = inst (t.instance e (2 ^ i)) i;
    erased = refl;
    claimed = refl;
    declares = instance_declared T D K i e h;
    follows = (e, h, ⊴_refl T D L _);
  }
  claims (d_fn {a = a} {B = B} {d = d} l h) G = let r = claims h (declared T D K a, G) in
      record {
        labels = fn (t.fun (type_at a) B d) a r.labels;
        erased = ap (y.fn a) r.erased;
        claimed = refl;
        declares = (derived T D K (d_fn l h) G, r.declares);
        follows = ((l, subst (λ X. t.fun (type_at a) X.0 X.1 ≼ t.fun (type_at a) B d) (sym r.claimed) (⊴_refl T D L _)), r.follows);
      }
  claims (d_handler {Γ = Γ} {a = a} {B = B} {d = d} {d' = d'} l h k g) G =
      let r = claims h (declared T D K a, G) in
      let q = claims k G (derived T D K h (declared T D K a, G)) in
      let e = r.erased in let e' = q.0.erased in
      record {
        labels = handler (t.hand (type_at a) d B d') a r.labels q.0.labels;
        erased = cc;
        claimed = refl;
        declares = (derived T D K (d_handler l h k g) G, r.declares, q.0.declares);
        follows = (
          (
            type_at a,
            d,
            (B, d'),
            refl,
            l,
            same≼! _ _ (r.claimed ∙ sym q.0.claimed),
            ⊴_refl T D L _,
            same≼! _ _ q.0.claimed,
            leaving q.0.labels d _ (cases_good q.0.labels Γ q.0.follows)
                (subst (λ X. cases_leave D q.0.labels d ⊑ X.1) (sym q.0.claimed) q.1),
          ),
          r.follows,
          q.0.follows,
        );
      }
  claims (d_case {Γ = Γ} {e = e} {op = op} {B = B} {R = R} {d' = d'} {d = d} o h k l) G = λ b.
      let r = claims h G in
      let s = claims k ((declared T D K _, b.0, b.1), (declared T D K _, G)) in
      let q = claims l G b in
      let e0 = r.erased in let e1 = s.erased in let e2 = q.0.erased in (
        record {
          labels = case e op r.labels s.labels q.0.labels;
          erased = cc;
          claimed = q.0.claimed;
          declares = (r.declares, s.declares, q.0.declares);
          follows = (
            (R, r.claimed, o, same≼! _ _ (s.claimed ∙ sym q.0.claimed)),
            r.follows,
            subst (λ X. Follows T D (t.fun (type_at (gives T e op)) X.0 X.1 ∷ type_at (takes T e op) ∷ Γ) s.labels) (sym q.0.claimed) s.follows,
            q.0.follows,
          );
        },
        subst (λ x. cases_leave D q.0.labels x ⊑ d') (sym (leaves_at (claim r.labels) e R op d r.claimed)) q.1,
      )
  claims (d_nil {B = B} {d' = d'} p) G = λ b. (record { labels = nil (B, d'); erased = refl; claimed = refl; declares = b; follows = tt }, p)
  claims (d_if {C = C} h k l) G =
      let r = claims h G in let s = claims k G in let q = claims l G in
      let e0 = r.erased in let e1 = s.erased in let e2 = q.erased in
      record {
        labels = if C r.labels s.labels q.labels;
        erased = cc;
        claimed = refl;
        declares = (derived T D K k G, r.declares, s.declares, q.declares);
        follows = ((r.claimed, same≼! _ C s.claimed, same≼! _ C q.claimed), r.follows, s.follows, q.follows);
      }
  claims (d_match {C = C} h k l) G =
      let r = claims h G in let s = claims k G in let q = claims l (tt, G) in
      let e0 = r.erased in let e1 = s.erased in let e2 = q.erased in
      record {
        labels = match C r.labels s.labels q.labels;
        erased = cc;
        claimed = refl;
        declares = (derived T D K k G, r.declares, s.declares, q.declares);
        follows = ((r.claimed, same≼! _ C s.claimed, same≼! _ C q.claimed), r.follows, s.follows, q.follows);
      }
  claims (d_absurd {A = A} {d = d} h g k) G = let r = claims h G in record {
    labels = absurd (A, d) r.labels;
    erased = ap y.absurd r.erased;
    claimed = refl;
    declares = ((g, k), r.declares);
    follows = (r.claimed, r.follows);
  }
  claims (d_apply {A = A} {B = B} {d = d} h k) G =
      let r = claims h G in let s = claims k G in let e0 = r.erased in let e1 = s.erased in
      record {
        labels = apply (B, d) r.labels s.labels;
        erased = cc;
        claimed = refl;
        declares = (derived T D K (d_apply h k) G, r.declares, s.declares);
        follows = ((A, (B, d), r.claimed, same≼ s.claimed, ≦_refl T D L (B, d)), r.follows, s.follows);
      }
  claims (d_val {A = A} {d = d} h k) G = let r = claims h G in record {
    labels = val (A, d) r.labels;
    erased = ap y.val r.erased;
    claimed = refl;
    declares = ((derived T D K h G, k), r.declares);
    follows = ((same≼ r.claimed, L.foot d), r.follows);
  }
  claims (d_call {e = e} {op = op} {A = A} {R = R} {d = d} o h k l p) G =
      let r = claims h G in let s = claims k G in let q = claims l (declared T D K _, G) in
      let e0 = r.erased in let e1 = s.erased in let e2 = q.erased in
      record {
        labels = call (A, d) e op r.labels s.labels q.labels;
        erased = cc;
        claimed = refl;
        declares = (derived T D K l (declared T D K _, G), r.declares, s.declares, q.declares);
        follows = ((R, r.claimed, o, same≼ s.claimed, same≼! _ (A, d) q.claimed, p), r.follows, s.follows, q.follows);
      }
  claims (d_let {Γ = Γ} {A = A} {B = B} {d = d} h k) G =
      let r = claims h G in let s = claims k ((derived T D K h G).0, G) in let e0 = r.erased in let e1 = s.erased in
      record {
        labels = bind (B, d) r.labels s.labels;
        erased = cc;
        claimed = refl;
        declares = (derived T D K (d_let h k) G, r.declares, s.declares);
        follows = (
          (same≼ (ap (λ X. X.0) s.claimed), L.least (subst (λ X. X.1 ⊑ d) (sym r.claimed) (L.self d)) (subst (λ X. X.1 ⊑ d) (sym s.claimed) (L.self d))),
          r.follows,
          subst (λ X. Follows T D (X.0 ∷ Γ) s.labels) (sym r.claimed) s.follows,
        );
      }
  claims (d_rec {Γ = Γ} {a = a} {C = C} {A = A} {B = B} {d = d} l q h k) G =
      let z = subst (λ X. Good X) q (declared T D K a) in
      let r = claims h (declared T D K a, (z.0, G)) in let s = claims k (declared T D K a, G) in let e0 = r.erased in let e1 = s.erased in
      record {
        labels = rec C a r.labels s.labels;
        erased = cc;
        claimed = refl;
        declares = (derived T D K k (declared T D K a, G), r.declares, s.declares);
        follows = (
          (A, (B, d), l, q, same≼! _ _ r.claimed, same≼! _ C s.claimed),
          subst (λ X. Follows T D (type_at a ∷ parameter X ∷ Γ) r.labels) (sym q) r.follows,
          s.follows,
        );
      }
  claims (d_with {A = A} {B = B} {d = d} {d' = d'} h k) G =
      let r = claims h G in let s = claims k G in let e0 = r.erased in let e1 = s.erased in
      record {
        labels = handle (B, d') r.labels s.labels;
        erased = cc;
        claimed = refl;
        declares = (derived T D K (d_with h k) G, r.declares, s.declares);
        follows = (((A, d), (B, d'), r.claimed, same≼! _ _ s.claimed, ≦_refl T D L (B, d')), r.follows, s.follows);
      }

  typed : {s : Sort} {t : Term s} {C : Claim s} → Has s [] t C → HasType T D s t C
  typed h = record { labels = h.labels; erased = h.erased; claimed = h.claimed; declared = h.declares; follows = h.follows }

  pub expr_derived : (e : Term expr) (A : Ty) → HasType T D expr e A → Derives T D expr [] e A
  expr_derived e A h = subst (λ x. Derives T D expr [] x A) h.erased
      (subst (λ X. Derives T D expr [] (erase h.labels) X) h.claimed (derive h.labels [] h.declared h.follows))

  pub comp_derived : (c : Term comp) (C : Dirty) → HasType T D comp c C → Derives T D comp [] c C
  comp_derived c C h = subst (λ x. Derives T D comp [] x C) h.erased
      (subst (λ X. Derives T D comp [] (erase h.labels) X) h.claimed (derive h.labels [] h.declared h.follows))

  pub expr_typed : (e : Term expr) (A : Ty) → Derives T D expr [] e A → HasType T D expr e A
  expr_typed e A h = typed (claims h tt)

  pub comp_typed : (c : Term comp) (C : Dirty) → Derives T D comp [] c C → HasType T D comp c C
  comp_typed c C h = typed (claims h tt)

pub claims_are_derivations : ClaimsAreDerivations
claims_are_derivations T K =
    let D = sets T in let L = laws T K in let p = handled.passes T K in let q = handled.leaving T K in
    record {
      expressions = λ e A. (λ h. expr_derived T D K L p q e A h, λ h. expr_typed T D K L p q e A h);
      computations = λ c C. (λ h. comp_derived T D K L p q c C h, λ h. comp_typed T D K L p q c C h);
    }

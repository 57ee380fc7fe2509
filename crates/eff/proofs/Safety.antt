-- Type safety: what a computation of a type does fits that type.
use Rattle.std.proofs.Common.{◌≡◌, ℕ, zero, suc, ◌^◌, Bool, true, false, cond, eqb, [], ◌∷◌, Some, None, Option, sym, refl, ap, ◌∙◌, subst, arith, eqb-true}
use Rattle.eff.specs.Sorts.{expr, list, comp}
use Rattle.eff.specs.Syntax.{Term, var, truth, num, succ, unit, inst, fn, handler, call, rec, handle, put}
use Rattle.eff.specs.Sets.{Holds}
use Rattle.eff.specs.Types.{Ty, Dirty}
use Rattle.eff.specs.Types as t
use Rattle.eff.specs.Tables.{Tables, Declares, takes, gives, Instance, Call, Listed, type, argument}
use Rattle.eff.specs.Dirt.{Dirts, Laws, ◌⊆◌, Admits, leaves, leaves_below}
use Rattle.eff.specs.Subtyping.{◌⊴◌, ground≤, instance≤, fun≤, hand≤}
use Rattle.eff.specs.Checked.{Known, Declared, Checked}
use Rattle.eff.specs.Rules.{Cxt, Derives, sub_expr, sub_comp, d_var, d_truth, d_num, d_succ, d_unit, d_inst, d_fn, d_handler, d_case, d_nil, d_if, d_match, d_absurd, d_apply, d_val, d_call, d_let, d_rec, d_with}
use Rattle.eff.specs.Steps.{Names, First, this, later, Unnamed, none, more}
use Rattle.eff.specs.Outcome.{Outcome, value, asks, next, stuck, first, on_if, on_match, on_apply, on_call, in_let, in_with, answer, step}
use Rattle.eff.specs.Questions.{Of, one_more, worth}
use Rattle.eff.specs.Questions as q
use Rattle.eff.specs.declared.ground.Ground.{Ground}
use Rattle.eff.specs.declared.question.Value.{Value}
use Rattle.eff.specs.declared.question.Value.TheVariants.{Truth, Count}
use Rattle.eff.specs.declared.question.Value.TheVariants as w
use Rattle.eff.proofs.Sets.{holds_own, own_holds}
use Rattle.eff.proofs.Subtypes.{⊴_refl, ⊴_trans}
use Rattle.eff.proofs.TypeNumbers.{declared, argument_type}
use Rattle.eff.proofs.Put.{wide, put_in, put_last, derived}
use Rattle.eff.proofs.Agree.{Found, found}

module _ (T : Tables) (D : Dirts) (K : Checked T D) (L : Laws T D) where
  open D use {own, without}
  open L use {self, trans, keeps}

  infix 50 ◌⊑◌
  abbrev ◌⊑◌ : ℕ → ℕ → Type 0
  ◌⊑◌ d e = ◌⊆◌ D d e

  infix 50 ◌≼◌
  abbrev ◌≼◌ : Ty → Ty → Type 0
  ◌≼◌ A B = ◌⊴◌ D A B

  abbrev Good : Ty → Type 0
  Good A = Declared T D A

  abbrev Safe : ℕ → Type 0
  Safe d = Known T D d

  abbrev type_at : ℕ → Ty
  type_at n = type T n

  abbrev Exp : Cxt → Term expr → Ty → Type 0
  Exp Γ e A = Derives T D expr Γ e A

  abbrev Comp : Cxt → Term comp → Ty → ℕ → Type 0
  Comp Γ c A d = Derives T D comp Γ c (A, d)

  same≤ : {A : Ty} → A ≼ A
  same≤ {A} = ⊴_refl T D L A

  trans≤ : {A B C : Ty} → A ≼ B → B ≼ C → A ≼ C
  trans≤ {B} p q = ⊴_trans T D L B p q

  -- a closed expression by its type
  data Form : Term expr → Ty → Type 0 where
    a_truth : (b : Bool) → Form (truth b) t.bool
    a_num : (n : ℕ) → Form (num n) t.nat
    a_succ : {e : Term expr} → Exp [] e t.nat → Form (succ e) t.nat
    a_unit : Form unit t.unit
    an_inst : {i e R : ℕ} → Instance T i e → Holds R i → Form (inst i) (t.instance e R)
    a_fn : {a : ℕ} {c : Term comp} {A B : Ty} {d : ℕ} → Listed T a → A ≼ type_at a → Comp (type_at a ∷ []) c B d → Form (fn a c) (t.fun A B d)
    a_handler : {a : ℕ} {c : Term comp} {cs : Term list} {A B B' : Ty} {d d' f f' : ℕ} → Listed T a → A ≼ type_at a → d ⊑ f → B' ≼ B → f' ⊑ d'
        → Comp (type_at a ∷ []) c B' f' → Derives T D list [] cs (B', f', f) → Safe f → Form (handler a c cs) (t.hand A d B d')

  raise : {e : Term expr} {A B : Ty} → Form e A → A ≼ B → Good B → Form e B
  raise (a_truth b) ground≤ g = a_truth b
  raise (a_num n) ground≤ g = a_num n
  raise (a_succ h) ground≤ g = a_succ h
  raise a_unit ground≤ g = a_unit
  raise (an_inst {i = i} q p) (instance≤ r) g = an_inst q (r i p)
  raise (a_fn l p h) (fun≤ q r s) g = a_fn l (trans≤ q p) (sub_comp h r s g.1 g.2)
  raise (a_handler l p q r s h k f) (hand≤ p' q' r' s') g = a_handler l (trans≤ p' p) (trans q' q) (trans≤ r r') (trans s s') h k f

  form : {e : Term expr} {A : Ty} → Exp [] e A → Form e A
  form (sub_expr h p g) = raise (form h) p g
  form (d_var h) = elim h [ ]
  form (d_truth {b = b}) = a_truth b
  form (d_num {n = n}) = a_num n
  form (d_succ h) = a_succ h
  form d_unit = a_unit
  form (d_inst {i = i} h) = an_inst h (holds_own i)
  form (d_fn l h) = a_fn l same≤ h
  form (d_handler l h k g) = a_handler l same≤ (self _) same≤ (self _) h k g

  -- an outcome of a computation of type A!d
  abbrev pub Fits : Outcome → Ty → ℕ → Type 0
  Fits (value v) A d = Exp [] v A
  Fits (asks e op i v k) A d = Instance T i e × Declares T e op × own i op ⊑ d × Exp [] v (type_at (takes T e op))
      × Comp (type_at (gives T e op) ∷ []) k A d
  Fits (next c) A d = Comp [] c A d
  Fits stuck A d = ⊥

  fits_raise : (o : Outcome) {A B : Ty} {d d' : ℕ} → Fits o A d → A ≼ B → d ⊑ d' → Good B → Safe d' → Fits o B d'
  fits_raise (value v) h p q g k = sub_expr h p g
  fits_raise (asks e op i v b) h p q g k = (h.0, h.1, trans h.2 q, h.3, sub_comp h.4 p q g k)
  fits_raise (next c) h p q g k = sub_comp h p q g k
  fits_raise stuck h p q g k = h

  if_ok : {e : Term expr} (c c' : Term comp) {C : Dirty} → Form e t.bool → Derives T D comp [] c C → Derives T D comp [] c' C
      → Fits (on_if e c c') C.0 C.1
  if_ok c c' (a_truth true) h k = h
  if_ok c c' (a_truth false) h k = k

  match_ok : {e : Term expr} (c c' : Term comp) {C : Dirty} → Form e t.nat → Derives T D comp [] c C → Derives T D comp (t.nat ∷ []) c' C
      → Fits (on_match e c c') C.0 C.1
  match_ok c c' (a_num zero) h k = h
  match_ok c c' (a_num (suc n)) h k = put_last T D t.nat (num n) d_num k
  match_ok c c' (a_succ {e = e} g) h k = put_last T D t.nat e g k

  -- a value at a greater type of a number
  at_type : {v : Term expr} {A : Ty} (a : ℕ) → Exp [] v A → A ≼ type_at a → Exp [] v (type_at a)
  at_type a k p = sub_expr k p (declared T D K a)

  apply_fits : {e : Term expr} (v : Term expr) {A B : Ty} {d : ℕ} → Form e (t.fun A B d) → Exp [] v A → Fits (on_apply e v) B d
  apply_fits v (a_fn {a = a} l p h) k = put_last T D (type_at a) v (at_type a k p) h

  call_ok : {x : Term expr} (e op : ℕ) (v : Term expr) (c : Term comp) (A : Ty) {R : ℕ} (d : ℕ) → Form x (t.instance e R) → Declares T e op
      → Exp [] v (type_at (takes T e op)) → Comp (type_at (gives T e op) ∷ []) c A d → Admits D R op d → Fits (on_call x e op v c) A d
  call_ok e op v c A d (an_inst {i = i} q p) o h k s = (q, o, s i p, h, k)

  -- the call i#op, which d admits
  ask_ok : {e op i : ℕ} {v : Term expr} {k : Term comp} {A : Ty} {d : ℕ} → Instance T i e → Declares T e op → own i op ⊑ d
      → Exp [] v (type_at (takes T e op)) → Comp (type_at (gives T e op) ∷ []) k A d → Comp [] (call e op (inst i) v k) A d
  ask_ok {op = op} {i = i} {d = d} q o p h k = d_call o (d_inst q) h k (λ j m. subst (λ n. own n op ⊑ d) (sym (own_holds i j m)) p)

  let_ok : (o : Outcome) (c : Term comp) {A B : Ty} {d : ℕ} → Fits o A d → Comp (A ∷ []) c B d → Fits (in_let c o) B d
  let_ok (value v) c h k = put_last T D _ v h k
  let_ok (asks e op i v b) c h k = ask_ok h.0 h.1 h.2 h.3 (d_let h.4 (wide T D _ k))
  let_ok (next b) c h k = d_let h k
  let_ok stuck c h k = h

  -- a case at the instance j leaves the call i#op, unless it names it
  leaves_keeps : (n R op' i j op d : ℕ) → Holds R j → Call T i op → Call T j op' → ¬ ((i ≡ j) × (op ≡ op')) → own i op ⊑ d
      → own i op ⊑ leaves_below D n R op' d
  leaves_keeps zero R op' i j op d m c c' n p = p
  leaves_keeps (suc k) R op' i j op d m c c' n p = go (eqb R (2 ^ k)) refl (leaves_keeps k R op' i j op d m c c' n p)
    where
      go : (b : Bool) → eqb R (2 ^ k) ≡ b → own i op ⊑ leaves_below D k R op' d → own i op ⊑ cond b (without k op' d) (leaves_below D k R op' d)
      go true e h = let q : j ≡ k = own_holds k j (subst (λ S. Holds S j) (eqb-true R (2 ^ k) e) m) in
          subst (λ x. own i op ⊑ without x op' d) q (keeps i op j op' c c' n p)
      go false e h = h

  passes_case : (R : ℕ) {e' op' j : ℕ} {i op d : ℕ} → Instance T j e' → Declares T e' op' → Holds R j → Call T i op → ¬ Names op' (inst j) i op → own i op ⊑ d
      → own i op ⊑ leaves D R op' d
  unfolding leaves
  passes_case R {e'} {op'} {j} {i} {op} {d} q o m c n p =
      leaves_keeps 16 R op' i j op d m c (record { effect = e'; instance = q; operation = o }) (λ r. n (sym r.1, ap inst (sym r.0))) p

  -- one instance has one effect
  same_effect : {i e e' : ℕ} → Instance T i e → Instance T i e' → e ≡ e'
  same_effect p q = sym p.effect ∙ (q).effect

  -- the body of a case that names i#op, with the argument and the continuation written in
  body_ok : {x : Term expr} {e' op' : ℕ} {c : Term comp} {f v : Term expr} {e op i : ℕ} {B : Ty} {b R : ℕ} → Form x (t.instance e' R) → Names op' x i op
      → Instance T i e → Comp (t.fun (type_at (gives T e' op')) B b ∷ type_at (takes T e' op') ∷ []) c B b
      → Exp [] v (type_at (takes T e op)) → Exp [] f (t.fun (type_at (gives T e op)) B b) → Comp [] (put 0 f (put 1 v c)) B b
  body_ok {e' = e'} {op' = op'} {f = f} {v = v} {e = e} {op = op} {i = i} {B = B} {b = b} (an_inst {i = j} q' p') n q hc hv hf =
      let ji : j ≡ i = cc n.1 in
      let ee : e ≡ e' = same_effect q (subst (λ k. Instance T k e') ji q') in
      let hv' : Exp [] v (type_at (takes T e' op')) = subst (λ k. Exp [] v (type_at (takes T k op'))) ee (subst (λ o. Exp [] v (type_at (takes T e o))) (sym n.0) hv) in
      let hf' : Exp [] f (t.fun (type_at (gives T e' op')) B b) =
      subst (λ k. Exp [] f (t.fun (type_at (gives T k op')) B b)) ee (subst (λ o. Exp [] f (t.fun (type_at (gives T e o)) B b)) (sym n.0) hf) in
      put_last T D _ f hf' (put_in T D _ v hv' hc (_ ∷ []) refl)

  skip_ok : {x : Term expr} {e' op' R i op d : ℕ} → Form x (t.instance e' R) → Declares T e' op' → Call T i op → ¬ Names op' x i op → own i op ⊑ d
      → own i op ⊑ leaves D R op' d
  skip_ok {R = R} (an_inst q p) o c n h = passes_case R q o p c n h

  first_ok : {i op : ℕ} {cs : Term list} {c : Term comp} {f v : Term expr} {e : ℕ} {B : Ty} {d' d : ℕ} → First i op cs c → Derives T D list [] cs (B, d', d)
      → Instance T i e → Exp [] v (type_at (takes T e op)) → Exp [] f (t.fun (type_at (gives T e op)) B d') → Comp [] (put 0 f (put 1 v c)) B d'
  first_ok (this n) (d_case o hx hc hcs) q hv hf = body_ok (form hx) n q hc hv hf
  first_ok (later n r) (d_case o hx hc hcs) q hv hf = first_ok r hcs q hv hf

  passed_ok : {i op : ℕ} {cs : Term list} {B : Ty} {d' d : ℕ} → Unnamed i op cs → Derives T D list [] cs (B, d', d) → Call T i op → own i op ⊑ d
      → own i op ⊑ d'
  passed_ok none (d_nil l) c p = trans p l
  passed_ok (more n u) (d_case o hx hc hcs) c p = passed_ok u hcs c (skip_ok (form hx) o c n p)

  answer_ok : {cs : Term list} {h : Term expr} {e op i : ℕ} {v : Term expr} {k : Term comp} {B : Ty} {d' d : ℕ} (r : Option (Term comp)) → Found i op cs r
      → Derives T D list [] cs (B, d', d) → Instance T i e → Declares T e op → own i op ⊑ d → Exp [] v (type_at (takes T e op))
      → Comp (type_at (gives T e op) ∷ []) (handle h k) B d' → Comp [] (answer T r h e op i v k) B d'
  answer_ok {e = e} {op = op} (Some b) f hcs q o p hv hk = first_ok f hcs q hv (d_fn (K.given e op o) hk)
  answer_ok {e = e} (None) f hcs q o p hv hk = ask_ok q o (passed_ok f hcs (record { effect = e; instance = q; operation = o }) p) hv hk

  with_ok : {h : Term expr} (o : Outcome) {A B : Ty} {d d' : ℕ} → Form h (t.hand A d B d') → Exp [] h (t.hand A d B d') → Good B → Safe d' → Fits o A d
      → Fits (in_with T h o) B d'
  with_ok (value v) (a_handler {a = a} l p q r s hc hcs f) hh g y k = sub_comp (put_last T D _ v (at_type a k p) hc) r s g y
  with_ok (asks e op i v b) (a_handler {a = a} {cs = cs} l p q r s hc hcs f) hh g y k =
      sub_comp (answer_ok (first i op cs) (found i op cs) hcs k.0 k.1 (trans k.2 q) k.3
      (d_with (wide T D _ (d_handler l hc hcs f)) (sub_comp k.4 p q (declared T D K a) f))) r s g y
  with_ok (next b) (a_handler l p q r s hc hcs f) hh g y k = d_with hh k
  with_ok stuck (a_handler l p q r s hc hcs f) hh g y k = k

  none_empty : {X : Type 0} {e : Term expr} → Form e t.empty → X
  none_empty f = elim f [ ]

  -- let rec's function
  rec_fn : (a : ℕ) (c : Term comp) (A B : Ty) (d : ℕ) → Listed T a → type_at a ≡ t.fun A B d → Comp (type_at a ∷ A ∷ []) c B d
      → Exp [] (fn (argument T a) (rec a c c)) (type_at a)
  rec_fn a c A B d l q h =
      let r = argument_type T D K a A B d l q in
      let h' : Comp (type_at a ∷ type_at (argument T a) ∷ []) c B d = subst (λ X. Comp (type_at a ∷ X ∷ []) c B d) (sym r.1) h in
      let w : type_at a ≡ t.fun (type_at (argument T a)) B d = q ∙ ap (λ X. t.fun X B d) (sym r.1) in
      subst (λ X. Exp [] (fn (argument T a) (rec a c c)) X) (sym w) (d_fn r.0 (d_rec l w (wide T D (_ ∷ []) h') h'))

  pub safety : {c : Term comp} {C : Dirty} → Derives T D comp [] c C → Fits (step T c) C.0 C.1
  safety (sub_comp {c = c} h p q g k) = fits_raise (step T c) (safety h) p q g k
  safety (d_if {c = c} {c' = c'} h k l) = if_ok c c' (form h) k l
  safety (d_match {c = c} {c' = c'} h k l) = match_ok c c' (form h) k l
  safety (d_absurd h g k) = none_empty (form h)
  safety (d_apply {f = v} h k) = apply_fits v (form h) k
  safety (d_val h k) = h
  safety (d_call {w = v} {c = c} o h k l p) = call_ok _ _ v c _ _ (form h) o k l p
  safety (d_let {c = c} {c' = c'} h k) = let_ok (step T c) c' (safety h) k
  safety (d_rec {a = a} {c = c} {A = A} {B = B} {d = d} l q h k) = put_last T D _ _ (rec_fn a c A B d l q h) k
  safety (d_with {c = c} h k) = let r = derived T D K h tt in with_ok (step T c) (form h) h r.2 r.3 (safety k)

  abbrev GroundType : Ty → Type 0
  GroundType (t.ground g) = Unit {0}
  GroundType (t.fun A B d) = ⊥
  GroundType (t.instance e R) = ⊥
  GroundType (t.hand A d B d') = ⊥

  -- a closed expression of ground type has a value of that type
  pub record Worth (v : Term expr) (A : Ty) : Type 0 where
    pub the : Value
    pub is : worth v ≡ Some the
    pub of : Of the A

  one_more_ok : {a : Value} → Of a t.nat → (b : Value) × (one_more (Some a) ≡ Some b) × Of b t.nat
  one_more_ok (q.a_count {n}) = (Count (suc n), refl, q.a_count)

  worth_form : (v : Term expr) {A : Ty} → Form v A → GroundType A → Worth v A
  worth_form (truth b) (a_truth b') g = record { the = Truth b; is = refl; of = q.a_truth }
  worth_form (num n) (a_num n') g = record { the = Count n; is = refl; of = q.a_count }
  worth_form (succ e) (a_succ h) g = let r = worth_form e (form h) tt in let m = one_more_ok r.of in
      record { the = m.0; is = ap one_more r.is ∙ m.1; of = m.2 }
  worth_form unit a_unit g = record { the = w.Unit; is = refl; of = q.the_unit }
  worth_form (var n) f g = elim f [ ]
  worth_form (inst i) (an_inst p r) g = elim g [ ]
  worth_form (fn a c) (a_fn l p h) g = elim g [ ]
  worth_form (handler a c cs) (a_handler l p o r s h k f) g = elim g [ ]

  -- the value of a closed expression is of its type
  worth_of : (v : Term expr) {A : Ty} (w : Value) → Form v A → worth v ≡ Some w → Of w A
  worth_of (truth b) w (a_truth b') e = let r : Truth b ≡ w = cc in subst (λ x. Of x t.bool) r q.a_truth
  worth_of (num n) w (a_num n') e = let r : Count n ≡ w = cc in subst (λ x. Of x t.nat) r q.a_count
  worth_of (succ x) w (a_succ h) e = let r = worth_form (succ x) (a_succ h) tt in let s = r.is in let z : r.the ≡ w = cc in subst (λ y. Of y t.nat) z r.of
  worth_of unit x a_unit e = let r : w.Unit ≡ x = cc in subst (λ y. Of y t.unit) r q.the_unit
  worth_of (var n) w f e = elim f [ ]
  worth_of (inst i) w (an_inst p r) e = let z : ◌≡◌ {A = ℕ} 0 1 = cc in absurd (omega arith)
  worth_of (fn a c) w (a_fn l p h) e = let z : ◌≡◌ {A = ℕ} 0 1 = cc in absurd (omega arith)
  worth_of (handler a c cs) w (a_handler l p o r s h k f) e = let z : ◌≡◌ {A = ℕ} 0 1 = cc in absurd (omega arith)

  pub value_typed : (v : Term expr) (A : Ty) (w : Value) → Exp [] v A → worth v ≡ Some w → Of w A
  value_typed v A w h e = worth_of v w (form h) e

  pub value_there : (v : Term expr) (g : Ground) → Exp [] v (t.ground g) → Worth v (t.ground g)
  value_there v g h = worth_form v (form h) tt

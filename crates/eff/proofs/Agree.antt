-- The step function and the steps agree.
use Rattle.std.proofs.Common.{◌≡◌, ℕ, zero, suc, Bool, true, false, cond, ◌&&◌, eqb, Some, None, Option, refl, ap, ◌∙◌, subst, arith, eq-eqb, eqb-true}
use Rattle.eff.specs.Sorts.{expr, list, comp}
use Rattle.eff.specs.Syntax.{Term, var, truth, num, succ, unit, inst, fn, handler, case, nil, if, match, absurd, apply, val, call, bind, rec, handle}
use Rattle.eff.specs.Tables.{Tables}
use Rattle.eff.specs.Steps.{Names, First, this, later, Unnamed, none, more, let_call, with_call, ◌⇝◌, if_true, if_false, match_zero, match_num, match_succ, apply_fn, let_val, let_rec, with_val, with_case, moves}
use Rattle.eff.specs.Steps as s
use Rattle.eff.specs.Outcome.{Outcome, value, asks, next, stuck, is_instance, first, on_if, on_match, on_apply, on_call, answer, step, Agreed, StepsAgree}
use Rattle.eff.specs.Outcome as o

-- the test of a case
is_inst : (x : Term expr) (i : ℕ) → is_instance x i ≡ true → x ≡ inst i
is_inst (inst j) i h = ap inst (eqb-true j i h)
is_inst (var n) i h = cc
is_inst (truth b) i h = cc
is_inst (num n) i h = cc
is_inst (succ e) i h = cc
is_inst unit i h = cc
is_inst (fn a c) i h = cc
is_inst (handler a c cs) i h = cc

inst_is : (x : Term expr) (i : ℕ) → x ≡ inst i → is_instance x i ≡ true
inst_is x i h = rw h (eq-eqb i i refl)

named : (op' op i : ℕ) (x : Term expr) → eqb op' op && is_instance x i ≡ true → Names op' x i op
named op' op i x h = go (eqb op' op) refl (is_instance x i) refl h
  where
    go : (b : Bool) → eqb op' op ≡ b → (b' : Bool) → is_instance x i ≡ b' → b && b' ≡ true → Names op' x i op
    go true p true q r = (eqb-true op' op p, is_inst x i q)
    go true p false q r = (cc, cc)
    go false p true q r = (cc, cc)
    go false p false q r = (cc, cc)

unnamed : (op' op i : ℕ) (x : Term expr) → eqb op' op && is_instance x i ≡ false → ¬ Names op' x i op
unnamed op' op i x h n = let e = eq-eqb op' op n.0 in let f = inst_is x i n.1 in
    let z : ◌≡◌ {A = ℕ} 0 1 = cc in omega arith

names_true : (op' op i : ℕ) (x : Term expr) → Names op' x i op → eqb op' op && is_instance x i ≡ true
names_true op' op i x n = rw (eq-eqb op' op n.0, inst_is x i n.1) refl

names_false : (op' op i : ℕ) (x : Term expr) → ¬ Names op' x i op → eqb op' op && is_instance x i ≡ false
names_false op' op i x n = go (eqb op' op && is_instance x i) refl
  where
    go : (b : Bool) → eqb op' op && is_instance x i ≡ b → b ≡ false
    go true p = elim (n (named op' op i x p)) [ ]
    go false p = refl

-- what the first case is, by the search for it
abbrev pub Found : ℕ → ℕ → Term list → Option (Term comp) → Type 0
Found i op cs (Some b) = First i op cs b
Found i op cs None = Unnamed i op cs

pub found : (i op : ℕ) (cs : Term list) → Found i op cs (first i op cs)
found i op nil = none
found i op (case e op' x c cs) = go (eqb op' op && is_instance x i) refl (first i op cs) (found i op cs)
  where
    go : (b : Bool) → eqb op' op && is_instance x i ≡ b → (r : Option (Term comp)) → Found i op cs r → Found i op (case e op' x c cs) (cond b (Some c) r)
    go true p r f = this (named op' op i x p)
    go false p (Some b) f = later (unnamed op' op i x p) f
    go false p None f = more (unnamed op' op i x p) f

first_is : {i op : ℕ} {cs : Term list} {b : Term comp} → First i op cs b → first i op cs ≡ Some b
first_is (this n) = rw (names_true _ _ _ _ n) refl
first_is (later n f) = rw (names_false _ _ _ _ n) (first_is f)

first_none : {i op : ℕ} {cs : Term list} → Unnamed i op cs → first i op cs ≡ None
first_none none = refl
first_none (more n u) = rw (names_false _ _ _ _ n) (first_none u)

module _ (T : Tables) where
  -- a step under any expression
  next_in : (h : Term expr) (b : Term comp) → o.in_with T h (next b) ≡ next (handle h b)
  next_in (handler a c cs) b = refl
  next_in (var n) b = refl
  next_in (truth t) b = refl
  next_in (num n) b = refl
  next_in (succ e) b = refl
  next_in unit b = refl
  next_in (inst i) b = refl
  next_in (fn a c) b = refl

  -- what the relation says of an outcome of c
  abbrev pub Tells : Term comp → Outcome → Type 0
  Tells c (value v) = c ≡ val v
  Tells c (asks e op i v k) = c ≡ call e op (inst i) v k
  Tells c (next b) = ◌⇝◌ T c b
  Tells c stuck = Unit {0}

  -- each step of the relation is the function's
  pub finds : {c b : Term comp} → ◌⇝◌ T c b → step T c ≡ next b
  finds if_true = refl
  finds if_false = refl
  finds match_zero = refl
  finds match_num = refl
  finds match_succ = refl
  finds apply_fn = refl
  finds let_val = refl
  finds let_rec = refl
  finds with_val = refl
  finds (with_case {a = a} {c = c} {cs = cs} {e = e} {op = op} {i = i} {v = v} {k = k} f) =
      ap (λ r. next (answer T r (handler a c cs) e op i v k)) (first_is f)
  finds (moves let_call) = refl
  finds (moves (with_call {a = a} {c = c} {cs = cs} {e = e} {op = op} {i = i} {v = v} {k = k} u)) =
      ap (λ r. next (answer T r (handler a c cs) e op i v k)) (first_none u)
  finds (s.in_let {c' = c'} r) = ap (o.in_let c') (finds r)
  finds (s.in_with {h = h} {b = b} r) = ap (o.in_with T h) (finds r) ∙ next_in h b

  tells_if : (e : Term expr) (c c' : Term comp) → Tells (if e c c') (on_if e c c')
  tells_if (truth true) c c' = if_true
  tells_if (truth false) c c' = if_false
  tells_if (var n) c c' = tt
  tells_if (num n) c c' = tt
  tells_if (succ e) c c' = tt
  tells_if unit c c' = tt
  tells_if (inst i) c c' = tt
  tells_if (fn a b) c c' = tt
  tells_if (handler a b cs) c c' = tt

  tells_match : (e : Term expr) (c c' : Term comp) → Tells (match e c c') (on_match e c c')
  tells_match (num zero) c c' = match_zero
  tells_match (num (suc n)) c c' = match_num
  tells_match (succ e) c c' = match_succ
  tells_match (var n) c c' = tt
  tells_match (truth b) c c' = tt
  tells_match unit c c' = tt
  tells_match (inst i) c c' = tt
  tells_match (fn a b) c c' = tt
  tells_match (handler a b cs) c c' = tt

  tells_apply : (e v : Term expr) → Tells (apply e v) (on_apply e v)
  tells_apply (fn a c) v = apply_fn
  tells_apply (var n) v = tt
  tells_apply (truth b) v = tt
  tells_apply (num n) v = tt
  tells_apply (succ e) v = tt
  tells_apply unit v = tt
  tells_apply (inst i) v = tt
  tells_apply (handler a b cs) v = tt

  tells_call : (x : Term expr) (e op : ℕ) (v : Term expr) (k : Term comp) → Tells (call e op x v k) (on_call x e op v k)
  tells_call (inst i) e op v k = refl
  tells_call (var n) e op v k = tt
  tells_call (truth b) e op v k = tt
  tells_call (num n) e op v k = tt
  tells_call (succ x) e op v k = tt
  tells_call unit e op v k = tt
  tells_call (fn a b) e op v k = tt
  tells_call (handler a b cs) e op v k = tt

  tells_let : (c c' : Term comp) (r : Outcome) → Tells c r → Tells (bind c c') (o.in_let c' r)
  tells_let c c' (value v) t = rw t let_val
  tells_let c c' (asks e op i v k) t = rw t (moves let_call)
  tells_let c c' (next b) t = s.in_let t
  tells_let c c' stuck t = t

  tells_answer : (a : ℕ) (c : Term comp) (cs : Term list) (e op i : ℕ) (v : Term expr) (k : Term comp) (r : Option (Term comp)) → Found i op cs r
      → ◌⇝◌ T (handle (handler a c cs) (call e op (inst i) v k)) (answer T r (handler a c cs) e op i v k)
  tells_answer a c cs e op i v k (Some b) f = with_case f
  tells_answer a c cs e op i v k None f = moves (with_call f)

  tells_off : (h : Term expr) (c : Term comp) (r : Outcome) → Tells c r → Tells (handle h c) (o.off h r)
  tells_off h c (value v) t = tt
  tells_off h c (asks e op i v k) t = tt
  tells_off h c (next b) t = s.in_with t
  tells_off h c stuck t = tt

  tells_with : (h : Term expr) (c : Term comp) (r : Outcome) → Tells c r → Tells (handle h c) (o.in_with T h r)
  tells_with (handler a b cs) c (value v) t = rw t with_val
  tells_with (handler a b cs) c (asks e op i v k) t = rw t (tells_answer a b cs e op i v k (first i op cs) (found i op cs))
  tells_with (handler a b cs) c (next d) t = s.in_with t
  tells_with (handler a b cs) c stuck t = tt
  tells_with (var n) c r t = tells_off (var n) c r t
  tells_with (truth b) c r t = tells_off (truth b) c r t
  tells_with (num n) c r t = tells_off (num n) c r t
  tells_with (succ e) c r t = tells_off (succ e) c r t
  tells_with unit c r t = tells_off unit c r t
  tells_with (inst i) c r t = tells_off (inst i) c r t
  tells_with (fn a b) c r t = tells_off (fn a b) c r t

  pub tells : (c : Term comp) → Tells c (step T c)
  tells (if e c c') = tells_if e c c'
  tells (match e c c') = tells_match e c c'
  tells (absurd e) = tt
  tells (apply e v) = tells_apply e v
  tells (val v) = refl
  tells (call e op x v k) = tells_call x e op v k
  tells (bind c c') = tells_let c c' (step T c) (tells c)
  tells (rec a c c') = let_rec
  tells (handle h c) = tells_with h c (step T c) (tells c)

  pub agreed : (c : Term comp) → Agreed T c
  agreed c = record {
    value_is = λ v. (λ p. subst (Tells c) p (tells c), λ p. ap (step T) p);
    asks_is = λ e op i v k. (λ p. subst (Tells c) p (tells c), λ p. ap (step T) p);
    next_is = λ b. (λ p. subst (Tells c) p (tells c), λ r. finds r);
    one_next = λ b b' r r'. let p = finds r in let q = finds r' in cc;
  }

pub steps_agree : StepsAgree
steps_agree T c = agreed T c

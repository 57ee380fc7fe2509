-- What a closed computation does, as a function, and its agreement with the steps.
use Rattle.std.specs.Prelude.{◌≡◌, ℕ, zero, suc, Bool, true, false, cond, ◌&&◌, ◌↔◌, Some, None, Option, ◌==◌}
use Rattle.eff.specs.Sorts.{expr, list, comp}
use Rattle.eff.specs.Syntax.{Term, var, truth, num, succ, unit, inst, fn, handler, case, nil, if, match, absurd, apply, val, call, bind, rec, handle, put}
use Rattle.eff.specs.Tables.{Tables, gives, argument}
use Rattle.eff.specs.Steps.{◌⇝◌}

-- A computation is a value, asks operation op of the instance i, of effect e, with an argument and a continuation, has a next computation, or is
-- stuck.
pub data Outcome : Type 0 where
  value : Term expr → Outcome
  asks : (e op i : ℕ) → Term expr → Term comp → Outcome
  next : Term comp → Outcome
  stuck : Outcome

-- whether an expression is the instance i
abbrev pub is_instance : Term expr → ℕ → Bool
is_instance (inst j) i = j == i
is_instance (var n) i = false
is_instance (truth b) i = false
is_instance (num n) i = false
is_instance (succ e) i = false
is_instance unit i = false
is_instance (fn a c) i = false
is_instance (handler a c cs) i = false

-- the body of the first case that names i#op
abbrev pub first : ℕ → ℕ → Term list → Option (Term comp)
first i op nil = None
first i op (case e op' x c cs) = cond (op' == op && is_instance x i) (Some c) (first i op cs)

abbrev pub in_let : Term comp → Outcome → Outcome
in_let c (value v) = next (put 0 v c)
in_let c (asks e op i v k) = next (call e op (inst i) v (bind k c))
in_let c (next b) = next (bind b c)
in_let c stuck = stuck

abbrev pub on_if : Term expr → Term comp → Term comp → Outcome
on_if (truth true) c c' = next c
on_if (truth false) c c' = next c'
on_if (var n) c c' = stuck
on_if (num n) c c' = stuck
on_if (succ e) c c' = stuck
on_if unit c c' = stuck
on_if (inst i) c c' = stuck
on_if (fn a b) c c' = stuck
on_if (handler a b cs) c c' = stuck

abbrev pub on_match : Term expr → Term comp → Term comp → Outcome
on_match (num zero) c c' = next c
on_match (num (suc n)) c c' = next (put 0 (num n) c')
on_match (succ e) c c' = next (put 0 e c')
on_match (var n) c c' = stuck
on_match (truth b) c c' = stuck
on_match unit c c' = stuck
on_match (inst i) c c' = stuck
on_match (fn a b) c c' = stuck
on_match (handler a b cs) c c' = stuck

abbrev pub on_apply : Term expr → Term expr → Outcome
on_apply (fn a c) v = next (put 0 v c)
on_apply (var n) v = stuck
on_apply (truth b) v = stuck
on_apply (num n) v = stuck
on_apply (succ e) v = stuck
on_apply unit v = stuck
on_apply (inst i) v = stuck
on_apply (handler a c cs) v = stuck

abbrev pub on_call : Term expr → (e op : ℕ) → Term expr → Term comp → Outcome
on_call (inst i) e op v k = asks e op i v k
on_call (var n) e op v k = stuck
on_call (truth b) e op v k = stuck
on_call (num n) e op v k = stuck
on_call (succ x) e op v k = stuck
on_call unit e op v k = stuck
on_call (fn a b) e op v k = stuck
on_call (handler a b cs) e op v k = stuck

-- a computation steps under what is no handler too
abbrev pub off : Term expr → Outcome → Outcome
off h (value v) = stuck
off h (asks e op i v k) = stuck
off h (next b) = next (handle h b)
off h stuck = stuck

module _ (T : Tables) where
  -- the call under the handler h: by the case found, or passed on
  abbrev pub answer : Option (Term comp) → Term expr → (e op i : ℕ) → Term expr → Term comp → Term comp
  answer (Some b) h e op i v k = put 0 (fn (gives T e op) (handle h k)) (put 1 v b)
  answer None h e op i v k = call e op (inst i) v (handle h k)

  abbrev pub in_with : Term expr → Outcome → Outcome
  in_with (handler a c cs) (value v) = next (put 0 v c)
  in_with (handler a c cs) (asks e op i v k) = next (answer (first i op cs) (handler a c cs) e op i v k)
  in_with (handler a c cs) (next b) = next (handle (handler a c cs) b)
  in_with (handler a c cs) stuck = stuck
  in_with (var n) o = off (var n) o
  in_with (truth b) o = off (truth b) o
  in_with (num n) o = off (num n) o
  in_with (succ e) o = off (succ e) o
  in_with unit o = off unit o
  in_with (inst i) o = off (inst i) o
  in_with (fn a c) o = off (fn a c) o

  -- what a closed computation does
  abbrev pub step : Term comp → Outcome
  step (if e c c') = on_if e c c'
  step (match e c c') = on_match e c c'
  step (absurd e) = stuck
  step (apply e v) = on_apply e v
  step (val v) = value v
  step (call e op x v k) = on_call x e op v k
  step (bind c c') = in_let c' (step c)
  step (rec a c c') = next (put 0 (fn (argument T a) (rec a c c)) c')
  step (handle h c) = in_with h (step c)

  -- The function and the relation agree on one computation.
  pub record Agreed (c : Term comp) : Type 0 where
    pub value_is : (v : Term expr) → (step c ≡ value v) ↔ (c ≡ val v)
    pub asks_is : (e op i : ℕ) (v : Term expr) (k : Term comp) → (step c ≡ asks e op i v k) ↔ (c ≡ call e op (inst i) v k)
    pub next_is : (b : Term comp) → (step c ≡ next b) ↔ (◌⇝◌ T c b)
    pub one_next : (b b' : Term comp) → ◌⇝◌ T c b → ◌⇝◌ T c b' → b ≡ b'

-- the step function and the steps agree, and a computation has at most one next
abbrev pub StepsAgree : Type 0
StepsAgree = (T : Tables) (c : Term comp) → Agreed T c

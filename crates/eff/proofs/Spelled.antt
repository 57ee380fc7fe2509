-- Computations step and ask alike when numerals are spelled out.
use Rattle.std.proofs.Common.{◌≡◌, ℕ, zero, suc, Bool, true, false, cond, ◌&&◌, eqb, Some, None, Option, sym, refl, ap, ◌∙◌, ap₂}
use Rattle.eff.specs.Sorts.{Sort, expr, list, comp}
use Rattle.eff.specs.Syntax.{Term, var, truth, num, succ, unit, inst, fn, handler, case, nil, if, match, absurd, apply, val, call, bind, rec, handle, put}
use Rattle.eff.specs.Tables.{Tables, argument}
use Rattle.eff.specs.Outcome.{Outcome, value, asks, next, stuck, is_instance, first, on_if, on_match, on_apply, on_call, in_let, off, answer, in_with, step}
use Rattle.eff.specs.Questions.{worth, one_more}
use Rattle.eff.specs.Numerals.{successors, spell, spelled, Numerals}
use Rattle.eff.specs.declared.question.Value.TheVariants.{Count}

-- writing in and spelling out may be done in either order
closed : (m n : ℕ) (v : Term expr) → put n v (successors m) ≡ successors m
closed zero n v = refl
closed (suc m) n v = ap succ (closed m n v)

spell_var : (b : Bool) (v : Term expr) (m : ℕ) → spell (cond b v (var m)) ≡ cond b (spell v) (var m)
spell_var true v m = refl
spell_var false v m = refl

pub spell_put : {s : Sort} (t : Term s) (n : ℕ) (v : Term expr) → spell (put n v t) ≡ put n (spell v) (spell t)
spell_put (var m) n v = spell_var (eqb m n) v m
spell_put (truth b) n v = refl
spell_put (num m) n v = sym (closed m n (spell v))
spell_put (succ e) n v = ap succ (spell_put e n v)
spell_put unit n v = refl
spell_put (inst i) n v = refl
spell_put (fn a c) n v = ap (fn a) (spell_put c (suc n) v)
spell_put (handler a c cs) n v = let p = spell_put c (suc n) v in let q = spell_put cs n v in cc
spell_put (case e op i c cs) n v = let p = spell_put i n v in let q = spell_put c (suc (suc n)) v in let r = spell_put cs n v in cc
spell_put nil n v = refl
spell_put (if e c d) n v = let p = spell_put e n v in let q = spell_put c n v in let r = spell_put d n v in cc
spell_put (match e c d) n v = let p = spell_put e n v in let q = spell_put c n v in let r = spell_put d (suc n) v in cc
spell_put (absurd e) n v = ap absurd (spell_put e n v)
spell_put (apply e f) n v = let p = spell_put e n v in let q = spell_put f n v in cc
spell_put (val e) n v = ap val (spell_put e n v)
spell_put (call e op i w c) n v = let p = spell_put i n v in let q = spell_put w n v in let r = spell_put c (suc n) v in cc
spell_put (bind c d) n v = let p = spell_put c n v in let q = spell_put d (suc n) v in cc
spell_put (rec a c d) n v = let p = spell_put c (suc (suc n)) v in let q = spell_put d (suc n) v in cc
spell_put (handle e c) n v = let p = spell_put e n v in let q = spell_put c n v in cc

same_instance : (x : Term expr) (i : ℕ) → is_instance (spell x) i ≡ is_instance x i
same_instance (var n) i = refl
same_instance (truth b) i = refl
same_instance (num zero) i = refl
same_instance (num (suc n)) i = refl
same_instance (succ x) i = refl
same_instance unit i = refl
same_instance (inst j) i = refl
same_instance (fn a b) i = refl
same_instance (handler a b cs) i = refl

abbrev spell_found : Option (Term comp) → Option (Term comp)
spell_found (Some c) = Some (spell c)
spell_found None = None

same_first : (i op : ℕ) (cs : Term list) → first i op (spell cs) ≡ spell_found (first i op cs)
same_first i op nil = refl
same_first i op (case e op' x c cs) = ap₂ (λ b r. cond (eqb op' op && b) (Some (spell c)) r) (same_instance x i) (same_first i op cs) ∙ go (eqb op' op && is_instance x i)
  where
    go : (b : Bool) → cond b (Some (spell c)) (spell_found (first i op cs)) ≡ spell_found (cond b (Some c) (first i op cs))
    go true = refl
    go false = refl

same_let : (c : Term comp) (o : Outcome) → in_let (spell c) (spelled o) ≡ spelled (in_let c o)
same_let c (value v) = ap next (sym (spell_put c 0 v))
same_let c (asks e op i v k) = refl
same_let c (next b) = refl
same_let c stuck = refl

same_if : (e : Term expr) (c d : Term comp) → on_if (spell e) (spell c) (spell d) ≡ spelled (on_if e c d)
same_if (var n) c d = refl
same_if (truth true) c d = refl
same_if (truth false) c d = refl
same_if (num zero) c d = refl
same_if (num (suc n)) c d = refl
same_if (succ x) c d = refl
same_if unit c d = refl
same_if (inst i) c d = refl
same_if (fn a b) c d = refl
same_if (handler a b cs) c d = refl

same_match : (e : Term expr) (c d : Term comp) → on_match (spell e) (spell c) (spell d) ≡ spelled (on_match e c d)
same_match (var n) c d = refl
same_match (truth b) c d = refl
same_match (num zero) c d = refl
same_match (num (suc n)) c d = ap next (sym (spell_put d 0 (num n)))
same_match (succ x) c d = ap next (sym (spell_put d 0 x))
same_match unit c d = refl
same_match (inst i) c d = refl
same_match (fn a b) c d = refl
same_match (handler a b cs) c d = refl

same_apply : (e v : Term expr) → on_apply (spell e) (spell v) ≡ spelled (on_apply e v)
same_apply (var n) v = refl
same_apply (truth b) v = refl
same_apply (num zero) v = refl
same_apply (num (suc n)) v = refl
same_apply (succ x) v = refl
same_apply unit v = refl
same_apply (inst i) v = refl
same_apply (fn a b) v = ap next (sym (spell_put b 0 v))
same_apply (handler a b cs) v = refl

same_call : (x : Term expr) (e op : ℕ) (v : Term expr) (k : Term comp) → on_call (spell x) e op (spell v) (spell k) ≡ spelled (on_call x e op v k)
same_call (var n) e op v k = refl
same_call (truth b) e op v k = refl
same_call (num zero) e op v k = refl
same_call (num (suc n)) e op v k = refl
same_call (succ y) e op v k = refl
same_call unit e op v k = refl
same_call (inst i) e op v k = refl
same_call (fn a b) e op v k = refl
same_call (handler a b cs) e op v k = refl

same_off : (h : Term expr) (o : Outcome) → off (spell h) (spelled o) ≡ spelled (off h o)
same_off h (value v) = refl
same_off h (asks e op i v k) = refl
same_off h (next b) = refl
same_off h stuck = refl

module _ (T : Tables) where
  same_answer : (r : Option (Term comp)) (h : Term expr) (e op i : ℕ) (v : Term expr) (k : Term comp)
      → answer T (spell_found r) (spell h) e op i (spell v) (spell k) ≡ spell (answer T r h e op i v k)
  same_answer (Some b) h e op i v k =
      let f = fn _ (handle h k) in
      ap (λ c. put 0 (spell f) c) (sym (spell_put b 1 v)) ∙ sym (spell_put (put 1 v b) 0 f)
  same_answer None h e op i v k = refl

  same_with : (h : Term expr) (o : Outcome) → in_with T (spell h) (spelled o) ≡ spelled (in_with T h o)
  same_with (handler a c cs) (value v) = ap next (sym (spell_put c 0 v))
  same_with (handler a c cs) (asks e op i v k) =
      ap next (ap (λ r. answer T r (handler a (spell c) (spell cs)) e op i (spell v) (spell k)) (same_first i op cs) ∙ same_answer (first i op cs) (handler a c cs) e op i v k)
  same_with (handler a c cs) (next b) = refl
  same_with (handler a c cs) stuck = refl
  same_with (var n) o = same_off (var n) o
  same_with (truth b) o = same_off (truth b) o
  same_with (num zero) o = same_off (num zero) o
  same_with (num (suc n)) o = same_off (num (suc n)) o
  same_with (succ x) o = same_off (succ x) o
  same_with unit o = same_off unit o
  same_with (inst i) o = same_off (inst i) o
  same_with (fn a b) o = same_off (fn a b) o

  same_step : (c : Term comp) → step T (spell c) ≡ spelled (step T c)
  same_step (if e c d) = same_if e c d
  same_step (match e c d) = same_match e c d
  same_step (absurd e) = refl
  same_step (apply e v) = same_apply e v
  same_step (val v) = refl
  same_step (call e op x v k) = same_call x e op v k
  same_step (bind c d) = ap (in_let (spell d)) (same_step c) ∙ same_let d (step T c)
  same_step (rec a c d) = ap next (sym (spell_put d 0 (fn (argument T a) (rec a c c))))
  same_step (handle h c) = ap (in_with T (spell h)) (same_step c) ∙ same_with h (step T c)

count : (n : ℕ) → worth (successors n) ≡ Some (Count n)
count zero = refl
count (suc n) = ap one_more (count n)

same_worth : (v : Term expr) → worth (spell v) ≡ worth v
same_worth (num n) = count n
same_worth (succ e) = ap one_more (same_worth e)
same_worth (var n) = refl
same_worth (truth b) = refl
same_worth unit = refl
same_worth (inst i) = refl
same_worth (fn a c) = refl
same_worth (handler a c cs) = refl

pub numerals : Numerals
numerals = record { steps = same_step; values = same_worth }

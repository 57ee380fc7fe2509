-- The steps of closed computations, rule by rule.
use Rattle.std.specs.Prelude.{◌≡◌, ℕ, suc, true, false}
use Rattle.eff.specs.Sorts.{expr, list, comp}
use Rattle.eff.specs.Syntax.{Term, truth, num, succ, inst, fn, handler, case, nil, if, match, apply, val, call, bind, rec, handle, put, size}
use Rattle.eff.specs.Tables.{Tables, gives, argument}

-- A case on operation op' with the instance expression x names the call i#op when op' is op and x is the instance i.
abbrev pub Names : ℕ → Term expr → ℕ → ℕ → Type 0
Names op' x i op = (op' ≡ op) × (x ≡ inst i)

-- The first case that names i#op has the body b.
pub data First (i op : ℕ) : Term list → Term comp → Type 0 where
  this : {e op' : ℕ} {x : Term expr} {b : Term comp} {cs : Term list} → Names op' x i op → First i op (case e op' x b cs) b
  later : {e op' : ℕ} {x : Term expr} {b c : Term comp} {cs : Term list} → ¬ Names op' x i op → First i op cs b → First i op (case e op' x c cs) b

-- No case names i#op.
pub data Unnamed (i op : ℕ) : Term list → Type 0 where
  none : Unnamed i op nil
  more : {e op' : ℕ} {x : Term expr} {c : Term comp} {cs : Term list} → ¬ Names op' x i op → Unnamed i op cs → Unnamed i op (case e op' x c cs)

infix 40 ◌⇢◌
-- A move: a call passes out of a let, its continuation becoming the let of the old one, or out of a with whose cases do not name it, its
-- continuation under the handler.
pub data ◌⇢◌ : Term comp → Term comp → Type 0 where
  let_call : {e op i : ℕ} {v : Term expr} {k c : Term comp} → bind (call e op (inst i) v k) c ⇢ call e op (inst i) v (bind k c)
  with_call : {a : ℕ} {c : Term comp} {cs : Term list} {e op i : ℕ} {v : Term expr} {k : Term comp} → Unnamed i op cs
      → handle (handler a c cs) (call e op (inst i) v k) ⇢ call e op (inst i) v (handle (handler a c cs) k)

module _ (T : Tables) where
  infix 40 ◌⇝◌
  -- c ⇝ b: the computation c takes a step to b
  pub data ◌⇝◌ : Term comp → Term comp → Type 0 where
    if_true : {c c' : Term comp} → if (truth true) c c' ⇝ c
    if_false : {c c' : Term comp} → if (truth false) c c' ⇝ c'
    match_zero : {c c' : Term comp} → match (num 0) c c' ⇝ c
    match_num : {n : ℕ} {c c' : Term comp} → match (num (suc n)) c c' ⇝ put 0 (num n) c'
    match_succ : {e : Term expr} {c c' : Term comp} → match (succ e) c c' ⇝ put 0 e c'
    apply_fn : {a : ℕ} {c : Term comp} {v : Term expr} → apply (fn a c) v ⇝ put 0 v c
    let_val : {v : Term expr} {c : Term comp} → bind (val v) c ⇝ put 0 v c
    -- f stands for: function x, then let rec f x = c in c
    let_rec : {a : ℕ} {c c' : Term comp} → rec a c c' ⇝ put 0 (fn (argument T a) (rec a c c)) c'
    with_val : {a : ℕ} {c : Term comp} {cs : Term list} {v : Term expr} → handle (handler a c cs) (val v) ⇝ put 0 v c
    -- the argument for x and, for k, the function of y that runs the continuation under the handler again
    with_case : {a : ℕ} {c b : Term comp} {cs : Term list} {e op i : ℕ} {v : Term expr} {k : Term comp} → First i op cs b
        → handle (handler a c cs) (call e op (inst i) v k) ⇝ put 0 (fn (gives T e op) (handle (handler a c cs) k)) (put 1 v b)
    moves : {c b : Term comp} → c ⇢ b → c ⇝ b
    in_let : {c b c' : Term comp} → c ⇝ b → bind c c' ⇝ bind b c'
    in_with : {h : Term expr} {c b : Term comp} → c ⇝ b → handle h c ⇝ handle h b

-- a move keeps the number of parts
abbrev pub MovesKeepSize : Type 0
MovesKeepSize = (c b : Term comp) → c ⇢ b → size c ≡ size b

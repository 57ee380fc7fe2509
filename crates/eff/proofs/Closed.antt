-- Typed terms are scoped; a value written in leaves scoped terms scoped, and a term without the name as it is; moves keep the number of parts.
use Rattle.std.proofs.Common.{◌≡◌, ℕ, zero, suc, ◌<◌, cond, [], ◌∷◌, length, refl, ap, arith, length-append, ne_eqb}
use Rattle.eff.specs.Sorts.{Sort, expr, comp}
use Rattle.eff.specs.Syntax.{Term, var, truth, num, succ, unit, inst, fn, handler, case, nil, if, match, absurd, apply, val, call, bind, rec, handle, put, size}
use Rattle.eff.specs.Types.{Ty}
use Rattle.eff.specs.Tables.{Tables}
use Rattle.eff.specs.Dirt.{Dirts}
use Rattle.eff.specs.Rules.{Cxt, At, Typing, Derives, sub_expr, sub_comp, d_var, d_truth, d_num, d_succ, d_unit, d_inst, d_fn, d_handler, d_case, d_nil, d_if, d_match, d_absurd, d_apply, d_val, d_call, d_let, d_rec, d_with}
use Rattle.eff.specs.Scope.{Scoped, DerivedTermsAreScoped}
use Rattle.eff.specs.Steps.{◌⇢◌, let_call, with_call, MovesKeepSize}

at_short : (Γ : Cxt) (n : ℕ) (A : Ty) → At Γ n A → n < length Γ
at_short [] n A h = elim h [ ]
at_short (B ∷ Γ) zero A h = omega arith
at_short (B ∷ Γ) (suc n) A h = let p = at_short Γ n A h in omega arith

in_scope : {T : Tables} {D : Dirts} {s : Sort} {Γ : Cxt} {t : Term s} {C : Typing s} → Derives T D s Γ t C → Scoped (length Γ) t
in_scope (sub_expr h p g) = in_scope h
in_scope (sub_comp h p q g k) = in_scope h
in_scope (d_var {Γ = Γ} {n = n} {A = A} h) = at_short Γ n A h
in_scope d_truth = tt
in_scope d_num = tt
in_scope (d_succ h) = in_scope h
in_scope d_unit = tt
in_scope (d_inst i) = tt
in_scope (d_fn l h) = in_scope h
in_scope (d_handler l h k g) = (in_scope h, in_scope k)
in_scope (d_case o h k l) = (in_scope h, in_scope k, in_scope l)
in_scope (d_nil p) = tt
in_scope (d_if h k l) = (in_scope h, in_scope k, in_scope l)
in_scope (d_match h k l) = (in_scope h, in_scope k, in_scope l)
in_scope (d_absurd h g k) = in_scope h
in_scope (d_apply h k) = (in_scope h, in_scope k)
in_scope (d_val h k) = in_scope h
in_scope (d_call o h k l p) = (in_scope h, in_scope k, in_scope l)
in_scope (d_let h k) = (in_scope h, in_scope k)
in_scope (d_rec l e h k) = (in_scope h, in_scope k)
in_scope (d_with h k) = (in_scope h, in_scope k)

pub scoped : DerivedTermsAreScoped
scoped T D s Γ t C h = in_scope h

-- a term under n names has no name of place n
pub put_none : {s : Sort} (t : Term s) (n : ℕ) (v : Term expr) → Scoped n t → put n v t ≡ t
put_none (var m) n v h = ap (λ b. cond b v (var m)) (ne_eqb m n (λ e. omega arith))
put_none (truth b) n v h = refl
put_none (num m) n v h = refl
put_none (succ e) n v h = ap succ (put_none e n v h)
put_none unit n v h = refl
put_none (inst i) n v h = refl
put_none (fn a c) n v h = ap (fn a) (put_none c (suc n) v h)
put_none (handler a c cs) n v h = let p = put_none c (suc n) v h.0 in let q = put_none cs n v h.1 in cc
put_none (case e op i c cs) n v h = let p = put_none i n v h.0 in let q = put_none c (suc (suc n)) v h.1 in let r = put_none cs n v h.2 in cc
put_none nil n v h = refl
put_none (if e c d) n v h = let p = put_none e n v h.0 in let q = put_none c n v h.1 in let r = put_none d n v h.2 in cc
put_none (match e c d) n v h = let p = put_none e n v h.0 in let q = put_none c n v h.1 in let r = put_none d (suc n) v h.2 in cc
put_none (absurd e) n v h = ap absurd (put_none e n v h)
put_none (apply e f) n v h = let p = put_none e n v h.0 in let q = put_none f n v h.1 in cc
put_none (val e) n v h = ap val (put_none e n v h)
put_none (call e op i w c) n v h = let p = put_none i n v h.0 in let q = put_none w n v h.1 in let r = put_none c (suc n) v h.2 in cc
put_none (bind c d) n v h = let p = put_none c n v h.0 in let q = put_none d (suc n) v h.1 in cc
put_none (rec a c d) n v h = let p = put_none c (suc (suc n)) v h.0 in let q = put_none d (suc n) v h.1 in cc
put_none (handle e c) n v h = let p = put_none e n v h.0 in let q = put_none c n v h.1 in cc

-- a move keeps the number of parts
kept : {c b : Term comp} → c ⇢ b → size c ≡ size b
kept (let_call {v = v} {k = k} {c = c}) = simp length-append (omega arith)
kept (with_call {a = a} {c = c} {cs = cs} {v = v} {k = k} u) = simp length-append (omega arith)

pub moves_keep_size : MovesKeepSize
moves_keep_size c b m = kept m

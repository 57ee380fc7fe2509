-- Derivations: their types are declared, more names may stand further out, and a closed value may be written in for the outermost name.
use Rattle.std.proofs.Common.{◌≡◌, ℕ, zero, suc, ◌^◌, Bool, true, false, cond, eqb, [], ◌∷◌, ◌++◌, length, sym, refl, ap, subst}
use lib.Dec.{eqb-zero-suc, eqb-suc-suc}
use Rattle.eff.specs.Sorts.{Sort, expr, list, comp}
use Rattle.eff.specs.Syntax.{Term, var, put}
use Rattle.eff.specs.Types.{Ty}
use Rattle.eff.specs.Types as t
use Rattle.eff.specs.Tables.{Tables, Instance}
use Rattle.eff.specs.Dirt.{Dirts}
use Rattle.eff.specs.Checked.{Declared, DeclaredDirty, Checked}
use Rattle.eff.specs.Rules.{Cxt, At, Typing, Derives, sub_expr, sub_comp, d_var, d_truth, d_num, d_succ, d_unit, d_inst, d_fn, d_handler, d_case, d_nil, d_if, d_match, d_absurd, d_apply, d_val, d_call, d_let, d_rec, d_with}
use Rattle.eff.proofs.TypeNumbers.{declared}
use Rattle.eff.proofs.Sets.{own_holds}

module _ (T : Tables) (D : Dirts) where
  abbrev Exp : Cxt → Term expr → Ty → Type 0
  Exp Γ e A = Derives T D expr Γ e A

  abbrev Comp : Cxt → Term comp → Ty → ℕ → Type 0
  Comp Γ c A d = Derives T D comp Γ c (A, d)

  -- a term keeps its type under more names further out
  at_wide : (Γ Δ : Cxt) (n : ℕ) (A : Ty) → At Γ n A → At (Γ ++ Δ) n A
  at_wide [] Δ n A h = elim h [ ]
  at_wide (X ∷ Γ) Δ zero A h = h
  at_wide (X ∷ Γ) Δ (suc n) A h = at_wide Γ Δ n A h

  pub wide : {s : Sort} {Γ : Cxt} {t : Term s} {C : Typing s} (Δ : Cxt) → Derives T D s Γ t C → Derives T D s (Γ ++ Δ) t C
  wide Δ (sub_expr h p g) = sub_expr (wide Δ h) p g
  wide Δ (sub_comp h p q g k) = sub_comp (wide Δ h) p q g k
  wide Δ (d_var {Γ = Γ} {n = n} h) = d_var (at_wide Γ Δ n _ h)
  wide Δ d_truth = d_truth
  wide Δ d_num = d_num
  wide Δ (d_succ h) = d_succ (wide Δ h)
  wide Δ d_unit = d_unit
  wide Δ (d_inst i) = d_inst i
  wide Δ (d_fn l h) = d_fn l (wide Δ h)
  wide Δ (d_handler l h k g) = d_handler l (wide Δ h) (wide Δ k) g
  wide Δ (d_case o h k l) = d_case o (wide Δ h) (wide Δ k) (wide Δ l)
  wide Δ (d_nil p) = d_nil p
  wide Δ (d_if h k l) = d_if (wide Δ h) (wide Δ k) (wide Δ l)
  wide Δ (d_match h k l) = d_match (wide Δ h) (wide Δ k) (wide Δ l)
  wide Δ (d_absurd h g k) = d_absurd (wide Δ h) g k
  wide Δ (d_apply h k) = d_apply (wide Δ h) (wide Δ k)
  wide Δ (d_val h k) = d_val (wide Δ h) k
  wide Δ (d_call o h k l p) = d_call o (wide Δ h) (wide Δ k) (wide Δ l) p
  wide Δ (d_let h k) = d_let (wide Δ h) (wide Δ k)
  wide Δ (d_rec l e h k) = d_rec l e (wide Δ h) (wide Δ k)
  wide Δ (d_with h k) = d_with (wide Δ h) (wide Δ k)

  -- the outermost name has type A, and the others stay
  name : (Γ : Cxt) (A : Ty) (n : ℕ) (B : Ty) → At (Γ ++ (A ∷ [])) n B → cond (eqb n (length Γ)) (A ≡ B) (At Γ n B)
  name [] A zero B h = h
  name [] A (suc n) B h = elim h [ ]
  name (X ∷ Γ) A zero B h = rw eqb-zero-suc h
  name (X ∷ Γ) A (suc n) B h = rw eqb-suc-suc (name Γ A n B h)

  push : {X : Ty} {Γ Δ : Cxt} → Γ ≡ Δ → X ∷ Γ ≡ X ∷ Δ
  push {X} e = ap (λ Γ. X ∷ Γ) e

  -- a closed value of type A for the outermost name, of type A
  module _ (A : Ty) (v : Term expr) (ok : Exp [] v A) where
    put_name : (Γ : Cxt) (n : ℕ) (B : Ty) (b : Bool) → cond b (A ≡ B) (At Γ n B) → Exp Γ (cond b v (var n)) B
    put_name Γ n B true h = rw (← h) (wide Γ ok)
    put_name Γ n B false h = d_var h

    pub put_in : {s : Sort} {Δ : Cxt} {t : Term s} {C : Typing s} → Derives T D s Δ t C → (Γ : Cxt) → Δ ≡ Γ ++ (A ∷ [])
        → Derives T D s Γ (put (length Γ) v t) C
    put_in (sub_expr h p g) Γ e = sub_expr (put_in h Γ e) p g
    put_in (sub_comp h p q g k) Γ e = sub_comp (put_in h Γ e) p q g k
    put_in (d_var {n = n} {A = B} h) Γ e = put_name Γ n B (eqb n (length Γ)) (name Γ A n B (subst (λ Δ. At Δ n B) e h))
    put_in d_truth Γ e = d_truth
    put_in d_num Γ e = d_num
    put_in (d_succ h) Γ e = d_succ (put_in h Γ e)
    put_in d_unit Γ e = d_unit
    put_in (d_inst i) Γ e = d_inst i
    put_in (d_fn l h) Γ e = d_fn l (put_in h (_ ∷ Γ) (push e))
    put_in (d_handler l h k g) Γ e = d_handler l (put_in h (_ ∷ Γ) (push e)) (put_in k Γ e) g
    put_in (d_case o h k l) Γ e = d_case o (put_in h Γ e) (put_in k (_ ∷ _ ∷ Γ) (push (push e))) (put_in l Γ e)
    put_in (d_nil p) Γ e = d_nil p
    put_in (d_if h k l) Γ e = d_if (put_in h Γ e) (put_in k Γ e) (put_in l Γ e)
    put_in (d_match h k l) Γ e = d_match (put_in h Γ e) (put_in k Γ e) (put_in l (_ ∷ Γ) (push e))
    put_in (d_absurd h g k) Γ e = d_absurd (put_in h Γ e) g k
    put_in (d_apply h k) Γ e = d_apply (put_in h Γ e) (put_in k Γ e)
    put_in (d_val h k) Γ e = d_val (put_in h Γ e) k
    put_in (d_call o h k l p) Γ e = d_call o (put_in h Γ e) (put_in k Γ e) (put_in l (_ ∷ Γ) (push e)) p
    put_in (d_let h k) Γ e = d_let (put_in h Γ e) (put_in k (_ ∷ Γ) (push e))
    put_in (d_rec l q h k) Γ e = d_rec l q (put_in h (_ ∷ _ ∷ Γ) (push (push e))) (put_in k (_ ∷ Γ) (push e))
    put_in (d_with h k) Γ e = d_with (put_in h Γ e) (put_in k Γ e)

    pub put_last : {c : Term comp} {B : Ty} {d : ℕ} → Comp (A ∷ []) c B d → Comp [] (put 0 v c) B d
    put_last h = put_in h [] refl

  -- the types of names are declared
  abbrev pub DeclaredCxt : Cxt → Type 0
  DeclaredCxt [] = Unit {0}
  DeclaredCxt (A ∷ Γ) = Declared T D A × DeclaredCxt Γ

  abbrev pub DeclaredTyping : (s : Sort) → Typing s → Type 0
  DeclaredTyping expr A = Declared T D A
  DeclaredTyping list C = Unit {0}
  DeclaredTyping comp C = DeclaredDirty T D C

  declared_at : (Γ : Cxt) (n : ℕ) (A : Ty) → DeclaredCxt Γ → At Γ n A → Declared T D A
  declared_at [] n A g h = elim h [ ]
  declared_at (B ∷ Γ) zero A g h = subst (λ X. Declared T D X) h g.0
  declared_at (B ∷ Γ) (suc n) A g h = declared_at Γ n A g.1 h

  module _ (K : Checked T D) where
    pub instance_declared : (i e : ℕ) → Instance T i e → Declared T D (t.instance e (2 ^ i))
    instance_declared i e h = (K.instance_effects i e h, λ k p. subst (λ j. Instance T j e) (sym (own_holds i k p)) h)

    -- a derivation's type is declared
    pub derived : {s : Sort} {Γ : Cxt} {t : Term s} {C : Typing s} → Derives T D s Γ t C → DeclaredCxt Γ → DeclaredTyping s C
    derived (sub_expr h p g) G = g
    derived (sub_comp h p q g k) G = (g, k)
    derived (d_var {Γ = Γ} {n = n} h) G = declared_at Γ n _ G h
    derived d_truth G = tt
    derived d_num G = tt
    derived (d_succ h) G = tt
    derived d_unit G = tt
    derived (d_inst {i = i} {e = e} h) G = instance_declared i e h
    derived (d_fn {a = a} l h) G = let A = declared T D K a in let r = derived h (A, G) in (A, r.0, r.1)
    derived (d_handler {a = a} l h k g) G = let A = declared T D K a in let r = derived h (A, G) in (A, g, r.0, r.1)
    derived (d_case o h k l) G = tt
    derived (d_nil p) G = tt
    derived (d_if h k l) G = derived k G
    derived (d_match h k l) G = derived k G
    derived (d_absurd h g k) G = (g, k)
    derived (d_apply h k) G = let r = derived h G in (r.1, r.2)
    derived (d_val h k) G = (derived h G, k)
    derived (d_call {e = e} {op = op} o h k l p) G = derived l (declared T D K _, G)
    derived (d_let h k) G = derived k ((derived h G).0, G)
    derived (d_rec {a = a} l q h k) G = derived k (declared T D K a, G)
    derived (d_with h k) G = let r = derived h G in (r.2, r.3)

-- The inference rules of core Eff, with subsumption at any place.
use Rattle.std.specs.Prelude.{◌≡◌, ℕ, zero, suc, ◌^◌, Bool, List, [], ◌∷◌}
use Rattle.eff.specs.Sorts.{Sort, expr, list, comp}
use Rattle.eff.specs.Syntax.{Term, var, truth, num, succ, unit, inst, fn, handler, case, nil, if, match, absurd, apply, val, call, bind, rec, handle}
use Rattle.eff.specs.Types.{Ty, Dirty}
use Rattle.eff.specs.Types as t
use Rattle.eff.specs.Tables.{Tables, Declares, takes, gives, Instance, Listed, type}
use Rattle.eff.specs.Dirt.{Dirts, ◌⊆◌, Admits, leaves}
use Rattle.eff.specs.Subtyping.{◌⊴◌}
use Rattle.eff.specs.Checked.{Known, Declared}

-- the types of the names in scope, the latest first
abbrev pub Cxt : Type 0
Cxt = List Ty

-- the name of place n has type A
abbrev pub At : Cxt → ℕ → Ty → Type 0
At [] n A = ⊥
At (B ∷ Γ) zero A = B ≡ A
At (B ∷ Γ) (suc n) A = At Γ n A

-- What a term is typed at: an expression at a type, a computation at a dirty type, and a case list at (B, d', d) when the calls of d that its cases
-- do not handle are in d', and its bodies are of type B!d'.
abbrev pub Typing : Sort → Type 0
Typing expr = Ty
Typing list = Ty × ℕ × ℕ
Typing comp = Dirty

module _ (T : Tables) (D : Dirts) where
  infix 50 ◌⊑◌
  abbrev ◌⊑◌ : ℕ → ℕ → Type 0
  ◌⊑◌ d e = ◌⊆◌ D d e

  infix 50 ◌≼◌
  abbrev ◌≼◌ : Ty → Ty → Type 0
  ◌≼◌ A B = ◌⊴◌ D A B

  abbrev Good : Ty → Type 0
  Good A = Declared T D A

  abbrev type_at : ℕ → Ty
  type_at n = type T n

  -- The rules. A type or dirt that no premise gives is declared.
  pub data Derives : (s : Sort) → Cxt → Term s → Typing s → Type 0 where
    sub_expr : {Γ : Cxt} {e : Term expr} {A B : Ty} → Derives expr Γ e A → A ≼ B → Good B → Derives expr Γ e B
    sub_comp : {Γ : Cxt} {c : Term comp} {A B : Ty} {d d' : ℕ} → Derives comp Γ c (A, d) → A ≼ B → d ⊑ d' → Good B → Known T D d'
        → Derives comp Γ c (B, d')
    d_var : {Γ : Cxt} {n : ℕ} {A : Ty} → At Γ n A → Derives expr Γ (var n) A
    d_truth : {Γ : Cxt} {b : Bool} → Derives expr Γ (truth b) t.bool
    d_num : {Γ : Cxt} {n : ℕ} → Derives expr Γ (num n) t.nat
    d_succ : {Γ : Cxt} {e : Term expr} → Derives expr Γ e t.nat → Derives expr Γ (succ e) t.nat
    d_unit : {Γ : Cxt} → Derives expr Γ unit t.unit
    d_inst : {Γ : Cxt} {i e : ℕ} → Instance T i e → Derives expr Γ (inst i) (t.instance e (2 ^ i))
    d_fn : {Γ : Cxt} {a : ℕ} {c : Term comp} {B : Ty} {d : ℕ} → Listed T a → Derives comp (type_at a ∷ Γ) c (B, d)
        → Derives expr Γ (fn a c) (t.fun (type_at a) B d)
    d_handler : {Γ : Cxt} {a : ℕ} {c : Term comp} {cs : Term list} {B : Ty} {d d' : ℕ} → Listed T a → Derives comp (type_at a ∷ Γ) c (B, d')
        → Derives list Γ cs (B, d', d) → Known T D d → Derives expr Γ (handler a c cs) (t.hand (type_at a) d B d')
    d_case : {Γ : Cxt} {e op : ℕ} {i : Term expr} {c : Term comp} {cs : Term list} {B : Ty} {R : ℕ} {d' d : ℕ} → Declares T e op
        → Derives expr Γ i (t.instance e R) → Derives comp (t.fun (type_at (gives T e op)) B d' ∷ type_at (takes T e op) ∷ Γ) c (B, d')
        → Derives list Γ cs (B, d', leaves D R op d) → Derives list Γ (case e op i c cs) (B, d', d)
    d_nil : {Γ : Cxt} {B : Ty} {d d' : ℕ} → d ⊑ d' → Derives list Γ nil (B, d', d)
    d_if : {Γ : Cxt} {e : Term expr} {c c' : Term comp} {C : Dirty} → Derives expr Γ e t.bool → Derives comp Γ c C → Derives comp Γ c' C
        → Derives comp Γ (if e c c') C
    d_match : {Γ : Cxt} {e : Term expr} {c c' : Term comp} {C : Dirty} → Derives expr Γ e t.nat → Derives comp Γ c C
        → Derives comp (t.nat ∷ Γ) c' C → Derives comp Γ (match e c c') C
    d_absurd : {Γ : Cxt} {e : Term expr} {A : Ty} {d : ℕ} → Derives expr Γ e t.empty → Good A → Known T D d → Derives comp Γ (absurd e) (A, d)
    d_apply : {Γ : Cxt} {e f : Term expr} {A B : Ty} {d : ℕ} → Derives expr Γ e (t.fun A B d) → Derives expr Γ f A → Derives comp Γ (apply e f) (B, d)
    d_val : {Γ : Cxt} {e : Term expr} {A : Ty} {d : ℕ} → Derives expr Γ e A → Known T D d → Derives comp Γ (val e) (A, d)
    d_call : {Γ : Cxt} {e op : ℕ} {i w : Term expr} {c : Term comp} {A : Ty} {R : ℕ} {d : ℕ} → Declares T e op → Derives expr Γ i (t.instance e R)
        → Derives expr Γ w (type_at (takes T e op)) → Derives comp (type_at (gives T e op) ∷ Γ) c (A, d) → Admits D R op d
        → Derives comp Γ (call e op i w c) (A, d)
    d_let : {Γ : Cxt} {c c' : Term comp} {A B : Ty} {d : ℕ} → Derives comp Γ c (A, d) → Derives comp (A ∷ Γ) c' (B, d) → Derives comp Γ (bind c c') (B, d)
    d_rec : {Γ : Cxt} {a : ℕ} {c c' : Term comp} {C : Dirty} {A B : Ty} {d : ℕ} → Listed T a → type_at a ≡ t.fun A B d
        → Derives comp (type_at a ∷ A ∷ Γ) c (B, d) → Derives comp (type_at a ∷ Γ) c' C → Derives comp Γ (rec a c c') C
    d_with : {Γ : Cxt} {e : Term expr} {c : Term comp} {A B : Ty} {d d' : ℕ} → Derives expr Γ e (t.hand A d B d') → Derives comp Γ c (A, d)
        → Derives comp Γ (handle e c) (B, d')

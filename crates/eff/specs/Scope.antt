-- Which terms stand under given names.
use Rattle.std.specs.Prelude.{◌≡◌, ℕ, suc, ◌<◌, length}
use Rattle.eff.specs.Sorts.{Sort, expr}
use Rattle.eff.specs.Syntax.{Term, var, truth, num, succ, unit, inst, fn, handler, case, nil, if, match, absurd, apply, val, call, bind, rec, handle, put}
use Rattle.eff.specs.Tables.{Tables}
use Rattle.eff.specs.Dirt.{Dirts}
use Rattle.eff.specs.Rules.{Cxt, Typing, Derives}

-- every variable of a term that stands under n names has a place among those in scope; a closed term stands under none
abbrev pub Scoped : {s : Sort} → ℕ → Term s → Type 0
Scoped n (var m) = m < n
Scoped n (truth b) = Unit {0}
Scoped n (num m) = Unit {0}
Scoped n (succ e) = Scoped n e
Scoped n unit = Unit {0}
Scoped n (inst i) = Unit {0}
Scoped n (fn a c) = Scoped (suc n) c
Scoped n (handler a c cs) = Scoped (suc n) c × Scoped n cs
Scoped n (case e op i c cs) = Scoped n i × Scoped (suc (suc n)) c × Scoped n cs
Scoped n nil = Unit {0}
Scoped n (if e c d) = Scoped n e × Scoped n c × Scoped n d
Scoped n (match e c d) = Scoped n e × Scoped n c × Scoped (suc n) d
Scoped n (absurd e) = Scoped n e
Scoped n (apply e f) = Scoped n e × Scoped n f
Scoped n (val e) = Scoped n e
Scoped n (call e op i w c) = Scoped n i × Scoped n w × Scoped (suc n) c
Scoped n (bind c d) = Scoped n c × Scoped (suc n) d
Scoped n (rec a c d) = Scoped (suc (suc n)) c × Scoped (suc n) d
Scoped n (handle e c) = Scoped n e × Scoped n c

-- a term that the rules type stands under the names of its context
abbrev pub DerivedTermsAreScoped : Type 0
DerivedTermsAreScoped = (T : Tables) (D : Dirts) (s : Sort) (Γ : Cxt) (t : Term s) (C : Typing s) → Derives T D s Γ t C → Scoped (length Γ) t

-- a term that stands under n names has none of place n: a value written in for it leaves the term as it is
abbrev pub ScopedTermsStay : Type 0
ScopedTermsStay = (s : Sort) (t : Term s) (n : ℕ) (v : Term expr) → Scoped n t → put n v t ≡ t

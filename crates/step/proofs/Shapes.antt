-- What a term is, by the kind of its first part.
use Rattle.std.proofs.Common.{◌≡◌, ℕ, ◌+◌, ◌<◌, ◌≤◌, Bool, List, ◌∷◌, ◌++◌, length, get_or, drop, sym, refl, ap, ◌∙◌, subst, append_assoc, add-zero, arith, length-append}
use Rattle.std.proofs.lemmas.List.{get_or-drop, drop-drop, drop_at, length-drop}
use Rattle.eff.specs.Sorts.{Sort, expr, list, comp}
use Rattle.eff.specs.Syntax.{head, Term, var, truth, num, succ, unit, inst, fn, handler, case, nil, if, match, absurd, apply, val, call, bind, rec, handle, flatten, size}
use Rattle.eff.specs.declared.kind.Kind.{Kind}
use Rattle.eff.specs.declared.kind.Kind.TheVariants as k
use Rattle.eff.specs.declared.part.Part.{Part}
use Rattle.step.proofs.Skipping.{blank}

-- a computation, an expression and a case list of each kind
abbrev pub Computation : Kind → Term comp → Type 0
Computation k.Variable t = ⊥
Computation k.Truth t = ⊥
Computation k.Numeral t = ⊥
Computation k.Successor t = ⊥
Computation k.Unit t = ⊥
Computation k.Instance t = ⊥
Computation k.Function t = ⊥
Computation k.Handler t = ⊥
Computation k.Case t = ⊥
Computation k.Nil t = ⊥
Computation k.If t = (e : Term expr) × (c : Term comp) × (d : Term comp) × (t ≡ if e c d)
Computation k.Match t = (e : Term expr) × (c : Term comp) × (d : Term comp) × (t ≡ match e c d)
Computation k.Absurd t = (e : Term expr) × (t ≡ absurd e)
Computation k.Apply t = (e : Term expr) × (f : Term expr) × (t ≡ apply e f)
Computation k.Val t = (v : Term expr) × (t ≡ val v)
Computation k.Call t = (e : ℕ) × (op : ℕ) × (x : Term expr) × (v : Term expr) × (c : Term comp) × (t ≡ call e op x v c)
Computation k.Let t = (c : Term comp) × (d : Term comp) × (t ≡ bind c d)
Computation k.LetRec t = (a : ℕ) × (c : Term comp) × (d : Term comp) × (t ≡ rec a c d)
Computation k.With t = (h : Term expr) × (c : Term comp) × (t ≡ handle h c)

pub computation : (t : Term comp) → Computation (head t).kind t
computation (if e c d) = (e, c, d, refl)
computation (match e c d) = (e, c, d, refl)
computation (absurd e) = (e, refl)
computation (apply e f) = (e, f, refl)
computation (val v) = (v, refl)
computation (call e op x v c) = (e, op, x, v, c, refl)
computation (bind c d) = (c, d, refl)
computation (rec a c d) = (a, c, d, refl)
computation (handle h c) = (h, c, refl)

abbrev pub Expression : Kind → Term expr → Type 0
Expression k.Variable t = (n : ℕ) × (t ≡ var n)
Expression k.Truth t = (b : Bool) × (t ≡ truth b)
Expression k.Numeral t = (n : ℕ) × (t ≡ num n)
Expression k.Successor t = (e : Term expr) × (t ≡ succ e)
Expression k.Unit t = (t ≡ unit)
Expression k.Instance t = (i : ℕ) × (t ≡ inst i)
Expression k.Function t = (a : ℕ) × (c : Term comp) × (t ≡ fn a c)
Expression k.Handler t = (a : ℕ) × (c : Term comp) × (cs : Term list) × (t ≡ handler a c cs)
Expression k.Case t = ⊥
Expression k.Nil t = ⊥
Expression k.If t = ⊥
Expression k.Match t = ⊥
Expression k.Absurd t = ⊥
Expression k.Apply t = ⊥
Expression k.Val t = ⊥
Expression k.Call t = ⊥
Expression k.Let t = ⊥
Expression k.LetRec t = ⊥
Expression k.With t = ⊥

pub expression : (t : Term expr) → Expression (head t).kind t
expression (var n) = (n, refl)
expression (truth b) = (b, refl)
expression (num n) = (n, refl)
expression (succ e) = (e, refl)
expression unit = refl
expression (inst i) = (i, refl)
expression (fn a c) = (a, c, refl)
expression (handler a c cs) = (a, c, cs, refl)

abbrev pub Cases : Kind → Term list → Type 0
Cases k.Variable t = ⊥
Cases k.Truth t = ⊥
Cases k.Numeral t = ⊥
Cases k.Successor t = ⊥
Cases k.Unit t = ⊥
Cases k.Instance t = ⊥
Cases k.Function t = ⊥
Cases k.Handler t = ⊥
Cases k.Case t = (e : ℕ) × (op : ℕ) × (x : Term expr) × (c : Term comp) × (cs : Term list) × (t ≡ case e op x c cs)
Cases k.Nil t = (t ≡ nil)
Cases k.If t = ⊥
Cases k.Match t = ⊥
Cases k.Absurd t = ⊥
Cases k.Apply t = ⊥
Cases k.Val t = ⊥
Cases k.Call t = ⊥
Cases k.Let t = ⊥
Cases k.LetRec t = ⊥
Cases k.With t = ⊥

pub cases : (t : Term list) → Cases (head t).kind t
cases (case e op x c cs) = (e, op, x, c, cs, refl)
cases nil = refl

-- the first part of a term
opens : {s : Sort} (t : Term s) (rest : List Part) → get_or (flatten t ++ rest) 0 blank ≡ head t
opens (var n) rest = refl
opens (truth b) rest = refl
opens (num n) rest = refl
opens (succ e) rest = refl
opens unit rest = refl
opens (inst i) rest = refl
opens (fn a c) rest = refl
opens (handler a c cs) rest = refl
opens (case e op x c cs) rest = refl
opens nil rest = refl
opens (if e c d) rest = refl
opens (match e c d) rest = refl
opens (absurd e) rest = refl
opens (apply e f) rest = refl
opens (val v) rest = refl
opens (call e op x v c) rest = refl
opens (bind c d) rest = refl
opens (rec a c d) rest = refl
opens (handle h c) rest = refl

-- the term t stands at `at`, and then the rest
pub record Here {s : Sort} (ps : List Part) (at : ℕ) (t : Term s) (rest : List Part) : Type 0 where
  pub there : drop at ps ≡ flatten t ++ rest

pub here : {s : Sort} (ps : List Part) (at : ℕ) (t : Term s) (rest : List Part) → drop at ps ≡ flatten t ++ rest → Here ps at t rest
here ps at t rest e = record { there = e }

pub first_at : {s : Sort} {ps rest : List Part} {at : ℕ} {t : Term s} → Here ps at t rest → get_or ps at blank ≡ head t
first_at {s} {ps} {rest} {at} {t} h =
    ap (λ n. get_or ps n blank) (sym (add-zero at)) ∙ sym (get_or-drop at ps 0 blank) ∙ ap (λ l. get_or l 0 blank) h.there ∙ opens t rest

pub kind_at : {s : Sort} {ps rest : List Part} {at : ℕ} {t : Term s} → Here ps at t rest → (get_or ps at blank).kind ≡ (head t).kind
kind_at h = ap (λ (p : Part). p.kind) (first_at h)

pub is_computation : {ps rest : List Part} {at : ℕ} {t : Term comp} {k : Kind} → Here ps at t rest → (get_or ps at blank).kind ≡ k → Computation k t
is_computation {ps} {rest} {at} {t} h e = subst (λ (k : Kind). Computation k t) (sym (kind_at h) ∙ e) (computation t)

pub is_expression : {ps rest : List Part} {at : ℕ} {t : Term expr} {k : Kind} → Here ps at t rest → (get_or ps at blank).kind ≡ k → Expression k t
is_expression {ps} {rest} {at} {t} h e = subst (λ (k : Kind). Expression k t) (sym (kind_at h) ∙ e) (expression t)

pub is_cases : {ps rest : List Part} {at : ℕ} {t : Term list} {k : Kind} → Here ps at t rest → (get_or ps at blank).kind ≡ k → Cases k t
is_cases {ps} {rest} {at} {t} h e = subst (λ (k : Kind). Cases k t) (sym (kind_at h) ∙ e) (cases t)

-- the same for an equal term
pub alike : {s : Sort} {ps rest : List Part} {at : ℕ} {t t' : Term s} → t ≡ t' → Here ps at t rest → Here ps at t' rest
alike {s} {ps} {rest} {at} {t} {t'} e h = record { there = h.there ∙ ap (λ (z : Term s). flatten z ++ rest) e }

-- what stands behind a part
behind : (p : Part) (x ps : List Part) (at : ℕ) → drop at ps ≡ p ∷ x → drop (at + 1) ps ≡ x
behind p x ps at e = sym (drop-drop 1 at ps) ∙ ap (drop 1) e

-- the first child of a term
pub succ_in : {ps rest : List Part} {at : ℕ} {x : Term expr} → Here ps at (succ x) rest → Here ps (at + 1) x rest
succ_in {ps} {rest} {at} {x} h = record { there = behind _ _ ps at h.there }

pub fn_in : {ps rest : List Part} {at : ℕ} {a : ℕ} {x : Term comp} → Here ps at (fn a x) rest → Here ps (at + 1) x rest
fn_in {ps} {rest} {at} {a} {x} h = record { there = behind _ _ ps at h.there }

pub handler_in : {ps rest : List Part} {at : ℕ} {a : ℕ} {x : Term comp} {y : Term list} → Here ps at (handler a x y) rest → Here ps (at + 1) x (flatten y ++ rest)
handler_in {ps} {rest} {at} {a} {x} {y} h = record { there = behind _ _ ps at h.there ∙ append_assoc (flatten x) (flatten y) rest }

pub case_in : {ps rest : List Part} {at : ℕ} {a b : ℕ} {x : Term expr} {y : Term comp} {z : Term list} → Here ps at (case a b x y z) rest → Here ps (at + 1) x (flatten y ++ (flatten z ++ rest))
case_in {ps} {rest} {at} {a} {b} {x} {y} {z} h = record { there = behind _ _ ps at h.there ∙ append_assoc (flatten x) (flatten y ++ flatten z) rest ∙ ap (λ l. flatten x ++ l) (append_assoc (flatten y) (flatten z) rest) }

pub if_in : {ps rest : List Part} {at : ℕ} {x : Term expr} {y : Term comp} {z : Term comp} → Here ps at (if x y z) rest → Here ps (at + 1) x (flatten y ++ (flatten z ++ rest))
if_in {ps} {rest} {at} {x} {y} {z} h = record { there = behind _ _ ps at h.there ∙ append_assoc (flatten x) (flatten y ++ flatten z) rest ∙ ap (λ l. flatten x ++ l) (append_assoc (flatten y) (flatten z) rest) }

pub match_in : {ps rest : List Part} {at : ℕ} {x : Term expr} {y : Term comp} {z : Term comp} → Here ps at (match x y z) rest → Here ps (at + 1) x (flatten y ++ (flatten z ++ rest))
match_in {ps} {rest} {at} {x} {y} {z} h = record { there = behind _ _ ps at h.there ∙ append_assoc (flatten x) (flatten y ++ flatten z) rest ∙ ap (λ l. flatten x ++ l) (append_assoc (flatten y) (flatten z) rest) }

pub apply_in : {ps rest : List Part} {at : ℕ} {x : Term expr} {y : Term expr} → Here ps at (apply x y) rest → Here ps (at + 1) x (flatten y ++ rest)
apply_in {ps} {rest} {at} {x} {y} h = record { there = behind _ _ ps at h.there ∙ append_assoc (flatten x) (flatten y) rest }

pub val_in : {ps rest : List Part} {at : ℕ} {x : Term expr} → Here ps at (val x) rest → Here ps (at + 1) x rest
val_in {ps} {rest} {at} {x} h = record { there = behind _ _ ps at h.there }

pub call_in : {ps rest : List Part} {at : ℕ} {a b : ℕ} {x : Term expr} {y : Term expr} {z : Term comp} → Here ps at (call a b x y z) rest → Here ps (at + 1) x (flatten y ++ (flatten z ++ rest))
call_in {ps} {rest} {at} {a} {b} {x} {y} {z} h = record { there = behind _ _ ps at h.there ∙ append_assoc (flatten x) (flatten y ++ flatten z) rest ∙ ap (λ l. flatten x ++ l) (append_assoc (flatten y) (flatten z) rest) }

pub bind_in : {ps rest : List Part} {at : ℕ} {x : Term comp} {y : Term comp} → Here ps at (bind x y) rest → Here ps (at + 1) x (flatten y ++ rest)
bind_in {ps} {rest} {at} {x} {y} h = record { there = behind _ _ ps at h.there ∙ append_assoc (flatten x) (flatten y) rest }

pub rec_in : {ps rest : List Part} {at : ℕ} {a : ℕ} {x : Term comp} {y : Term comp} → Here ps at (rec a x y) rest → Here ps (at + 1) x (flatten y ++ rest)
rec_in {ps} {rest} {at} {a} {x} {y} h = record { there = behind _ _ ps at h.there ∙ append_assoc (flatten x) (flatten y) rest }

pub handle_in : {ps rest : List Part} {at : ℕ} {x : Term expr} {y : Term comp} → Here ps at (handle x y) rest → Here ps (at + 1) x (flatten y ++ rest)
handle_in {ps} {rest} {at} {x} {y} h = record { there = behind _ _ ps at h.there ∙ append_assoc (flatten x) (flatten y) rest }

-- the term behind a term of one part
pub behind_leaf : {s : Sort} {ps : List Part} {at : ℕ} {t : Term s} {s' : Sort} (t' : Term s') (rest : List Part) → Here ps at t (flatten t' ++ rest)
    → size t ≡ 1 → Here ps (at + 1) t' rest
behind_leaf {s} {ps} {at} {t} t' rest h e =
    record { there = sym (drop-drop 1 at ps) ∙ ap (drop 1) h.there ∙ drop_at (flatten t) (flatten t' ++ rest) 1 e }

pub two_on : {s : Sort} {ps rest : List Part} (at : ℕ) {t : Term s} → Here ps (at + 1 + 1) t rest → Here ps (at + 2) t rest
two_on {s} {ps} {rest} at {t} h = let e : at + 1 + 1 ≡ at + 2 = omega arith in subst (λ n. Here ps n t rest) e h

-- a term has a part, and a computation two
pub some_parts : {s : Sort} (t : Term s) → 1 ≤ size t
some_parts (var n) = omega arith
some_parts (truth b) = omega arith
some_parts (num n) = omega arith
some_parts (succ e) = omega arith
some_parts unit = omega arith
some_parts (inst i) = omega arith
some_parts (fn a c) = omega arith
some_parts (handler a c cs) = omega arith
some_parts (case e op x c cs) = omega arith
some_parts nil = omega arith
some_parts (if e c d) = omega arith
some_parts (match e c d) = omega arith
some_parts (absurd e) = omega arith
some_parts (apply e f) = omega arith
some_parts (val v) = omega arith
some_parts (call e op x v c) = omega arith
some_parts (bind c d) = omega arith
some_parts (rec a c d) = omega arith
some_parts (handle h c) = omega arith

pub two_parts : (t : Term comp) → 2 ≤ size t
two_parts (if e c d) = omega (arith, some_parts e, length-append (flatten e) (flatten c ++ flatten d))
two_parts (match e c d) = omega (arith, some_parts e, length-append (flatten e) (flatten c ++ flatten d))
two_parts (absurd e) = omega (arith, some_parts e)
two_parts (apply e f) = omega (arith, some_parts e, length-append (flatten e) (flatten f))
two_parts (val e) = omega (arith, some_parts e)
two_parts (call e op x v c) = omega (arith, some_parts x, length-append (flatten x) (flatten v ++ flatten c))
two_parts (bind c d) = omega (arith, some_parts c, length-append (flatten c) (flatten d))
two_parts (rec a c d) = omega (arith, some_parts c, length-append (flatten c) (flatten d))
two_parts (handle h c) = omega (arith, some_parts h, length-append (flatten h) (flatten c))

pub within : {s : Sort} {ps rest : List Part} {at : ℕ} {t : Term s} → Here ps at t rest → at + size t ≤ length ps
within {s} {ps} {rest} {at} {t} h =
    omega (arith, some_parts t, ap length h.there, length-drop at ps, length-append (flatten t) rest)

pub inside : {s : Sort} {ps rest : List Part} {at : ℕ} {t : Term s} → Here ps at t rest → at < length ps
inside {s} {ps} {rest} {at} {t} h = omega (arith, some_parts t, within h)

pub inside_two : {ps rest : List Part} {at : ℕ} {t : Term comp} → Here ps at t rest → at + 2 ≤ length ps
inside_two {ps} {rest} {at} {t} h = omega (arith, two_parts t, within h)

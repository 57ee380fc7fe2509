-- The term that some parts are, and the claims of its parts attached to it.
use Rattle.std.specs.Prelude.{◌≡◌, ℕ, List, [], ◌∷◌, ◌++◌, drop, ◌==◌, slice_index_or}
use Rattle.eff.specs.Sorts.{Sort, expr, list, comp}
use Rattle.eff.specs.Syntax.{Term, var, truth, num, succ, unit, inst, fn, handler, case, nil, if, match, absurd, apply, val, call, bind, rec, handle, flatten, size}
use Rattle.eff.specs.Tabled.{SomeTerm, any}
use Rattle.eff.specs.Types.{Ty, Dirty}
use Rattle.eff.specs.Types as t
use Rattle.eff.specs.Labels.{Labelled, erase, columns}
use Rattle.eff.specs.Labels as l
use Rattle.eff.specs.declared.part.Part.{Part}
use Rattle.eff.specs.declared.kind.Kind.{Kind}
use Rattle.eff.specs.declared.kind.Kind.TheVariants as k

-- a term of the sort wanted; one of another sort, which only parts of no term leave, stands for a unit, a nil or a val of unit
abbrev as_expr : (s : Sort) → Term s → Term expr
as_expr expr t = t
as_expr list t = unit
as_expr comp t = unit

abbrev as_list : (s : Sort) → Term s → Term list
as_list expr t = nil
as_list list t = t
as_list comp t = nil

abbrev as_comp : (s : Sort) → Term s → Term comp
as_comp expr t = val unit
as_comp list t = val unit
as_comp comp t = t

-- the n-th of some terms
abbrev pub term_at : List SomeTerm → ℕ → SomeTerm
term_at ts n = slice_index_or ts n (any unit)

abbrev pub expr_at : List SomeTerm → ℕ → Term expr
expr_at ts n = as_expr (term_at ts n).sort (term_at ts n).term

abbrev pub list_at : List SomeTerm → ℕ → Term list
list_at ts n = as_list (term_at ts n).sort (term_at ts n).term

abbrev pub comp_at : List SomeTerm → ℕ → Term comp
comp_at ts n = as_comp (term_at ts n).sort (term_at ts n).term

-- a part before some terms: it takes its children from the front, and its own term stands there then
abbrev pub before : Kind → (a b : ℕ) → List SomeTerm → List SomeTerm
before k.Variable a b ts = any (var a) ∷ ts
before k.Truth a b ts = any (truth (a == 1)) ∷ ts
before k.Numeral a b ts = any (num a) ∷ ts
before k.Successor a b ts = any (succ (expr_at ts 0)) ∷ drop 1 ts
before k.Unit a b ts = any unit ∷ ts
before k.Instance a b ts = any (inst a) ∷ ts
before k.Function a b ts = any (fn a (comp_at ts 0)) ∷ drop 1 ts
before k.Handler a b ts = any (handler a (comp_at ts 0) (list_at ts 1)) ∷ drop 2 ts
before k.Case a b ts = any (case a b (expr_at ts 0) (comp_at ts 1) (list_at ts 2)) ∷ drop 3 ts
before k.Nil a b ts = any nil ∷ ts
before k.If a b ts = any (if (expr_at ts 0) (comp_at ts 1) (comp_at ts 2)) ∷ drop 3 ts
before k.Match a b ts = any (match (expr_at ts 0) (comp_at ts 1) (comp_at ts 2)) ∷ drop 3 ts
before k.Absurd a b ts = any (absurd (expr_at ts 0)) ∷ drop 1 ts
before k.Apply a b ts = any (apply (expr_at ts 0) (expr_at ts 1)) ∷ drop 2 ts
before k.Val a b ts = any (val (expr_at ts 0)) ∷ drop 1 ts
before k.Call a b ts = any (call a b (expr_at ts 0) (expr_at ts 1) (comp_at ts 2)) ∷ drop 3 ts
before k.Let a b ts = any (bind (comp_at ts 0) (comp_at ts 1)) ∷ drop 2 ts
before k.LetRec a b ts = any (rec a (comp_at ts 0) (comp_at ts 1)) ∷ drop 2 ts
before k.With a b ts = any (handle (expr_at ts 0) (comp_at ts 1)) ∷ drop 2 ts

-- the terms that parts are, one after another
abbrev pub spelled : List Part → List SomeTerm
spelled [] = []
spelled (p ∷ ps) = before p.kind p.a p.b (spelled ps)

-- the computation that parts are
unfoldable pub term_of : List Part → Term comp
term_of ps = comp_at (spelled ps) 0

-- the parts are those of one computation
abbrev pub Whole : List Part → Type 0
Whole ps = ∥ flatten (term_of ps) ≡ ps ∥₁

-- the first of some claims
abbrev pub first_claim : List Dirty → Dirty
first_claim ds = slice_index_or ds 0 (t.unit, 0)

-- the claims behind those of a term
abbrev pub behind : {s : Sort} → Term s → List Dirty → List Dirty
behind u ds = drop (size u) ds

-- a term with these claims at its parts, in order
abbrev pub attach : {s : Sort} → Term s → List Dirty → Labelled s
attach (var n) ds = l.var (first_claim ds).0 n
attach (truth b) ds = l.truth (first_claim ds).0 b
attach (num n) ds = l.num (first_claim ds).0 n
attach (succ e) ds = l.succ (first_claim ds).0 (attach e (drop 1 ds))
attach unit ds = l.unit (first_claim ds).0
attach (inst i) ds = l.inst (first_claim ds).0 i
attach (fn a c) ds = l.fn (first_claim ds).0 a (attach c (drop 1 ds))
attach (handler a c cs) ds = l.handler (first_claim ds).0 a (attach c (drop 1 ds)) (attach cs (behind c (drop 1 ds)))
attach (case e op i c cs) ds =
    l.case e op (attach i (drop 1 ds)) (attach c (behind i (drop 1 ds))) (attach cs (behind c (behind i (drop 1 ds))))
attach nil ds = l.nil (first_claim ds)
attach (if e c d) ds =
    l.if (first_claim ds) (attach e (drop 1 ds)) (attach c (behind e (drop 1 ds))) (attach d (behind c (behind e (drop 1 ds))))
attach (match e c d) ds =
    l.match (first_claim ds) (attach e (drop 1 ds)) (attach c (behind e (drop 1 ds))) (attach d (behind c (behind e (drop 1 ds))))
attach (absurd e) ds = l.absurd (first_claim ds) (attach e (drop 1 ds))
attach (apply e f) ds = l.apply (first_claim ds) (attach e (drop 1 ds)) (attach f (behind e (drop 1 ds)))
attach (val e) ds = l.val (first_claim ds) (attach e (drop 1 ds))
attach (call e op i w c) ds =
    l.call (first_claim ds) e op (attach i (drop 1 ds)) (attach w (behind i (drop 1 ds))) (attach c (behind w (behind i (drop 1 ds))))
attach (bind c d) ds = l.bind (first_claim ds) (attach c (drop 1 ds)) (attach d (behind c (drop 1 ds)))
attach (rec a c d) ds = l.rec (first_claim ds) a (attach c (drop 1 ds)) (attach d (behind c (drop 1 ds)))
attach (handle e c) ds = l.handle (first_claim ds) (attach e (drop 1 ds)) (attach c (behind e (drop 1 ds)))

-- A term is had again from its parts, and a labelled one from its term and its claims, whatever stands behind them.
pub record Spelled : Type 0 where
  pub terms : (s : Sort) (u : Term s) (ps : List Part) → spelled (flatten u ++ ps) ≡ any u ∷ spelled ps
  pub computations : (c : Term comp) → term_of (flatten c) ≡ c
  pub labels : (s : Sort) (u : Labelled s) (ds : List Dirty) → attach (erase u) (columns u ++ ds) ≡ u

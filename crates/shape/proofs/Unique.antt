-- A term is determined by its parts.
use Rattle.std.proofs.Common.{◌≡◌, ℕ, zero, suc, ◌≤◌, true, false, eqb, List, [], ◌∷◌, ◌++◌, map, length, get_or, Some, sym, refl, ap, ◌∙◌, append_assoc, arith}
use lib.ListN.{length-map}
use Rattle.std.proofs.lemmas.List.{map-append}
use Rattle.eff.specs.Sorts.{Sort, expr, list, comp}
use Rattle.eff.specs.Kinds.{Child, table, kinded}
use Rattle.eff.specs.Syntax.{head, Term, var, truth, num, succ, unit, inst, fn, handler, case, nil, if, match, absurd as absurd_of, apply, val, call, bind, rec, handle, part, flatten}
use Rattle.eff.specs.Tabled.{SomeTerm, any, children, all_parts}
use Rattle.eff.specs.declared.part.Part.{Part}
use Rattle.eff.specs.declared.kind.Kind.{Kind}
use Rattle.eff.specs.declared.kind.Kind.TheVariants as k
use Rattle.eff.proofs.Tabled.{follow}
use Rattle.eff.proofs.KindNumbers.{numbers}
use Rattle.shape.specs.Entries.{written, entries}

-- a term of sort u as one of sort s, where these are the same
at : (s u : Sort) → Term u → Term s
at expr expr t = t
at expr list t = unit
at expr comp t = unit
at list expr t = nil
at list list t = t
at list comp t = nil
at comp expr t = val unit
at comp list t = val unit
at comp comp t = t

child : (s : Sort) → List SomeTerm → ℕ → Term s
child s xs i = at s (get_or xs i (any unit)).sort (get_or xs i (any unit)).term

-- a term by its first part and its children
rebuild : Kind → ℕ → ℕ → List SomeTerm → SomeTerm
rebuild k.Variable a b xs = any (var a)
rebuild k.Truth a b xs = any (truth (eqb a 1))
rebuild k.Numeral a b xs = any (num a)
rebuild k.Successor a b xs = any (succ (child expr xs 0))
rebuild k.Unit a b xs = any unit
rebuild k.Instance a b xs = any (inst a)
rebuild k.Function a b xs = any (fn a (child comp xs 0))
rebuild k.Handler a b xs = any (handler a (child comp xs 0) (child list xs 1))
rebuild k.Case a b xs = any (case a b (child expr xs 0) (child comp xs 1) (child list xs 2))
rebuild k.Nil a b xs = any nil
rebuild k.If a b xs = any (if (child expr xs 0) (child comp xs 1) (child comp xs 2))
rebuild k.Match a b xs = any (match (child expr xs 0) (child comp xs 1) (child comp xs 2))
rebuild k.Absurd a b xs = any (absurd_of (child expr xs 0))
rebuild k.Apply a b xs = any (apply (child expr xs 0) (child expr xs 1))
rebuild k.Val a b xs = any (val (child expr xs 0))
rebuild k.Call a b xs = any (call a b (child expr xs 0) (child expr xs 1) (child comp xs 2))
rebuild k.Let a b xs = any (bind (child comp xs 0) (child comp xs 1))
rebuild k.LetRec a b xs = any (rec a (child comp xs 0) (child comp xs 1))
rebuild k.With a b xs = any (handle (child expr xs 0) (child comp xs 1))

rebuilt : (s : Sort) (t : Term s) → rebuild (head t).kind (head t).a (head t).b (children t) ≡ any t
unfolding rebuild child at
rebuilt expr (var n) = refl
rebuilt expr (truth true) = refl
rebuilt expr (truth false) = refl
rebuilt expr (num n) = refl
rebuilt expr (succ e) = refl
rebuilt expr unit = refl
rebuilt expr (inst i) = refl
rebuilt expr (fn a c) = refl
rebuilt expr (handler a c cs) = refl
rebuilt list (case e op i c cs) = refl
rebuilt list nil = refl
rebuilt comp (if e c d) = refl
rebuilt comp (match e c d) = refl
rebuilt comp (absurd_of e) = refl
rebuilt comp (apply e f) = refl
rebuilt comp (val e) = refl
rebuilt comp (call e op i w c) = refl
rebuilt comp (bind c d) = refl
rebuilt comp (rec a c d) = refl
rebuilt comp (handle e c) = refl

split : {X : Type 0} (xs ys us vs : List X) → length xs ≡ length ys → xs ++ us ≡ ys ++ vs → (xs ≡ ys) × (us ≡ vs)
split [] [] us vs l e = (refl, e)
split [] (y ∷ ys) us vs l e = absurd (omega (arith, l))
split (x ∷ xs) [] us vs l e = absurd (omega (arith, l))
split (x ∷ xs) (y ∷ ys) us vs l e =
    let h : x ≡ y = cc in
    let t : xs ++ us ≡ ys ++ vs = cc in
    let r = split xs ys us vs (let q : length xs ≡ length ys = omega (arith, l) in q) t in
    let q = r.0 in
    let p : x ∷ xs ≡ y ∷ ys = cc in (p, r.1)

abbrev sorts : List SomeTerm → List Sort
sorts xs = map (λ (x : SomeTerm). x.sort) xs

all_append : (xs ys : List SomeTerm) → all_parts (xs ++ ys) ≡ all_parts xs ++ all_parts ys
all_append [] ys = refl
all_append (x ∷ xs) ys = ap (λ l. flatten x.term ++ l) (all_append xs ys) ∙ sym (append_assoc (flatten x.term) (all_parts xs) (all_parts ys))

-- the parts of terms: the first part of the first, and then the parts of its children and of the others
opened : (t : SomeTerm) (ts : List SomeTerm) → all_parts (t ∷ ts) ≡ head t.term ∷ all_parts (children t.term ++ ts)
opened t ts = ap (λ l. l ++ all_parts ts) (follow t.sort t.term).parts ∙ ap (λ l. head t.term ∷ l) (sym (all_append (children t.term) ts))

same_length : (xs ys : List SomeTerm) → sorts xs ≡ sorts ys → length xs ≡ length ys
same_length xs ys e = sym (length-map xs (λ (x : SomeTerm). x.sort)) ∙ ap length e ∙ length-map ys (λ (x : SomeTerm). x.sort)

-- terms of the same sorts with the same parts, of at most n parts
one : (n : ℕ) (ts us : List SomeTerm) → length (all_parts ts) ≤ n → sorts ts ≡ sorts us → all_parts ts ≡ all_parts us → ts ≡ us
one n [] [] l s e = refl
one n [] (u ∷ us) l s e = absurd (omega (arith, ap length s))
one n (t ∷ ts) [] l s e = absurd (omega (arith, ap length s))
one zero (t ∷ ts) (u ∷ us) l s e = absurd (omega (arith, ap length (opened t ts), l))
one (suc n) (t ∷ ts) (u ∷ us) l s e =
    let q = sym (opened t ts) ∙ e ∙ opened u us in
    let h : head t.term ≡ head u.term = cc in
    let r : all_parts (children t.term ++ ts) ≡ all_parts (children u.term ++ us) = cc in
    let c : sorts (children t.term) ≡ sorts (children u.term) = (follow t.sort t.term).sorts ∙ ap (λ p. map (λ (c : Child). c.sort) (table p.kind).children) h ∙ sym (follow u.sort u.term).sorts in
    let d : sorts ts ≡ sorts us = cc in
    let m : sorts (children t.term ++ ts) ≡ sorts (children u.term ++ us) =
    map-append (λ (x : SomeTerm). x.sort) (children t.term) ts ∙ ap (λ l. l ++ sorts ts) c ∙ ap (λ l. sorts (children u.term) ++ l) d ∙ sym (map-append (λ (x : SomeTerm). x.sort) (children u.term) us) in
    let i = one n (children t.term ++ ts) (children u.term ++ us) (omega (arith, ap length (opened t ts), l)) m r in
    let f = split (children t.term) (children u.term) ts us (same_length (children t.term) (children u.term) c) i in
    let g : t ≡ u =
    sym (rebuilt t.sort t.term) ∙ ap (λ p. rebuild p.kind p.a p.b (children t.term)) h
    ∙ ap (rebuild (head u.term).kind (head u.term).a (head u.term).b) f.0 ∙ rebuilt u.sort u.term in
    ap (λ x. x ∷ ts) g ∙ ap (λ xs. u ∷ xs) f.1

at_same : (s : Sort) (t : Term s) → at s s t ≡ t
unfolding at
at_same expr t = refl
at_same list t = refl
at_same comp t = refl

-- a part's columns and its kind's number determine it
part_one : (p q : Part) → written p ≡ written q → p ≡ q
part_one p q e =
    let k : Some p.kind ≡ Some q.kind = sym (numbers.kind p.kind) ∙ ap (λ x. kinded x.kind) e ∙ numbers.kind q.kind in
    let j : p.kind ≡ q.kind = cc in
    ap (λ x. part x p.a p.b) j ∙ ap (λ x. part q.kind x.a x.b) e

parts_one : (ps qs : List Part) → map written ps ≡ map written qs → ps ≡ qs
parts_one [] [] e = refl
parts_one [] (q ∷ qs) e = absurd (omega (arith, ap length e))
parts_one (p ∷ ps) [] e = absurd (omega (arith, ap length e))
parts_one (p ∷ ps) (q ∷ qs) e =
    let h : written p ≡ written q = cc in
    let t : map written ps ≡ map written qs = cc in
    ap (λ x. x ∷ ps) (part_one p q h) ∙ ap (λ xs. q ∷ xs) (parts_one ps qs t)

pub one_term : (s : Sort) (t u : Term s) → entries t ≡ entries u → t ≡ u
one_term s t u e =
    let i = one (length (all_parts (any t ∷ []))) (any t ∷ []) (any u ∷ []) (omega arith) refl (ap (λ l. l ++ []) (parts_one (flatten t) (flatten u) e)) in
    let g : any t ≡ any u = cc in
    sym (at_same s t) ∙ ap (λ x. at s x.sort x.term) g ∙ at_same s u

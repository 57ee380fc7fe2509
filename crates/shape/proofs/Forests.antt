-- Tidy entries that fill places are the parts of terms.
use Rattle.std.proofs.Common.{◌≡◌, ℕ, ◌+◌, Bool, true, false, cond, ◌&&◌, ltb, List, [], ◌∷◌, ◌++◌, map, Some, None, Ok, Err, Option, sym, refl, ap, ◌∙◌, subst, append_assoc, ltb-true}
use Rattle.std.proofs.lemmas.List.{map-append}
use Rattle.fault.specs.declared.shape.ShapeFault.{ShapeFault}
use Rattle.fault.specs.declared.shape.ShapeFault.TheVariants as faults
use Rattle.eff.specs.Sorts.{Sort, expr, same}
use Rattle.eff.proofs.Sorted.{never, sames}
use Rattle.eff.specs.Kinds.{table, number, kinded}
use Rattle.eff.specs.Syntax.{head, Term, var, truth, num, succ, unit, inst, fn, handler, case, nil, if, match, absurd as absurd_of, apply, val, call, bind, rec, handle, flatten}
use Rattle.eff.specs.declared.part.Part.{Part}
use Rattle.eff.specs.declared.kind.Kind.{Kind}
use Rattle.eff.proofs.Tabled.{follow}
use Rattle.eff.proofs.KindNumbers.{numbers}
use Rattle.eff.specs.Scope.{Scoped}
use Rattle.shape.specs.Entries.{Entry, written, entries, Tidy, AllTidy}
use Rattle.fault.specs.Search.{Verdict}
use Rattle.shape.specs.Answer.{Want, want, below, in_scope, filling, standing, noted, ended, next, shape}
use Rattle.shape.proofs.Terms.{after, fills}

-- closed terms for all the places, in order
abbrev pub Forest : List Want → List Entry → Type 0
Forest [] es = es ≡ []
Forest (w ∷ ws) es = (t : Term w.sort) × (rest : List Entry) × Scoped w.names t × (es ≡ entries t ++ rest) × Forest ws rest

-- and below a part that stands in its place
abbrev Below : Option (List Want) → List Want → List Entry → Type 0
Below None ws es = ⊥
Below (Some vs) ws es = Forest (vs ++ ws) es

join_1 : (e : Entry) {es x : List Entry} → es ≡ x → e ∷ es ≡ e ∷ x
join_1 e q = ap (λ l. e ∷ l) q

join_2 : (e : Entry) {es : List Entry} (x y : List Part) {r : List Entry} (r' : List Entry) → es ≡ map written x ++ r → r ≡ map written y ++ r' → e ∷ es ≡ e ∷ (map written (x ++ y) ++ r')
join_2 e x y r' p q = ap (λ l. e ∷ l) (p ∙ ap (λ l. map written x ++ l) q ∙ sym (append_assoc (map written x) (map written y) r') ∙ ap (λ l. l ++ r') (sym (map-append written x y)))

join_3 : (e : Entry) {es : List Entry} (x y z : List Part) {r r' : List Entry} (r'' : List Entry) → es ≡ map written x ++ r → r ≡ map written y ++ r' → r' ≡ map written z ++ r''
    → e ∷ es ≡ e ∷ (map written (x ++ (y ++ z)) ++ r'')
join_3 e x y z r'' p q s =
    join_2 e x (y ++ z) r'' p (q ∙ ap (λ l. map written y ++ l) s ∙ sym (append_assoc (map written y) (map written z) r'') ∙ ap (λ l. l ++ r'') (sym (map-append written y z)))

name : (place n : ℕ) (ws : List Want) (es : List Entry) (b : Bool) → ltb place n ≡ b → Below (cond b (Some []) None) ws es
    → Forest (want expr n ∷ ws) (written (head (var place)) ∷ es)
name place n ws es true q f = (var place, es, ltb-true place n q, refl, f)
name place n ws es false q f = absurd f

-- a term with the first part of another, and children from below
grow : {s : Sort} (t : Term s) (n : ℕ) (ws : List Want) (es : List Entry) → Below (standing (want s n) (written (head t))) ws es
    → Forest (want s n ∷ ws) (written (head t) ∷ es)
grow (var place) n ws es f = name place n ws es (ltb place n) refl f
grow (truth b) n ws es f = (truth b, es, tt, refl, f)
grow (num m) n ws es f = (num m, es, tt, refl, f)
grow (succ e) n ws es f = (succ f.0, f.1, f.2, join_1 _ f.3, f.4)
grow unit n ws es f = (unit, es, tt, refl, f)
grow (inst i) n ws es f = (inst i, es, tt, refl, f)
grow (fn a c) n ws es f = (fn a f.0, f.1, f.2, join_1 _ f.3, f.4)
grow (handler a c cs) n ws es f = let g = f.4 in (handler a f.0 g.0, g.1, (f.2, g.2), join_2 _ (flatten f.0) (flatten g.0) g.1 f.3 g.3, g.4)
grow (case e op i c cs) n ws es f = let g = f.4 in let h = g.4 in (case e op f.0 g.0 h.0, h.1, (f.2, g.2, h.2), join_3 _ (flatten f.0) (flatten g.0) (flatten h.0) h.1 f.3 g.3 h.3, h.4)
grow nil n ws es f = (nil, es, tt, refl, f)
grow (if e c d) n ws es f = let g = f.4 in let h = g.4 in (if f.0 g.0 h.0, h.1, (f.2, g.2, h.2), join_3 _ (flatten f.0) (flatten g.0) (flatten h.0) h.1 f.3 g.3 h.3, h.4)
grow (match e c d) n ws es f = let g = f.4 in let h = g.4 in (match f.0 g.0 h.0, h.1, (f.2, g.2, h.2), join_3 _ (flatten f.0) (flatten g.0) (flatten h.0) h.1 f.3 g.3 h.3, h.4)
grow (absurd_of e) n ws es f = (absurd_of f.0, f.1, f.2, join_1 _ f.3, f.4)
grow (apply e d) n ws es f = let g = f.4 in (apply f.0 g.0, g.1, (f.2, g.2), join_2 _ (flatten f.0) (flatten g.0) g.1 f.3 g.3, g.4)
grow (val e) n ws es f = (val f.0, f.1, f.2, join_1 _ f.3, f.4)
grow (call e op i w c) n ws es f = let g = f.4 in let h = g.4 in (call e op f.0 g.0 h.0, h.1, (f.2, g.2, h.2), join_3 _ (flatten f.0) (flatten g.0) (flatten h.0) h.1 f.3 g.3 h.3, h.4)
grow (bind c d) n ws es f = let g = f.4 in (bind f.0 g.0, g.1, (f.2, g.2), join_2 _ (flatten f.0) (flatten g.0) g.1 f.3 g.3, g.4)
grow (rec a c d) n ws es f = let g = f.4 in (rec a f.0 g.0, g.1, (f.2, g.2), join_2 _ (flatten f.0) (flatten g.0) g.1 f.3 g.3, g.4)
grow (handle e c) n ws es f = let g = f.4 in (handle f.0 g.0, g.1, (f.2, g.2), join_2 _ (flatten f.0) (flatten g.0) g.1 f.3 g.3, g.4)

-- what stands in a place has its sort
sorted : (k : Kind) (w : Want) (a : ℕ) (ws : List Want) (es : List Entry) → Below (filling w a (Some k)) ws es → (table k).sort ≡ w.sort
sorted k w a ws es f = go (same (table k).sort w.sort) refl f
  where
    go : (b : Bool) → same (table k).sort w.sort ≡ b → Below (cond (b && in_scope k a w.names) (Some (below w.names (table k).children)) None) ws es → (table k).sort ≡ w.sort
    go true q f = sames _ _ q
    go false q f = absurd f

-- a tidy entry that stands in its place, and terms below it
pub tidy_grows : (w : Want) (e : Entry) (ws : List Want) (es : List Entry) → Tidy e → (vs : List Want) → standing w e ≡ Some vs → Forest (vs ++ ws) es → Forest (w ∷ ws) (e ∷ es)
tidy_grows w e ws es d vs q f = subst (λ x. Forest (w ∷ ws) (x ∷ es)) (sym d.first) (at d.sort d.term below_it)
  where
    below_it : Below (standing w (written (head d.term))) ws es
    below_it = subst (λ o. Below o ws es) (sym q ∙ ap (standing w) d.first) f

    at : (s : Sort) (t : Term s) → Below (standing w (written (head t))) ws es → Forest (w ∷ ws) (written (head t) ∷ es)
    at s t g =
        let k : kinded (number (head t).kind) ≡ Some (head t).kind = numbers.kind (head t).kind in
        let r : s ≡ w.sort = sym (follow s t).sort ∙ sorted (head t).kind w (head t).a ws es (subst (λ o. Below (filling w (head t).a o) ws es) k g) in
        subst (λ u. (t : Term u) → Below (standing w (written (head t))) ws es → Forest (w ∷ ws) (written (head t) ∷ es)) (sym r) (λ t. grow t w.names ws es) t g

-- refusal 6 or not
abbrev by_fault : ShapeFault → Bool
by_fault (faults.Table f) = true
by_fault faults.Term = false
by_fault faults.Names = true

abbrev pub whole : Verdict ShapeFault → Bool
whole (Ok u) = true
whole (Err e) = by_fault e.fault

pub ended_whole : (crowd : Option ℕ) → whole (ended crowd) ≡ true
ended_whole None = refl
ended_whole (Some line) = refl

-- terms in all the places are not refused
pub passes : (ws : List Want) (es : List Entry) → Forest ws es → (crowd : Option ℕ) (line : ℕ) → whole (shape crowd ws line es) ≡ true
passes [] es f crowd line = ap (λ x. whole (shape crowd [] line x)) f ∙ ended_whole crowd
passes (w ∷ ws) es f crowd line =
    ap (λ x. whole (shape crowd (w ∷ ws) line x)) f.3
    ∙ ap whole ((fills w.names f.0 f.2).passed crowd line ws f.1)
    ∙ passes ws f.1 f.4 _ _

-- tidy entries that are not refused are terms
pub forest : (es : List Entry) (ws : List Want) (crowd : Option ℕ) (line : ℕ) → AllTidy es → whole (shape crowd ws line es) ≡ true → Forest ws es
forest [] [] crowd line d h = refl
forest [] (w ∷ ws) crowd line d h = never h
forest (e ∷ es) [] crowd line d h = never h
forest (e ∷ es) (w ∷ ws) crowd line d h = go (standing w e) refl h (λ vs. forest es (vs ++ ws) (noted crowd w.names line) (line + 1) d.1)
  where
    go : (o : Option (List Want)) → standing w e ≡ o → whole (next o line (after crowd w ws line es)) ≡ true
        → ((vs : List Want) → whole (after crowd w ws line es vs) ≡ true → Forest (vs ++ ws) es) → Forest (w ∷ ws) (e ∷ es)
    go None q h ih = never h
    go (Some vs) q h ih = tidy_grows w e ws es d.0 vs q (ih vs h)

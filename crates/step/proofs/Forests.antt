-- Parts are read as terms, and as one computation.
use Rattle.std.proofs.Common.{◌≡◌, ℕ, zero, suc, Bool, true, false, eqb, ltb, List, [], ◌∷◌, ◌++◌, map, length, Decides, Some, None, Option, sym, refl, ap, ◌∙◌, subst, ap₂, inl, inr, append_assoc, append-nil, arith}
use Rattle.std.specs.Borrow.{Bor}
use mathlib.Core.List.{map-map}
use Rattle.std.proofs.lemmas.Bool.{eqb-true, ltb-true, and_parts, cases_Bool}
use Rattle.eff.specs.Sorts.{Sort, comp, same}
use Rattle.eff.proofs.Sorted.{never, sames}
use Rattle.eff.specs.Kinds.{Child, table, child_of, sort_of, sorts}
use Rattle.eff.specs.declared.sort.Child.{Child as ChildRow}
use Rattle.eff.specs.Spelling.{term_of, Whole}
use Rattle.eff.specs.Syntax.{Term, var, truth, num, succ, unit, inst, fn, handler, case, nil, if, match, absurd as none_of, apply, val, call, bind, rec, handle, digit, part, flatten}
use Rattle.eff.specs.declared.kind.Kind.{Kind}
use Rattle.eff.specs.declared.kind.Kind.TheVariants as k
use Rattle.eff.specs.declared.part.Part.{Part}
use Rattle.eff.proofs.Spelling.{whole_parts, parts_whole}
use Rattle.step.specs.Reading.{Ending, clean, tidy, opens, are}

-- the sort of a child
abbrev pub sort : ChildRow → Sort
sort c = sort_of c.sort

-- the children of a part of this kind are of the sorts that the table says
pub sorted : (k : Kind) (cs : List ChildRow) → map child_of cs ≡ (table k).children → map sort cs ≡ sorts k
sorted k cs e = sym (map-map (λ (c : Child). c.sort) child_of cs) ∙ ap (map (λ (c : Child). c.sort)) e

-- a term's parts are read as it
record Reads (s : Sort) (x : List Part) : Type 0 where
  passes : (fs : List Sort) (rest : List Part) → are (s ∷ fs) (x ++ rest) ≡ are fs rest

reads_2 : {s u : Sort} {x y : List Part} → Reads s x → Reads u y → (fs : List Sort) (rest : List Part) → are (s ∷ u ∷ fs) ((x ++ y) ++ rest) ≡ are fs rest
reads_2 {s} {u} {x} {y} h j fs rest = ap (are (s ∷ u ∷ fs)) (append_assoc x y rest) ∙ h.passes (u ∷ fs) (y ++ rest) ∙ j.passes fs rest

reads_3 : {s u w : Sort} {x y z : List Part} → Reads s x → Reads u y → Reads w z → (fs : List Sort) (rest : List Part)
    → are (s ∷ u ∷ w ∷ fs) ((x ++ (y ++ z)) ++ rest) ≡ are fs rest
reads_3 {s} {u} {w} {x} {y} {z} h j l fs rest =
    ap (are (s ∷ u ∷ w ∷ fs)) (append_assoc x (y ++ z) rest) ∙ h.passes (u ∷ w ∷ fs) ((y ++ z) ++ rest) ∙ reads_2 j l fs rest

reads : {s : Sort} (t : Term s) → Reads s (flatten t)
reads (var n) = record { passes = λ fs rest. refl }
reads (truth true) = record { passes = λ fs rest. refl }
reads (truth false) = record { passes = λ fs rest. refl }
reads (num n) = record { passes = λ fs rest. refl }
reads (succ e) = record { passes = (reads e).passes }
reads unit = record { passes = λ fs rest. refl }
reads (inst i) = record { passes = λ fs rest. refl }
reads (fn a c) = record { passes = (reads c).passes }
reads (handler a c cs) = record { passes = reads_2 (reads c) (reads cs) }
reads (case e op i c cs) = record { passes = reads_3 (reads i) (reads c) (reads cs) }
reads nil = record { passes = λ fs rest. refl }
reads (if e c d) = record { passes = reads_3 (reads e) (reads c) (reads d) }
reads (match e c d) = record { passes = reads_3 (reads e) (reads c) (reads d) }
reads (none_of e) = record { passes = (reads e).passes }
reads (apply e f) = record { passes = reads_2 (reads e) (reads f) }
reads (val e) = record { passes = (reads e).passes }
reads (call e op i w c) = record { passes = reads_3 (reads i) (reads w) (reads c) }
reads (bind c d) = record { passes = reads_2 (reads c) (reads d) }
reads (rec a c d) = record { passes = reads_2 (reads c) (reads d) }
reads (handle h c) = record { passes = reads_2 (reads h) (reads c) }

-- parts that are read are those of terms
abbrev Forest : List Sort → List Part → Type 0
Forest [] ps = ps ≡ []
Forest (s ∷ ss) ps = (t : Term s) × (rest : List Part) × (ps ≡ flatten t ++ rest) × Forest ss rest

join_1 : {p q : Part} {ps x : List Part} → p ≡ q → ps ≡ x → p ∷ ps ≡ q ∷ x
join_1 e f = ap₂ (λ p x. p ∷ x) e f

join_2 : {p q : Part} {ps : List Part} (x y : List Part) {r : List Part} (r' : List Part) → p ≡ q → ps ≡ x ++ r → r ≡ y ++ r' → p ∷ ps ≡ q ∷ ((x ++ y) ++ r')
join_2 x y r' e f g = join_1 e (f ∙ ap (λ l. x ++ l) g ∙ sym (append_assoc x y r'))

join_3 : {p q : Part} {ps : List Part} (x y z : List Part) {r r' : List Part} (r'' : List Part) → p ≡ q → ps ≡ x ++ r → r ≡ y ++ r' → r' ≡ z ++ r''
    → p ∷ ps ≡ q ∷ ((x ++ (y ++ z)) ++ r'')
join_3 x y z r'' e f g h = join_2 x (y ++ z) r'' e f (g ∙ ap (λ l. y ++ l) h ∙ sym (append_assoc y z r''))

truth_digit : (a : ℕ) → ltb a 2 ≡ true → a ≡ digit (eqb a 1)
truth_digit zero h = refl
truth_digit (suc zero) h = refl
truth_digit (suc (suc n)) h = absurd (omega (arith, ltb-true (suc (suc n)) 2 h))

none : (j : Kind) {a b : ℕ} → eqb a 0 ≡ true → eqb b 0 ≡ true → part j a b ≡ part j 0 0
none j {a} {b} h l = ap₂ (part j) (eqb-true a 0 h) (eqb-true b 0 l)

first : (j : Kind) (a : ℕ) {b : ℕ} → eqb b 0 ≡ true → part j a b ≡ part j a 0
first j a {b} l = ap (part j a) (eqb-true b 0 l)

-- a part before terms of its children's sorts
plant : (j : Kind) (a b : ℕ) (ss : List Sort) (ps : List Part) → clean (table j).a a ≡ true → clean (table j).b b ≡ true → Forest (sorts j ++ ss) ps
    → Forest ((table j).sort ∷ ss) (part j a b ∷ ps)
plant k.Variable a b ss ps h l f = (var a, ps, join_1 (first k.Variable a l) refl, f)
plant k.Truth a b ss ps h l f = (truth (eqb a 1), ps, join_1 (ap₂ (part k.Truth) (truth_digit a h) (eqb-true b 0 l)) refl, f)
plant k.Numeral a b ss ps h l f = (num a, ps, join_1 (first k.Numeral a l) refl, f)
plant k.Successor a b ss ps h l f = (succ f.0, f.1, join_1 (none k.Successor h l) f.2, f.3)
plant k.Unit a b ss ps h l f = (unit, ps, join_1 (none k.Unit h l) refl, f)
plant k.Instance a b ss ps h l f = (inst a, ps, join_1 (first k.Instance a l) refl, f)
plant k.Function a b ss ps h l f = (fn a f.0, f.1, join_1 (first k.Function a l) f.2, f.3)
plant k.Handler a b ss ps h l f = let g = f.3 in (handler a f.0 g.0, g.1, join_2 (flatten f.0) (flatten g.0) g.1 (first k.Handler a l) f.2 g.2, g.3)
plant k.Case a b ss ps h l f =
    let g = f.3 in let d = g.3 in (case a b f.0 g.0 d.0, d.1, join_3 (flatten f.0) (flatten g.0) (flatten d.0) d.1 refl f.2 g.2 d.2, d.3)
plant k.Nil a b ss ps h l f = (nil, ps, join_1 (none k.Nil h l) refl, f)
plant k.If a b ss ps h l f =
    let g = f.3 in let d = g.3 in (if f.0 g.0 d.0, d.1, join_3 (flatten f.0) (flatten g.0) (flatten d.0) d.1 (none k.If h l) f.2 g.2 d.2, d.3)
plant k.Match a b ss ps h l f =
    let g = f.3 in let d = g.3 in (match f.0 g.0 d.0, d.1, join_3 (flatten f.0) (flatten g.0) (flatten d.0) d.1 (none k.Match h l) f.2 g.2 d.2, d.3)
plant k.Absurd a b ss ps h l f = (none_of f.0, f.1, join_1 (none k.Absurd h l) f.2, f.3)
plant k.Apply a b ss ps h l f = let g = f.3 in (apply f.0 g.0, g.1, join_2 (flatten f.0) (flatten g.0) g.1 (none k.Apply h l) f.2 g.2, g.3)
plant k.Val a b ss ps h l f = (val f.0, f.1, join_1 (none k.Val h l) f.2, f.3)
plant k.Call a b ss ps h l f =
    let g = f.3 in let d = g.3 in (call a b f.0 g.0 d.0, d.1, join_3 (flatten f.0) (flatten g.0) (flatten d.0) d.1 refl f.2 g.2 d.2, d.3)
plant k.Let a b ss ps h l f = let g = f.3 in (bind f.0 g.0, g.1, join_2 (flatten f.0) (flatten g.0) g.1 (none k.Let h l) f.2 g.2, g.3)
plant k.LetRec a b ss ps h l f = let g = f.3 in (rec a f.0 g.0, g.1, join_2 (flatten f.0) (flatten g.0) g.1 (first k.LetRec a l) f.2 g.2, g.3)
plant k.With a b ss ps h l f = let g = f.3 in (handle f.0 g.0, g.1, join_2 (flatten f.0) (flatten g.0) g.1 (none k.With h l) f.2 g.2, g.3)

grow : (ss : List Sort) (ps : List Part) → are ss ps ≡ true → Forest ss ps
grow [] [] h = refl
grow [] (p ∷ ps) h = never h
grow (s ∷ ss) [] h = never h
grow (s ∷ ss) (p ∷ ps) h =
    let q = and_parts (opens s p) (are (sorts p.kind ++ ss) ps) h in
    let o = and_parts (same (table p.kind).sort s) (tidy p) q.0 in
    let c = and_parts (clean (table p.kind).a p.a) (clean (table p.kind).b p.b) o.1 in
    subst (λ (u : Sort). Forest (u ∷ ss) (p ∷ ps)) (sames (table p.kind).sort s o.0) (plant p.kind p.a p.b ss ps c.0 c.1 (grow (sorts p.kind ++ ss) ps q.1))

-- one computation
decided : (ps : List Part) (r : Bool) → r ≡ are (comp ∷ []) ps → Decides r (Whole ps)
decided ps r e = (
  λ h. let f = grow (comp ∷ []) ps (sym e ∙ h) in parts_whole ps f.0 (f.2 ∙ ap (λ l. flatten f.0 ++ l) f.3 ∙ append-nil (flatten f.0)),
  λ w. e ∙ ap (are (comp ∷ [])) (whole_parts ps w ∙ sym (append-nil (flatten (term_of ps)))) ∙ (reads (term_of ps)).passes [] [],
)

-- nothing is left behind it
all_read : (rest : List Part) → are [] rest ≡ eqb (length rest) 0
all_read [] = refl
all_read (p ∷ ps) = elim (cases_Bool (eqb (length (p ∷ ps)) 0)) [ inl q ↦ absurd (omega (arith, eqb-true (length (p ∷ ps)) 0 q)) | inr q ↦ sym q ]

-- whether nothing stands behind the term
abbrev pub ends_all : Option (Bor (List Part)) → Bool
ends_all (Some rest) = eqb (length rest.now) 0
ends_all None = false

pub decides_ending : {ps : List Part} (o : Option (Bor (List Part))) (r : Bool) → Ending comp ps o → r ≡ ends_all o → Decides r (Whole ps)
decides_ending {ps} (Some rest) r f e = decided ps r (e ∙ sym (all_read rest.now) ∙ sym (f.passes []))
decides_ending {ps} None r f e = decided ps r (e ∙ sym (f.none []))

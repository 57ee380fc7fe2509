-- The walker's moves fill places one after another.
use Rattle.std.specs.List.{list_all}
use Rattle.std.proofs.Common.{true, leb, ◌≡◌, ℕ, zero, suc, ◌+◌, ◌<◌, ◌≤◌, List, [], ◌∷◌, ◌++◌, map, length, get_or, drop, IsErrAnd, None, Err, sym, refl, ap, ◌∙◌, ⊎_elim, arith}
use Rattle.std.proofs.lemmas.List.{drop_more, drop_all, get_or-map}
use Rattle.std.proofs.lemmas.Bool.{cases_lt, and_parts, leb-true}
use Rattle.std.proofs.lemmas.Result.{err_from_is_err_and}
use Rattle.fault.specs.declared.at.At.{At}
use Rattle.fault.specs.declared.shape.ShapeFault.{ShapeFault}
use Rattle.fault.specs.declared.shape.ShapeFault.TheVariants.{Term}
use Rattle.eff.specs.Sorts.{expr}
use Rattle.eff.specs.Kinds.{Child, under, table, sort_of, child_of}
use Rattle.eff.specs.declared.kind.Kind.{Kind}
use Rattle.eff.specs.declared.kind.Kind.TheVariants.{Variable, Truth, Numeral, Successor, Unit as UnitK, Instance, Function, Handler, Case, Nil, If, Match, Absurd, Apply, Val, Call, Let, LetRec, With}
use Rattle.eff.specs.declared.sort.Child.{Child as ChildRow}
use Rattle.sheet.specs.Rows.{part_of}
use Rattle.shape.specs.declared.walker.Walker.{Walker}
use Rattle.shape.specs.Entries.{said}
use Rattle.fault.specs.Search.{Verdict, refused, and_then}
use Rattle.shape.specs.Answer.{Want, want, more, below, standing, next, shape}
use Rattle.shape.specs.Walk.{rows_of, row, sees, Stands, Moves}
use Rattle.shape.proofs.Terms.{after}

-- the next part before the others
met : (w : Want) (ws : List Want) (a : Walker) → 0 < length (rows_of a) → sees (w ∷ ws) a ≡ next (standing w (said (row a))) a.line (after a.crowd w ws a.line (map said (drop 1 (rows_of a))))
met w ws a h = ap (λ rs. shape a.crowd (w ∷ ws) a.line (map said rs)) (drop_more (rows_of a) 0 (part_of []) h)

-- a part that cannot stand, or none
pub stuck : {w : Want} {a : Walker} {e : At ShapeFault} → e ≡ record { line = a.line; fault = Term } → Stands w a None → Moves (w ∷ []) a a (Err e)
stuck {w} {a} {e} q h = record { fewer = omega arith; onward = omega arith; seen = λ ws. misplaced ws ∙ ap (λ x. Err x) (sym q) }
  where
    misplaced : (ws : List Want) → sees (w ∷ ws) a ≡ refused a.line Term
    misplaced ws =
        ⊎_elim (λ lt. met w ws a lt ∙ ap (λ o. next o a.line (after a.crowd w ws a.line (map said (drop 1 (rows_of a))))) (h lt))
        (λ ge. rw (drop_all 0 (rows_of a) ge) refl) (cases_lt 0 (length (rows_of a)))

more_is : (k n : ℕ) → n + k ≡ more k n
more_is zero n = omega arith
more_is (suc k) n = (let q : n + suc k ≡ suc (n + k) = omega arith in q) ∙ ap suc (more_is k n)

-- the place of the i-th child is filled, and then those of the rest
pub onward : (n : ℕ) (cs : List ChildRow) (i : ℕ) (d : ChildRow) {a b : Walker} {r : Verdict ShapeFault} → i < length cs → Moves (want (sort_of (get_or cs i d).sort) (n + (get_or cs i d).names) ∷ []) a b r
    → (ws : List Want) → sees (below n (map child_of (drop i cs)) ++ ws) a ≡ and_then r (sees (below n (map child_of (drop (i + 1) cs)) ++ ws) b)
onward n cs i d {a} h m ws =
    let rest = below n (map child_of (drop (i + 1) cs)) in
    ap (λ x. sees (below n (map child_of x) ++ ws) a) (drop_more cs i d h)
    ∙ ap (λ k. sees (want (sort_of (get_or cs i d).sort) k ∷ (rest ++ ws)) a) (sym (more_is (get_or cs i d).names n))
    ∙ m.seen (rest ++ ws)

-- the exit of a `?`
pub out : {vs : List Want} {a b : Walker} {e : At ShapeFault} (r : Verdict ShapeFault) → IsErrAnd r (λ y. y ≡ e) → Moves vs a b (Err e) → Moves vs a b r
out r h m = let p = err_from_is_err_and r h in rw (p.1, p.2) m

-- no child stands under more than two names more
two : (k : Kind) → list_all (λ (c : Child). leb c.names 2) (table k).children ≡ true
two Variable = refl
two Truth = refl
two Numeral = refl
two Successor = refl
two UnitK = refl
two Instance = refl
two Function = refl
two Handler = refl
two Case = refl
two Nil = refl
two If = refl
two Match = refl
two Absurd = refl
two Apply = refl
two Val = refl
two Call = refl
two Let = refl
two LetRec = refl
two With = refl

at_most : (cs : List Child) (i : ℕ) → list_all (λ (c : Child). leb c.names 2) cs ≡ true → (get_or cs i (under 0 expr)).names ≤ 2
at_most [] i h = omega arith
at_most (c ∷ cs) zero h = leb-true _ _ (and_parts (leb c.names 2) _ h).0
at_most (c ∷ cs) (suc i) h = at_most cs i (and_parts (leb c.names 2) _ h).1

pub few : (k : Kind) (cs : List ChildRow) (i : ℕ) (d : ChildRow) → map child_of cs ≡ (table k).children → i < length cs → (get_or cs i d).names ≤ 2
few k cs i d e h = omega (arith, ap (λ (c : Child). c.names) (sym (get_or-map child_of cs i d (under 0 expr) h) ∙ ap (λ xs. get_or xs i (under 0 expr)) e), at_most (table k).children i (two k))

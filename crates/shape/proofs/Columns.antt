-- Tidiness by columns, and the parts of a term by row.
use Rattle.std.proofs.Common.{◌≡◌, ℕ, zero, suc, ◌<◌, ◌≤◌, true, false, List, [], ◌∷◌, map, length, get_or, Some, sym, refl, ap, ◌∙◌, arith}
use Rattle.eff.specs.Sorts.{expr, list, comp}
use Rattle.eff.specs.Kinds.{number, kinded}
use Rattle.eff.specs.Syntax.{var, truth, num, succ, unit, inst, fn, handler, case, nil, if, match, absurd as absurd_of, apply, val, call, bind, rec, handle}
use Rattle.eff.specs.declared.kind.Kind.{Kind}
use Rattle.eff.specs.declared.kind.Kind.TheVariants as k
use Rattle.eff.proofs.KindNumbers.{numbers}
use Rattle.sheet.specs.declared.rows.PartRow.{PartRow}
use Rattle.sheet.specs.Rows.{part_of}
use Rattle.shape.specs.Entries.{said, Tidy, AllTidy}

-- the columns that a part of each kind can have: a truth is 0 or 1, and a column without a use is 0
abbrev pub Columns : Kind → ℕ → ℕ → Type 0
Columns k.Variable a b = b ≡ 0
Columns k.Truth a b = (a ≤ 1) × (b ≡ 0)
Columns k.Numeral a b = b ≡ 0
Columns k.Successor a b = (a ≡ 0) × (b ≡ 0)
Columns k.Unit a b = (a ≡ 0) × (b ≡ 0)
Columns k.Instance a b = b ≡ 0
Columns k.Function a b = b ≡ 0
Columns k.Handler a b = b ≡ 0
Columns k.Case a b = Unit {0}
Columns k.Nil a b = (a ≡ 0) × (b ≡ 0)
Columns k.If a b = (a ≡ 0) × (b ≡ 0)
Columns k.Match a b = (a ≡ 0) × (b ≡ 0)
Columns k.Absurd a b = (a ≡ 0) × (b ≡ 0)
Columns k.Apply a b = (a ≡ 0) × (b ≡ 0)
Columns k.Val a b = (a ≡ 0) × (b ≡ 0)
Columns k.Call a b = Unit {0}
Columns k.Let a b = (a ≡ 0) × (b ≡ 0)
Columns k.LetRec a b = b ≡ 0
Columns k.With a b = (a ≡ 0) × (b ≡ 0)

columned : (k : Kind) (a b : ℕ) → Columns k a b → Tidy (record { kind = number k; a = a; b = b })
columned k.Variable a b h = record { sort = expr; term = var a; first = ap (λ y. record { kind = 0; a = a; b = y }) h }
columned k.Truth zero b h = record { sort = expr; term = truth false; first = ap (λ y. record { kind = 1; a = 0; b = y }) h.1 }
columned k.Truth (suc zero) b h = record { sort = expr; term = truth true; first = ap (λ y. record { kind = 1; a = 1; b = y }) h.1 }
columned k.Truth (suc (suc a)) b h = absurd (omega (arith, h.0))
columned k.Numeral a b h = record { sort = expr; term = num a; first = ap (λ y. record { kind = 2; a = a; b = y }) h }
columned k.Successor a b h = record { sort = expr; term = succ unit; first = ap (λ x. record { kind = 3; a = x; b = b }) h.0 ∙ ap (λ y. record { kind = 3; a = 0; b = y }) h.1 }
columned k.Unit a b h = record { sort = expr; term = unit; first = ap (λ x. record { kind = 4; a = x; b = b }) h.0 ∙ ap (λ y. record { kind = 4; a = 0; b = y }) h.1 }
columned k.Instance a b h = record { sort = expr; term = inst a; first = ap (λ y. record { kind = 5; a = a; b = y }) h }
columned k.Function a b h = record { sort = expr; term = fn a (val unit); first = ap (λ y. record { kind = 6; a = a; b = y }) h }
columned k.Handler a b h = record { sort = expr; term = handler a (val unit) nil; first = ap (λ y. record { kind = 7; a = a; b = y }) h }
columned k.Case a b h = record { sort = list; term = case a b unit (val unit) nil; first = refl }
columned k.Nil a b h = record { sort = list; term = nil; first = ap (λ x. record { kind = 9; a = x; b = b }) h.0 ∙ ap (λ y. record { kind = 9; a = 0; b = y }) h.1 }
columned k.If a b h = record { sort = comp; term = if unit (val unit) (val unit); first = ap (λ x. record { kind = 10; a = x; b = b }) h.0 ∙ ap (λ y. record { kind = 10; a = 0; b = y }) h.1 }
columned k.Match a b h = record { sort = comp; term = match unit (val unit) (val unit); first = ap (λ x. record { kind = 11; a = x; b = b }) h.0 ∙ ap (λ y. record { kind = 11; a = 0; b = y }) h.1 }
columned k.Absurd a b h = record { sort = comp; term = absurd_of unit; first = ap (λ x. record { kind = 12; a = x; b = b }) h.0 ∙ ap (λ y. record { kind = 12; a = 0; b = y }) h.1 }
columned k.Apply a b h = record { sort = comp; term = apply unit unit; first = ap (λ x. record { kind = 13; a = x; b = b }) h.0 ∙ ap (λ y. record { kind = 13; a = 0; b = y }) h.1 }
columned k.Val a b h = record { sort = comp; term = val unit; first = ap (λ x. record { kind = 14; a = x; b = b }) h.0 ∙ ap (λ y. record { kind = 14; a = 0; b = y }) h.1 }
columned k.Call a b h = record { sort = comp; term = call a b unit unit (val unit); first = refl }
columned k.Let a b h = record { sort = comp; term = bind (val unit) (val unit); first = ap (λ x. record { kind = 16; a = x; b = b }) h.0 ∙ ap (λ y. record { kind = 16; a = 0; b = y }) h.1 }
columned k.LetRec a b h = record { sort = comp; term = rec a (val unit) (val unit); first = ap (λ y. record { kind = 17; a = a; b = y }) h }
columned k.With a b h = record { sort = comp; term = handle unit (val unit); first = ap (λ x. record { kind = 18; a = x; b = b }) h.0 ∙ ap (λ y. record { kind = 18; a = 0; b = y }) h.1 }

-- a row whose kind has a number is tidy by its columns
pub tidy_row : (r : PartRow) (k : Kind) → kinded r.kind ≡ Some k → Columns k r.a r.b → Tidy (said r)
tidy_row r k q h =
    let d = columned k r.a r.b h in
    record { sort = d.sort; term = d.term; first = ap (λ n. record { kind = n; a = r.a; b = r.b }) (sym (numbers.kind_number r.kind k q)) ∙ d.first }

-- rows are tidy where each is
pub all_tidy : (rs : List PartRow) → ((i : ℕ) → i < length rs → Tidy (said (get_or rs i (part_of [])))) → AllTidy (map said rs)
all_tidy [] h = tt
all_tidy (r ∷ rs) h = (h 0 (omega arith), all_tidy rs (λ i l. h (suc i) (omega (arith, l))))

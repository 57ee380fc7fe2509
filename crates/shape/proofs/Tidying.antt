-- Rows in range are tidy.
use Rattle.std.proofs.Common.{ℕ, [], get_or, arith}
use Rattle.eff.specs.declared.kind.Kind.{Kind}
use Rattle.eff.specs.declared.kind.Kind.TheVariants as k
use Rattle.sheet.specs.Rows.{Listing, part_of}
use Rattle.table.specs.Ranges as ranges
use Rattle.table.specs.Ranges.{AllInRange}
use Rattle.shape.specs.Faults.{Tidied}
use Rattle.shape.proofs.Columns.{Columns, tidy_row, all_tidy}

columned : (l : Listing) (kind : Kind) (a b : ℕ) → ranges.Columns l kind a b → Columns kind a b
columned l k.Variable a b h = h.1
columned l k.Truth a b h = (omega (arith, h.0), h.1)
columned l k.Numeral a b h = h.1
columned l k.Successor a b h = h
columned l k.Unit a b h = h
columned l k.Instance a b h = h.1
columned l k.Function a b h = h.1
columned l k.Handler a b h = h.1
columned l k.Case a b h = tt
columned l k.Nil a b h = h
columned l k.If a b h = h
columned l k.Match a b h = h
columned l k.Absurd a b h = h
columned l k.Apply a b h = h
columned l k.Val a b h = h
columned l k.Call a b h = tt
columned l k.Let a b h = h
columned l k.LetRec a b h = h.1
columned l k.With a b h = h

pub tidied : (l : Listing) → AllInRange l → Tidied l
tidied l h =
    all_tidy l.parts (λ i lt.
    let r = h.parts i lt in
    tidy_row (get_or l.parts i (part_of [])) r.kind r.numbered (columned l r.kind _ _ r.columns))

-- How the rows of a sheet are read as a labelled term.
use Rattle.std.specs.Prelude.{◌≡◌, ℕ, zero, suc, ◌+◌, List, [], ◌∷◌, ◌++◌, map, length, drop, slice_index_or, Option}
use Rattle.std.specs.Option.{unwrap_or}
use Rattle.eff.specs.Sorts.{Sort}
use Rattle.eff.specs.Types.{Dirty}
use Rattle.eff.specs.Tables.{type}
use Rattle.eff.specs.Kinds.{kinded, names, number}
use Rattle.eff.specs.Syntax.{flatten}
use Rattle.eff.specs.Labels.{Labelled, erase, columns}
use Rattle.eff.specs.declared.part.Part.{Part}
use Rattle.eff.specs.declared.kind.Kind.{Kind}
use Rattle.eff.specs.declared.kind.Kind.TheVariants.{Nil}
use Rattle.sheet.specs.declared.rows.PartRow.{PartRow}
use Rattle.sheet.specs.Rows.{Listing, part_of}
use Rattle.table.specs.Meant.{tables_of}

-- What a row of the parts says: the number of its kind, its columns, and its claim.
pub record Entry : Type 0 where
  pub kind : ℕ
  pub a : ℕ
  pub b : ℕ
  pub claim : Dirty

-- a part with its claim
abbrev pub labelled : Part → Dirty → Entry
labelled p C = record { kind = number p.kind; a = p.a; b = p.b; claim = C }

-- parts with their claims
abbrev pub entries : List Part → List Dirty → List Entry
entries [] cs = []
entries (p ∷ ps) [] = []
entries (p ∷ ps) (C ∷ cs) = labelled p C ∷ entries ps cs

abbrev pub entries_of : {s : Sort} → Labelled s → List Entry
entries_of t = entries (flatten (erase t)) (columns t)

-- what a row claims, its type by number
abbrev pub claim_of : Listing → PartRow → Dirty
claim_of l p = (type (tables_of l) p.ty, p.dirt)

abbrev pub entry : Listing → PartRow → Entry
entry l p = record { kind = p.kind; a = p.a; b = p.b; claim = claim_of l p }

-- the row of number r
abbrev pub row : Listing → ℕ → PartRow
row l r = slice_index_or l.parts r (part_of [])

-- these rows are those of the labelled term
pub record RowsOf (l : Listing) (s : Sort) (t : Labelled s) (ps : List PartRow) : Type 0 where
  pub reads : map (entry l) ps ≡ entries_of t

-- the rows from number r on begin with those of the labelled term
pub record Placed (l : Listing) (s : Sort) (r : ℕ) (t : Labelled s) : Type 0 where
  pub rest : List Entry
  pub reads : map (entry l) (drop r l.parts) ≡ entries_of t ++ rest

-- a number without a kind stands for nil; a part in range has none such
abbrev pub kind_or : Option Kind → Kind
kind_or o = unwrap_or o Nil

-- how many children a part of this kind has
abbrev pub arity : ℕ → ℕ
arity n = length (names (kind_or (kinded n)))

-- how many parts of these kinds n terms take
abbrev pub extent : ℕ → List ℕ → ℕ
extent zero ks = 0
extent (suc n) [] = 0
extent (suc n) (k ∷ ks) = suc (extent (arity k + n) ks)

abbrev pub kind_of : PartRow → ℕ
kind_of p = p.kind

-- the number of the part after the term that begins at the part r
unfoldable pub end_of : Listing → ℕ → ℕ
end_of l r = r + extent 1 (map kind_of (drop r l.parts))

-- Parts as a sheet has them, and as terms have them.
use Rattle.std.specs.Prelude.{◌≡◌, ℕ, List, [], ◌∷◌, map}
use Rattle.eff.specs.Sorts.{Sort}
use Rattle.eff.specs.Kinds.{number}
use Rattle.eff.specs.Syntax.{head, Term, flatten}
use Rattle.eff.specs.declared.part.Part.{Part}
use Rattle.sheet.specs.declared.rows.PartRow.{PartRow}

-- What is said of a part without its claim: the number of its kind and its two columns.
pub record Entry : Type 0 where
  pub kind : ℕ
  pub a : ℕ
  pub b : ℕ

-- what a row says of its part
abbrev pub said : PartRow → Entry
said r = record { kind = r.kind; a = r.a; b = r.b }

-- what is said of a term's part
abbrev pub written : Part → Entry
written p = record { kind = number p.kind; a = p.a; b = p.b }

-- a term's parts in order
abbrev pub entries : {s : Sort} → Term s → List Entry
entries t = map written (flatten t)

-- The entry is the first of some term: its kind has a number, a truth is 0 or 1, and a column that its kind has no use for is 0.
pub record Tidy (e : Entry) : Type 0 where
  pub sort : Sort
  pub term : Term sort
  pub first : e ≡ written (head term)

abbrev pub AllTidy : List Entry → Type 0
AllTidy [] = Unit {0}
AllTidy (e ∷ es) = Tidy e × AllTidy es

-- What is wrong with a sheet's parts as a term.
use Rattle.std.specs.Prelude.{◌≡◌, ℕ, suc, ◌<◌, List, ◌++◌, map, take, slice_index}
use Rattle.eff.specs.Sorts.{comp}
use Rattle.eff.specs.Syntax.{Term}
use Rattle.sheet.specs.Rows.{Listing}
use Rattle.sheet.specs.Faults.{parts, count, row_line}
use Rattle.eff.specs.Scope.{Scoped}
use Rattle.shape.specs.Names.{names}
use Rattle.shape.specs.Entries.{Entry, said, entries, AllTidy}

-- some closed computation begins with these parts, whatever its size and the names that its parts stand under
abbrev pub Opens : List Entry → Type 0
Opens es = (t : Term comp) × (rest : List Entry) × Scoped 0 t × (entries t ≡ es ++ rest)

-- what the sheet says of its parts
abbrev pub saying : Listing → List Entry
saying l = map said l.parts

-- every part can be the first of some term
abbrev pub Tidied : Listing → Type 0
Tidied l = AllTidy (saying l)

module _ (l : Listing) where
  -- the sheet's parts are those of this computation
  abbrev pub Reads : Term comp → Type 0
  Reads t = entries t ≡ saying l

  -- the sheet's parts are one closed computation
  abbrev pub Whole : Type 0
  Whole = (t : Term comp) × Scoped 0 t × Reads t

  -- the sheet's parts are those of one computation at most
  abbrev pub OneTerm : Type 0
  OneTerm = (t u : Term comp) → Reads t → Reads u → t ≡ u

  -- Some closed computation begins with the parts before this one, and none with this one too; or one begins with all the parts, but they are
  -- none, at the closing line.
  pub data TermFault (line : ℕ) : Type 0 where
    misplaced : (i : ℕ) → i < count l parts → Opens (take i (saying l)) → (Opens (take (suc i) (saying l)) → ⊥) → line ≡ row_line (count l) parts i → TermFault line
    lacking : Opens (saying l) → (Whole → ⊥) → line ≡ row_line (count l) parts (count l parts) → TermFault line

  -- a part that stands under more than 256 names
  pub data NamesFault (line : ℕ) : Type 0 where
    crowded : (t : Term comp) → Reads t → (i : ℕ) → 256 < slice_index (names 0 t) i → line ≡ row_line (count l) parts i → NamesFault line

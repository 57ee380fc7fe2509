-- What a walker has before it, and what its moves keep.
use Rattle.std.specs.Prelude.{◌≡◌, ℕ, ◌+◌, ◌<◌, ◌≤◌, List, [], ◌++◌, map, length, drop, Some, None, Option, slice_index_or}
use Rattle.eff.specs.Kinds.{table}
use Rattle.eff.specs.declared.kind.Kind.{Kind}
use Rattle.sheet.specs.declared.rows.PartRow.{PartRow}
use Rattle.sheet.specs.Rows.{part_of}
use Rattle.shape.specs.declared.walker.Walker.{Walker}
use Rattle.shape.specs.Entries.{Entry, said}
use Rattle.fault.specs.declared.shape.ShapeFault.{ShapeFault}
use Rattle.fault.specs.Search.{Verdict, and_then}
use Rattle.shape.specs.Answer.{Want, standing, below, noted, shape}

abbrev pub rows_of : Walker → List PartRow
rows_of w = w.rest.now

abbrev pub rest : Walker → List Entry
rest w = map said (rows_of w)

-- the row that comes next
abbrev pub row : Walker → PartRow
row w = slice_index_or (rows_of w) 0 (part_of [])

-- the verdict from here on, with these places to fill
abbrev pub sees : List Want → Walker → Verdict ShapeFault
sees ws w = shape w.crowd ws w.line (rest w)

-- what `standing` answers: the kind of the next part, if it fills the place
abbrev pub Stands : Want → Walker → Option Kind → Type 0
Stands p w None = 0 < length (rows_of w) → standing p (said (row w)) ≡ None
Stands p w (Some k) = (0 < length (rows_of w)) × (standing p (said (row w)) ≡ Some (below p.names (table k).children))

-- a part that stands under n names was taken
pub record Took (n : ℕ) (a b : Walker) : Type 0 where
  pub rows : rows_of b ≡ drop 1 (rows_of a)
  pub line : b.line ≡ a.line + 1
  pub crowd : b.crowd ≡ noted a.crowd n a.line

-- the parts that fill these places stand between the two walkers
pub record Moves (vs : List Want) (a b : Walker) (r : Verdict ShapeFault) : Type 0 where
  pub fewer : length (rows_of b) ≤ length (rows_of a)
  pub onward : a.line ≤ b.line
  pub seen : (ws : List Want) → sees (vs ++ ws) a ≡ and_then r (sees ws b)

-- The heights of types by number, each from those of smaller numbers.
use Rattle.std.specs.Prelude.{ℕ, ◌+◌, max, cond, List, map, ◌==◌, slice_index_or}
use Rattle.eff.specs.Types.{unit}
use Rattle.eff.specs.Tables.{numbered, grounds}
use Rattle.sheet.specs.declared.rows.TypeRow.{TypeRow}
use Rattle.table.specs.Meant.{listed_type}
use Rattle.table.specs.Ranges.{height}

-- a row's height, hs being those of the smaller numbers
abbrev pub height_above : List ℕ → TypeRow → ℕ
height_above hs t = cond (t.kind == 5) 1 (1 + max (slice_index_or hs t.a 1) (slice_index_or hs t.b 1))

-- the height of the type of number n
unfoldable pub height_at : List TypeRow → ℕ → ℕ
height_at ts n = height (slice_index_or (numbered grounds (map listed_type ts)) n unit)

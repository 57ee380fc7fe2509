-- The lines of a sheet in form, and what is wrong with its sizes and its numbering.
use Rattle.std.specs.Prelude.{◌≡◌, ℕ, zero, suc, ◌+◌, ◌<◌, ◌⊎◌, [], length, slice_index_or}
use Rattle.sheet.specs.declared.rows.Operation.{Operation}
use Rattle.sheet.specs.declared.tables.Table.{Table as TableName}
use Rattle.sheet.specs.declared.tables.Table.TheVariants.{Operations, Instances, Types, Parts}
use Rattle.sheet.specs.Rows.{Listing, operation_of, instance_of, type_of, part_of, first_type}

pub data Which : Type 0 where
  operations : Which
  instances : Which
  types : Which
  parts : Which

abbrev pub which : TableName → Which
which Operations = operations
which Instances = instances
which Types = types
which Parts = parts

-- how many rows a table may have
abbrev pub room : Which → ℕ
room operations = 32
room instances = 16
room types = 252
room parts = 1024

-- The following is by how many rows each table has.
module _ (n : Which → ℕ) where
  -- the line of a table's names: each table before it takes a line of names, its rows and an empty line
  abbrev pub names_line : Which → ℕ
  names_line operations = 1
  names_line instances = 1 + (n operations + 2)
  names_line types = 1 + (n operations + 2) + (n instances + 2)
  names_line parts = 1 + (n operations + 2) + (n instances + 2) + (n types + 2)

  -- the line of a table's row, the first being 0; past the last row that of the empty line
  abbrev pub row_line : Which → ℕ → ℕ
  row_line w r = names_line w + 1 + r

  -- a table has more rows than it may, at the first row too many; or there is no part, at the sheet's last line
  pub data SizeFault (line : ℕ) : Type 0 where
    many : (w : Which) → room w < n w → line ≡ row_line w (room w) → SizeFault line
    bare : n parts ≡ 0 → line ≡ row_line parts 0 → SizeFault line

abbrev pub count : Listing → Which → ℕ
count l operations = length l.operations
count l instances = length l.instances
count l types = length l.types
count l parts = length l.parts

module _ (l : Listing) where
  abbrev operation : ℕ → Operation
  operation r = slice_index_or l.operations r (operation_of [])

  -- the row is the next: operations run through each effect from 0, effects from 0; instances and parts run from 0, types from the first listed
  abbrev pub InTurn : Which → ℕ → Type 0
  InTurn operations zero = ((operation 0).effect ≡ 0) × ((operation 0).op ≡ 0)
  InTurn operations (suc r) =
      (((operation (suc r)).effect ≡ (operation r).effect) × ((operation (suc r)).op ≡ (operation r).op + 1))
      ⊎ (((operation (suc r)).effect ≡ (operation r).effect + 1) × ((operation (suc r)).op ≡ 0))
  InTurn instances r = (slice_index_or l.instances r (instance_of [])).number ≡ r
  InTurn types r = (slice_index_or l.types r (type_of [])).number ≡ first_type + r
  InTurn parts r = (slice_index_or l.parts r (part_of [])).number ≡ r

  -- a row is not the next
  pub data TurnFault (line : ℕ) : Type 0 where
    turn : (w : Which) (r : ℕ) → r < count l w → (InTurn w r → ⊥) → line ≡ row_line (count l) w r → TurnFault line

-- The lines of a sheet's rows are counted by its line feeds.
use Rattle.std.specs.Prelude.{◌≡◌, ℕ, ◌+◌, ◌≤◌, List, ◌++◌, map, take}
use Rattle.sheet.specs.Text.{Form, Table, forms, rows_text, table_text, Writes, feeds}
use Rattle.sheet.specs.Text as form
use Rattle.sheet.specs.Rows.{Listing, sheet_of, operation_values, instance_values, type_values, part_values}
use Rattle.sheet.specs.Faults.{Which, operations, instances, types, parts, count, row_line}

-- the text of a table before its row of number r: its line of names and the rows before that one
abbrev pub opening : Form → Table → ℕ → List ℕ
opening f t r = f.names ++ rows_text (take r t)

-- the text of a sheet before the row of number r of a table
abbrev pub before : Listing → Which → ℕ → List ℕ
before l operations r = opening form.operations (map operation_values l.operations) r
before l instances r = table_text form.operations (map operation_values l.operations) ++ opening form.instances (map instance_values l.instances) r
before l types r =
    table_text form.operations (map operation_values l.operations) ++ (table_text form.instances (map instance_values l.instances)
    ++ opening form.types (map type_values l.types) r)
before l parts r =
    table_text form.operations (map operation_values l.operations) ++ (table_text form.instances (map instance_values l.instances)
    ++ (table_text form.types (map type_values l.types) ++ opening form.parts (map part_values l.parts) r))

-- The line of a row, and of the empty line after the last, is one more than the line feeds before it.
abbrev pub LinesAreCounted : Type 0
LinesAreCounted = (bs : List ℕ) (l : Listing) → Writes form.forms bs (sheet_of l) → (w : Which) (r : ℕ) → r ≤ count l w
    → row_line (count l) w r ≡ 1 + feeds (before l w r)

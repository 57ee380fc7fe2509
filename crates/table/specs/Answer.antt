-- What is found of a sheet's tables: that all rows are in range, or the first refusal with its line.
use Rattle.std.specs.Prelude.{◌≡◌, ℕ, List, Ok, Err, Result}
use Rattle.fault.specs.declared.at.At.{At}
use Rattle.fault.specs.declared.text.TextFault.{TextFault}
use Rattle.fault.specs.declared.table.TableFault.{TableFault}
use Rattle.fault.specs.declared.table.TableFault.TheVariants.{Text, Column, Part}
use Rattle.fault.specs.Upward.{in_table}
use Rattle.fault.specs.Search.{Verdict, and_then, search, First, NoLine}
use Rattle.sheet.specs.declared.tables.Tables.{Tables}
use Rattle.sheet.specs.Rows.{Listing, first_type}
use Rattle.table.specs.declared.ranged.Ranged.{Ranged}
use Rattle.sheet.specs.Faults.{operations, instances, types, parts, count, row_line}
use Rattle.sheet.specs.Answer.{Contents, contents}
use Rattle.sheet.specs.Answer as text
use Rattle.table.specs.Ranges.{AllInRange, ColumnFault, PartFault}
use Rattle.table.specs.Tests.{operation_ok, instance_ok, type_ok, part_ok}

module _ (l : Listing) where
  -- the first three tables, then the parts
  abbrev pub ranged : Verdict TableFault
  ranged =
      and_then (search Column (λ n o. operation_ok o) (row_line (count l) operations 0) 0 l.operations)
      (and_then (search Column (λ n i. instance_ok l i) (row_line (count l) instances 0) 0 l.instances)
      (and_then (search Column (λ n t. type_ok l n t) (row_line (count l) types 0) first_type l.types)
      (search Part (λ n p. part_ok l p) (row_line (count l) parts 0) 0 l.parts)))

  abbrev pub judged : Result Listing (At TableFault)
  judged = and_then ranged (Ok l)

  -- what a refusal of the tables means
  abbrev pub Refused : ℕ → TableFault → Type 0
  Refused line (Text f) = ⊥
  Refused line Column = First (ColumnFault l) line
  Refused line Part = NoLine (ColumnFault l) × First (PartFault l) line

  -- what a verdict on these rows means
  abbrev pub Judged : Result Listing (At TableFault) → Type 0
  Judged (Ok m) = (m ≡ l) × AllInRange l
  Judged (Err e) = Refused e.line e.fault

abbrev pub raised : Result Listing (At TextFault) → Result Listing (At TableFault)
raised (Ok l) = judged l
raised (Err e) = Err (in_table e)

-- the rows of these bytes, or the first refusal of the text or the tables
abbrev pub answer : List ℕ → Result Listing (At TableFault)
answer bs = raised (text.answer bs)

-- what is answered of these tables hands them on
abbrev pub Kept : Tables → Result Ranged (At TableFault) → Type 0
Kept t (Ok x) = x.tables ≡ t
Kept t (Err e) = Unit {0}

-- what was answered, with whole arrays
abbrev pub shown : Result Ranged (At TableFault) → Result Contents (At TableFault)
shown (Ok t) = Ok (contents t.tables)
shown (Err e) = Err e

-- what was answered, by the rows listed
abbrev pub told : Result Ranged (At TableFault) → Result Listing (At TableFault)
told (Ok t) = Ok (text.listing t.tables)
told (Err e) = Err e

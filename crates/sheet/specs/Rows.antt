-- The rows of the four tables, by column, and the values that they are written with.
use Rattle.std.specs.Prelude.{ℕ, ◌-◌, cond, List, [], ◌∷◌, map, None, Option, nat_lt, slice_get, slice_index, slice_index_or}
use Rattle.sheet.specs.declared.rows.Operation.{Operation}
use Rattle.sheet.specs.declared.rows.Instance.{Instance}
use Rattle.sheet.specs.declared.rows.TypeRow.{TypeRow}
use Rattle.sheet.specs.declared.rows.PartRow.{PartRow}
use Rattle.sheet.specs.Text.{Row, Sheet}

abbrev pub operation_values : Operation → Row
operation_values o = o.effect ∷ o.op ∷ o.takes ∷ o.gives ∷ []

abbrev pub instance_values : Instance → Row
instance_values i = i.number ∷ i.effect ∷ []

abbrev pub type_values : TypeRow → Row
type_values t = t.number ∷ t.kind ∷ t.a ∷ t.b ∷ t.d ∷ t.e ∷ []

abbrev pub part_values : PartRow → Row
part_values p = p.number ∷ p.kind ∷ p.a ∷ p.b ∷ p.ty ∷ p.dirt ∷ []

-- the row with these values, a missing one read as 0
abbrev pub operation_of : Row → Operation
operation_of r = record { effect = slice_index r 0; op = slice_index r 1; takes = slice_index r 2; gives = slice_index r 3 }

abbrev pub instance_of : Row → Instance
instance_of r = record { number = slice_index r 0; effect = slice_index r 1 }

abbrev pub type_of : Row → TypeRow
type_of r = record { number = slice_index r 0; kind = slice_index r 1; a = slice_index r 2; b = slice_index r 3; d = slice_index r 4; e = slice_index r 5 }

abbrev pub part_of : Row → PartRow
part_of r = record { number = slice_index r 0; kind = slice_index r 1; a = slice_index r 2; b = slice_index r 3; ty = slice_index r 4; dirt = slice_index r 5 }

abbrev pub instance_number : Instance → ℕ
instance_number i = i.number

abbrev pub type_number : TypeRow → ℕ
type_number t = t.number

abbrev pub part_number : PartRow → ℕ
part_number p = p.number

-- the number of the first listed type; the ground types have the numbers below it
abbrev pub first_type : ℕ
first_type = 4

-- the row of a type's number: a ground type has none, nor has a number past the rows
abbrev pub type_row : List TypeRow → ℕ → Option TypeRow
type_row ts n = cond (nat_lt n first_type) None (slice_get ts (n - first_type))

-- the rows of a sheet
pub record Listing : Type 0 where
  pub operations : List Operation
  pub instances : List Instance
  pub types : List TypeRow
  pub parts : List PartRow

-- no row in any table
abbrev pub no_rows : Listing
no_rows = record { operations = []; instances = []; types = []; parts = [] }

-- as tables of values
abbrev pub sheet_of : Listing → Sheet
sheet_of l = map operation_values l.operations ∷ map instance_values l.instances ∷ map type_values l.types ∷ map part_values l.parts ∷ []

abbrev pub listing_of : Sheet → Listing
listing_of s =
    record {
      operations = map operation_of (slice_index_or s 0 []);
      instances = map instance_of (slice_index_or s 1 []);
      types = map type_of (slice_index_or s 2 []);
      parts = map part_of (slice_index_or s 3 []);
    }

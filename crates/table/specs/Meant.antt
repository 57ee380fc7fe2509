-- The tables of core Eff that the rows of a sheet declare.
use Rattle.std.specs.Prelude.{ℕ, map}
use Rattle.eff.specs.Tables.{Tables, ListedType}
use Rattle.eff.specs.Tables as eff
use Rattle.sheet.specs.declared.rows.Operation.{Operation}
use Rattle.sheet.specs.declared.rows.Instance.{Instance}
use Rattle.sheet.specs.declared.rows.TypeRow.{TypeRow}
use Rattle.sheet.specs.Rows.{Listing}

abbrev pub declaration : Operation → eff.Operation
declaration o = record { effect = o.effect; op = o.op; takes = o.takes; gives = o.gives }

abbrev pub effect_of : Instance → ℕ
effect_of i = i.effect

abbrev pub listed_type : TypeRow → ListedType
listed_type t = record { kind = t.kind; a = t.a; b = t.b; d = t.d; e = t.e }

abbrev pub tables_of : Listing → Tables
tables_of l = record { operations = map declaration l.operations; instances = map effect_of l.instances; types = map listed_type l.types }

-- What a row of the parts claims, its type by number.
use Rattle.sheet.specs.declared.rows.PartRow.{PartRow}
use Rattle.sheet.specs.declared.dirty.Dirty.{Dirty}

abbrev pub dirty_of : PartRow → Dirty
dirty_of p = record { ty = p.ty; dirt = p.dirt }

-- What is read of a sheet as far as the shape of its parts.
use Rattle.std.specs.Prelude.{ℕ, List, Ok, Err, Result}
use Rattle.fault.specs.declared.at.At.{At}
use Rattle.fault.specs.declared.table.TableFault.{TableFault}
use Rattle.fault.specs.declared.shape.ShapeFault.{ShapeFault}
use Rattle.fault.specs.Upward.{in_shape}
use Rattle.fault.specs.Search.{and_then}
use Rattle.sheet.specs.Rows.{Listing}
use Rattle.sheet.specs.Answer.{Contents, contents, listing}
use Rattle.table.specs.Answer as table
use Rattle.shape.specs.declared.shaped.Shaped.{Shaped}
use Rattle.shape.specs.Answer.{answer}

abbrev pub raised : Result Listing (At TableFault) → Result Listing (At ShapeFault)
raised (Ok l) = and_then (answer l) (Ok l)
raised (Err e) = Err (in_shape e)

-- the rows of these bytes, or the first refusal of the text, the tables or the shape
abbrev pub read_as : List ℕ → Result Listing (At ShapeFault)
read_as bs = raised (table.answer bs)

-- what was read, with whole arrays
abbrev pub shown : Result Shaped (At ShapeFault) → Result Contents (At ShapeFault)
shown (Ok s) = Ok (contents s.ranged.tables)
shown (Err e) = Err e

-- what was read, by the rows listed
abbrev pub told : Result Shaped (At ShapeFault) → Result Listing (At ShapeFault)
told (Ok s) = Ok (listing s.ranged.tables)
told (Err e) = Err e

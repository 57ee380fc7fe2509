-- The number and the layer of each fault; an upper layer's fault that holds a lower one has the lower one's.
use Rattle.std.specs.Prelude.{ℕ}
use Rattle.fault.specs.declared.layer.Layer.{Layer}
use Rattle.fault.specs.declared.layer.Layer.TheVariants as layer
use Rattle.fault.specs.declared.text.TextFault.{TextFault}
use Rattle.fault.specs.declared.text.TextFault.TheVariants as text
use Rattle.fault.specs.declared.table.TableFault.{TableFault}
use Rattle.fault.specs.declared.table.TableFault.TheVariants as table
use Rattle.fault.specs.declared.shape.ShapeFault.{ShapeFault}
use Rattle.fault.specs.declared.shape.ShapeFault.TheVariants as shape
use Rattle.fault.specs.declared.claim.ClaimFault.{ClaimFault}
use Rattle.fault.specs.declared.claim.ClaimFault.TheVariants as claim
use Rattle.fault.specs.declared.start.StartFault.{StartFault}
use Rattle.fault.specs.declared.start.StartFault.TheVariants as start
use Rattle.fault.specs.declared.run.RunFault.{RunFault}
use Rattle.fault.specs.declared.run.RunFault.TheVariants as run

abbrev pub text_number : TextFault → ℕ
text_number text.Form = 1
text_number text.Size = 2
text_number text.Turn = 3

abbrev pub table_number : TableFault → ℕ
table_number (table.Text f) = text_number f
table_number table.Column = 4
table_number table.Part = 5

abbrev pub shape_number : ShapeFault → ℕ
shape_number (shape.Table f) = table_number f
shape_number shape.Term = 6
shape_number shape.Names = 7

abbrev pub claim_number : ClaimFault → ℕ
claim_number (claim.Shape f) = shape_number f
claim_number claim.Claim = 8

abbrev pub start_number : StartFault → ℕ
start_number start.Unready = 9

abbrev pub run_number : RunFault → ℕ
run_number (run.Claim f) = claim_number f
run_number (run.Start f) = start_number f

abbrev pub text_layer : TextFault → Layer
text_layer text.Form = layer.Text
text_layer text.Size = layer.Text
text_layer text.Turn = layer.Text

abbrev pub table_layer : TableFault → Layer
table_layer (table.Text f) = text_layer f
table_layer table.Column = layer.Table
table_layer table.Part = layer.Table

abbrev pub shape_layer : ShapeFault → Layer
shape_layer (shape.Table f) = table_layer f
shape_layer shape.Term = layer.Shape
shape_layer shape.Names = layer.Shape

abbrev pub claim_layer : ClaimFault → Layer
claim_layer (claim.Shape f) = shape_layer f
claim_layer claim.Claim = layer.Claim

abbrev pub start_layer : StartFault → Layer
start_layer start.Unready = layer.Start

abbrev pub run_layer : RunFault → Layer
run_layer (run.Claim f) = claim_layer f
run_layer (run.Start f) = start_layer f

-- A fault of a lower layer, whole and at its line, as the layer above gives it; and of a sheet or a start, as a run gives it.
use Rattle.fault.specs.declared.at.At.{At}
use Rattle.fault.specs.declared.text.TextFault.{TextFault}
use Rattle.fault.specs.declared.table.TableFault.{TableFault}
use Rattle.fault.specs.declared.table.TableFault.TheVariants.{Text}
use Rattle.fault.specs.declared.shape.ShapeFault.{ShapeFault}
use Rattle.fault.specs.declared.shape.ShapeFault.TheVariants.{Table}
use Rattle.fault.specs.declared.claim.ClaimFault.{ClaimFault}
use Rattle.fault.specs.declared.claim.ClaimFault.TheVariants.{Shape}
use Rattle.fault.specs.declared.start.StartFault.{StartFault}
use Rattle.fault.specs.declared.run.RunFault.{RunFault}
use Rattle.fault.specs.declared.run.RunFault.TheVariants.{Claim, Start}

abbrev pub in_table : At TextFault → At TableFault
in_table e = record { line = e.line; fault = Text e.fault }

abbrev pub in_shape : At TableFault → At ShapeFault
in_shape e = record { line = e.line; fault = Table e.fault }

abbrev pub in_claim : At ShapeFault → At ClaimFault
in_claim e = record { line = e.line; fault = Shape e.fault }

abbrev pub claim_in_run : At ClaimFault → At RunFault
claim_in_run e = record { line = e.line; fault = Claim e.fault }

abbrev pub start_in_run : At StartFault → At RunFault
start_in_run e = record { line = e.line; fault = Start e.fault }

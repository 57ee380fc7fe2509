use Rattle.std.proofs.Common.{◌≡◌, drop}
use lib.Bits.{bit_or}
use Rattle.table.specs.Tests.{instances_of}
use Rattle.table.proofs.effects.instances_of.Given as goal

abbrev pub invariant-loop-i : goal.invariant-loop-i
invariant-loop-i l = instances_of l.effect 0 l.instance-items ≡ bit_or l.region (instances_of l.effect l.i (drop l.i l.instance-items))

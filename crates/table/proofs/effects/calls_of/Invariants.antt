use Rattle.std.proofs.Common.{◌≡◌, map, drop}
use lib.Bits.{bit_or}
use Rattle.eff.specs.Dirt.{calls_of}
use Rattle.table.specs.Meant.{declaration, effect_of}
use Rattle.table.proofs.effects.calls_of.Given as goal

abbrev pub invariant-loop-i : goal.invariant-loop-i
invariant-loop-i l = calls_of (declaration l.o) 0 (map effect_of l.instance-items) ≡ bit_or l.dirt (calls_of (declaration l.o) l.i (map effect_of (drop l.i l.instance-items)))

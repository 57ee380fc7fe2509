use Rattle.std.proofs.Common.{◌≡◌, map, drop}
use lib.Bits.{bit_or}
use Rattle.eff.specs.Dirt.{calls}
use Rattle.sheet.specs.Answer.{rows_of}
use Rattle.table.specs.Meant.{declaration, effect_of}
use Rattle.table.proofs.effects.calls.Given as goal

abbrev pub invariant-loop-o : goal.invariant-loop-o
invariant-loop-o l = calls (map declaration l.o-items) (map effect_of (rows_of l.tables.instances)) ≡ bit_or l.dirt (calls (map declaration (drop l.o-index l.o-items)) (map effect_of (rows_of l.tables.instances)))

use Rattle.std.proofs.Common.{[], map, ap, ◌∙◌}
use Rattle.eff.specs.Dirt.{calls}
use Rattle.sheet.specs.Answer.{rows_of}
use Rattle.sheet.specs.Rows.{operation_of}
use Rattle.table.specs.Meant.{declaration, effect_of}
use Rattle.table.proofs.Masks.{calls_on, ended, calls_none}
use Rattle.table.proofs.effects.calls.Goals as goal

pub loop-o-preserved : goal.loop-o-preserved
loop-o-preserved c =
    calls_on c.listed-o-items.result.now (rows_of c.args.tables.now.instances) c.loop-o.o-index (operation_of []) c.loop-o-test.true c.loop-o.dirt c.calls_of-dirt.result c.loop-o.invariant c.calls_of-dirt.ensures

pub returns : goal.returns
returns c =
    ended _ _ _ (calls_none c.listed-o-items.result.now (rows_of c.args.tables.now.instances) c.loop-o.o-index c.loop-o-test.false) c.loop-o.invariant
    ∙ ap (λ xs. calls (map declaration xs) (map effect_of (rows_of c.args.tables.now.instances))) c.listed-o-items.ensures.value

use Rattle.std.proofs.Common.{[], ap, ◌∙◌, arith}
use lib.Bits.{bit_or}
use Rattle.std.proofs.lemmas.Bool.{eq-eqb, ne_eqb, cond-true, cond-false}
use Rattle.sheet.specs.Rows.{instance_of}
use Rattle.table.specs.Tests.{instances_of}
use Rattle.table.proofs.Masks.{goes_in, stays_out, ended, instances_more, instances_none}
use Rattle.table.proofs.effects.instances_of.Goals as goal
use Rattle.table.proofs.effects.instances_of.Goals.{then-instance-effect, else-instance-effect}

pub loop-i-preserved : goal.loop-i-preserved
loop-i-preserved c =
    let more = c.loop-i.invariant ∙ ap (bit_or c.loop-i.region) (instances_more c.listed-instance-items.result.now c.loop-i.i (instance_of []) c.loop-i-test.true c.args.effect) in
    elim c.if-instance-effect.branch [
      | then-instance-effect w ↦ goes_in _ _ _ _ _ c.loop-i.i (omega (arith, c.listed-instance-items.ensures.len, c.args.instances.now.within)) more (cond-true _ _ _ (eq-eqb _ _ w.if-instance-effect.true)) w.region-is
      | else-instance-effect w ↦ stays_out _ _ _ _ _ more (cond-false _ _ _ (ne_eqb _ _ w.if-instance-effect.false)) w.region-is
    ]

pub returns : goal.returns
returns c =
    ended _ _ _ (instances_none c.listed-instance-items.result.now c.loop-i.i _ c.loop-i-test.false) c.loop-i.invariant
    ∙ ap (instances_of c.args.effect 0) c.listed-instance-items.ensures.value

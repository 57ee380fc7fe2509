use Rattle.std.proofs.Common.{◌+◌, ◌*◌, [], map, ap, ◌∙◌, arith}
use lib.Bits.{bit_or}
use Rattle.std.proofs.lemmas.Bool.{eq-eqb, ne_eqb, cond-true, cond-false}
use Rattle.eff.specs.Dirt.{calls_of}
use Rattle.sheet.specs.Rows.{instance_of}
use Rattle.table.specs.Meant.{declaration, effect_of}
use Rattle.table.proofs.Masks.{goes_in, stays_out, ended, calls_of_more, calls_of_none}
use Rattle.table.proofs.effects.calls_of.Goals as goal
use Rattle.table.proofs.effects.calls_of.Goals.{then-o-instance, else-o-instance}

pub loop-i-preserved : goal.loop-i-preserved
loop-i-preserved c =
    let more = c.loop-i.invariant ∙ ap (bit_or c.loop-i.dirt) (calls_of_more c.args.o.now c.listed-instance-items.result.now c.loop-i.i (instance_of []) c.loop-i-test.true) in
    elim c.if-o-instance.branch [
      | then-o-instance w ↦
          goes_in _ _ _ _ _ (4 * c.loop-i.i + c.args.o.now.op) (omega (arith, c.requires, c.listed-instance-items.ensures.len, c.args.instances.now.within)) more (cond-true _ _ _ (eq-eqb _ _ w.if-o-instance.true)) w.dirt-is
      | else-o-instance w ↦ stays_out _ _ _ _ _ more (cond-false _ _ _ (ne_eqb _ _ w.if-o-instance.false)) w.dirt-is
    ]

pub returns : goal.returns
returns c =
    ended _ _ _ (calls_of_none c.args.o.now c.listed-instance-items.result.now c.loop-i.i c.loop-i-test.false) c.loop-i.invariant
    ∙ ap (λ xs. calls_of (declaration c.args.o.now) 0 (map effect_of xs)) c.listed-instance-items.ensures.value

use Rattle.std.proofs.Common.{◌∙◌, arith}
use Rattle.step.proofs.Valuing.{value_succ, value_count, value_truth, value_unit, no_value, no_more}
use Rattle.step.proofs.value.worth.Goals as goal

pub returns-in-Numeral : goal.returns-in-Numeral
returns-in-Numeral c = value_count c.args.parts.now c.loop-part.part-index c.loop-part.more c.loop-part-test.true c.in-Numeral.is c.loop-part.invariant.1

pub returns-in-Truth : goal.returns-in-Truth
returns-in-Truth c = c.then_some.ensures ∙ value_truth c.args.parts.now c.loop-part.part-index c.loop-part.more c.loop-part-test.true c.in-Truth.is c.loop-part.invariant.1

pub returns-in-Unit : goal.returns-in-Unit
returns-in-Unit c = c.then_some-in-Unit.ensures ∙ value_unit c.args.parts.now c.loop-part.part-index c.loop-part.more c.loop-part-test.true c.in-Unit.is c.loop-part.invariant.1

pub returns-in_default : goal.returns-in_default
returns-in_default c = no_value c.args.parts.now c.loop-part.part-index c.loop-part.more c.loop-part-test.true c.in_default.not-Successor c.in_default.not-Numeral c.in_default.not-Truth c.in_default.not-Unit c.loop-part.invariant.1

pub loop-part-preserved : goal.loop-part-preserved
loop-part-preserved c = (
  omega arith,
  value_succ c.args.parts.now c.loop-part.part-index c.loop-part.more c.loop-part-test.true c.in-Successor.is c.loop-part.invariant.1,
)

pub returns : goal.returns
returns c = no_more c.args.parts.now c.loop-part.part-index c.loop-part.more c.loop-part-test.false c.loop-part.invariant.1

use Rattle.std.proofs.Common.{None, arith, rules}
use Rattle.step.specs.Spine.{Deeper}
use Rattle.step.proofs.Descending.{goes_on, arrives}
use Rattle.step.proofs.spine.split_at_redex.Goals as goal

pub loop-inner-preserved : goal.loop-inner-preserved
loop-inner-preserved c = (omega (arith, c.in-Some.ensures.fewer), goes_on c.in-Some.ensures.deeper c.loop-inner.invariant.1)

pub returns : goal.returns
returns c =
    let deeper : Deeper c.loop-inner.rest.now None = search rules in
    arrives deeper c.loop-inner.invariant.1 c.split_at.ensures.front c.split_at.ensures.back

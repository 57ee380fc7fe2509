use Rattle.std.proofs.Common.{sym, refl, ap, ◌∙◌, arith}
use Rattle.table.specs.Heights.{height_at}
use Rattle.table.proofs.Nesting.{ground_height, heights_more, all_heights, ones}
use Rattle.table.proofs.heights.Heights.of.Goals as goal

pub invariant_of-heights : goal.invariant_of-heights
invariant_of-heights c = record { room = omega arith; small = λ k. omega (arith, ones 256 k) }

pub loop-t-init : goal.loop-t-init
loop-t-init c = record { next = refl; done = λ k h. ones 256 k ∙ sym (ground_height c.listed-t-items.result.now k h) }

pub loop-t-preserved : goal.loop-t-preserved
loop-t-preserved c =
    let i = c.loop-t.invariant in
    record {
      next = omega arith;
      done = heights_more c.listed-t-items.result.now c.loop-t.t-index c.loop-t.heights.heights c.push.new.self.heights c.loop-t.heights.n c.loop-t-test.true i.next i.done c.push.ensures.same c.push.ensures.next;
    }

pub returns : goal.returns
returns c = λ k.
    all_heights c.listed-t-items.result.now c.loop-t.heights.heights c.loop-t.heights.n (omega (arith, c.loop-t.invariant.next, c.loop-t-test.false)) (λ j h. c.loop-t.invariant.done j (omega (arith, h))) k
    ∙ ap (λ ts. height_at ts k) c.listed-t-items.ensures.value

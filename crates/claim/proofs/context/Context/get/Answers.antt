use Rattle.std.proofs.Common.{◌-◌, ap, sym, ◌∙◌, arith, slice_get}
use Rattle.claim.specs.Context.{forms}
use Rattle.claim.proofs.Scopes.{outwards, at_end, none_in}
use Rattle.claim.proofs.context.Context.get.Goals as goal

pub loop-init : goal.loop-init
loop-init c = ap (slice_get (forms c.args.self.now)) (omega arith)

pub returns-in-Empty : goal.returns-in-Empty
returns-in-Empty c = sym (c.loop.invariant ∙ ap (λ n. slice_get (forms n) (c.args.place - c.loop.counter)) c.in-Empty.is ∙ none_in (c.args.place - c.loop.counter))

pub loop-preserved : goal.loop-preserved
loop-preserved c =
    c.loop.invariant
    ∙ ap (λ n. slice_get (forms n) (c.args.place - c.loop.counter)) c.in-Under.is
    ∙ outwards c.in-Under.field-0 (forms c.in-Under.outer.now) c.args.place c.loop.counter c.loop-test.true

pub returns-in-Empty-names : goal.returns-in-Empty-names
returns-in-Empty-names c =
    sym (c.loop.invariant ∙ ap (λ n. slice_get (forms n) (c.args.place - c.loop.counter)) c.in-Empty-names.is ∙ none_in (c.args.place - c.loop.counter))

pub returns-in-Under-names : goal.returns-in-Under-names
returns-in-Under-names c =
    sym (
    c.loop.invariant
    ∙ ap (λ n. slice_get (forms n) (c.args.place - c.loop.counter)) c.in-Under-names.is
    ∙ at_end c.in-Under-names.latest (forms c.in-Under-names.field-1.now) c.args.place c.loop.counter (omega (arith, c.loop-test.false))
    )

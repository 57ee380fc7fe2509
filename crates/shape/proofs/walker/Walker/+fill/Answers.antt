use Rattle.std.proofs.Common.{rules, ◌∙◌, arith}
use Rattle.eff.specs.declared.sort.Sort.TheVariants.{Expression}
use Rattle.shape.proofs.Rules.{stuck, onward, out, few}
use Rattle.shape.proofs.walker.Walker.+fill.Goals as goal

pub returns-in_default : goal.returns-in_default
returns-in_default t c = stuck c.misplaced.ensures c.in_default.ensures

pub fill-requires : goal.fill-requires
fill-requires t c = (
  search rules,
  omega (arith, c.requires, c.loop-child.invariant.onward, few c.in-Some.kind c.children-child-items.result.now c.loop-child.child-index (record { sort = Expression; names = 0 }) c.children-child-items.ensures c.loop-child-test.true),
)

pub returns-in_err-fill : goal.returns-in_err-fill
returns-in_err-fill t c =
    let i = c.loop-child.invariant in
    let m = c.in_err-fill.ensures in
    out _ c.from_residual.ensures.1
    (record {
      fewer = omega (arith, i.fewer, m.fewer);
      onward = omega (arith, i.onward, m.onward);
      seen = λ ws. i.seen ws ∙ onward c.args.names c.children-child-items.result.now c.loop-child.child-index (record { sort = Expression; names = 0 }) c.loop-child-test.true m ws;
    })

pub loop-child-preserved : goal.loop-child-preserved
loop-child-preserved t c =
    let i = c.loop-child.invariant in
    let m = c.in_ok-fill.ensures in
    record {
      fewer = omega (arith, i.fewer, m.fewer);
      onward = omega (arith, i.onward, m.onward);
      seen = λ ws. i.seen ws ∙ onward c.args.names c.children-child-items.result.now c.loop-child.child-index (record { sort = Expression; names = 0 }) c.loop-child-test.true m ws;
    }

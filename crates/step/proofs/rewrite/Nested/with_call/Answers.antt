use Rattle.std.proofs.Common.{◌≡◌, get_or, rules}
use Rattle.eff.specs.declared.kind.Kind.TheVariants as k
use Rattle.step.proofs.Skipping.{blank}
use Rattle.step.proofs.Rules.{with_found, with_none, with_no_call}
use Rattle.step.proofs.rewrite.Nested.with_call.Goals as goal

pub returns-then-ne-clause-rewrites : goal.returns-then-ne-clause-rewrites
returns-then-ne-clause-rewrites g c =
    let other : (get_or c.args.self.inner.now 1 blank).kind ≡ k.Instance → ⊥ = search rules in
    with_no_call other

pub returns-in-Some-clause-rewrites : goal.returns-in-Some-clause-rewrites
returns-in-Some-clause-rewrites g c =
    let kind : (get_or c.args.self.inner.now 1 blank).kind ≡ k.Instance = search rules in
    with_found kind c.in-Some.ensures c.gives-given.ensures c.with_case.ensures.rewrites

pub returns-in-None-clause-rewrites : goal.returns-in-None-clause-rewrites
returns-in-None-clause-rewrites g c =
    let kind : (get_or c.args.self.inner.now 1 blank).kind ≡ k.Instance = search rules in
    with_none kind c.in-None.ensures c.pass.ensures.passes

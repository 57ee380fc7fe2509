use Rattle.std.proofs.Common.{◌≡◌, rules}
use Rattle.std.proofs.lemmas.List.{take_rest}
use Rattle.step.proofs.Rules.{settled, with_case}
use Rattle.step.proofs.rewrite.Nested.with_case.Goals as goal

pub returns-clause-rewrites : goal.returns-clause-rewrites
returns-clause-rewrites c =
    let q : c.map.result ≡ settled c.split_term-2.result.1 c.put.result = search rules in
    rw q (with_case c.split_term-2.result.1 c.put.result c.function.ensures (take_rest c.args.self.before.now 1) (take_rest c.args.self.inner.now 2) c.split_term.ensures.splits c.split_term-2.ensures.splits c.put.ensures.puts)

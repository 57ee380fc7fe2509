use Rattle.std.proofs.Common.{◌≡◌, rules}
use Rattle.std.proofs.lemmas.List.{take_rest}
use Rattle.step.proofs.Rules.{settled, call_passes}
use Rattle.step.proofs.rewrite.Nested.pass.Goals as goal

pub returns-clause-passes : goal.returns-clause-passes
returns-clause-passes c =
    let q : c.map.result ≡ settled c.behind_term-behind.result c.write_runs.result = search rules in
    rw q (call_passes c.behind_term-behind.result c.write_runs.result (take_rest c.args.self.inner.now 2) c.behind_term-behind.ensures.behind c.write_runs.ensures.holds)

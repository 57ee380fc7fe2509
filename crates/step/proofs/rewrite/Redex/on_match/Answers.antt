use Rattle.std.proofs.Common.{◌≡◌, rules}
use Rattle.std.proofs.lemmas.List.{take_rest}
use Rattle.step.proofs.Rules.{settled, no_match, match_zero, match_more, match_succ}
use Rattle.step.proofs.rewrite.Redex.on_match.Goals as goal

pub returns-then-number-eq0-clause-rewrites : goal.returns-then-number-eq0-clause-rewrites
returns-then-number-eq0-clause-rewrites c =
    let q : c.map.result ≡ settled c.behind_term-behind.result c.write.result = search rules in
    rw q (match_zero c.behind_term-behind.result c.write.result c.in-Numeral.is c.if-number-eq0.true (take_rest c.args.self.parts.now 2) c.split_term.ensures.splits c.behind_term-behind.ensures.behind c.write.ensures.holds)

pub returns-else-number-eq0-clause-rewrites : goal.returns-else-number-eq0-clause-rewrites
returns-else-number-eq0-clause-rewrites c =
    match_more c.put_value.result c.in-Numeral.is c.if-number-eq0.false (take_rest c.args.self.parts.now 2) c.split_term.ensures.splits c.put_value.ensures.reaches c.put_value.ensures.puts

pub returns-in-Successor-clause-rewrites : goal.returns-in-Successor-clause-rewrites
returns-in-Successor-clause-rewrites c =
    match_succ c.put_value-in-Successor.result c.in-Successor.is (take_rest c.args.self.parts.now 2) c.split_term-in-Successor.ensures.splits c.behind_term.ensures.behind c.put_value-in-Successor.ensures.reaches c.put_value-in-Successor.ensures.puts

pub returns-in_default-clause-rewrites : goal.returns-in_default-clause-rewrites
returns-in_default-clause-rewrites c = no_match c.in_default.not-Numeral c.in_default.not-Successor

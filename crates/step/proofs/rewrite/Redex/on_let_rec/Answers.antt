use Rattle.std.proofs.lemmas.List.{take_rest}
use Rattle.step.proofs.Rules.{let_rec}
use Rattle.step.proofs.rewrite.Redex.on_let_rec.Goals as goal

pub returns-clause-rewrites : goal.returns-clause-rewrites
returns-clause-rewrites g c =
    let_rec c.put.result c.function.ensures c.argument.ensures (take_rest c.args.self.parts.now 1) c.split_term.ensures.splits c.put.ensures.reaches c.put.ensures.puts

use Rattle.std.proofs.Common.{◌≡◌, get_or, rules}
use Rattle.std.proofs.lemmas.List.{take_rest}
use Rattle.eff.specs.declared.kind.Kind.TheVariants as k
use Rattle.step.proofs.Skipping.{blank}
use Rattle.step.proofs.Rules.{settled, no_apply, apply_fn}
use Rattle.step.proofs.rewrite.Redex.on_apply.Goals as goal

pub returns-then-ne-clause-rewrites : goal.returns-then-ne-clause-rewrites
returns-then-ne-clause-rewrites c =
    let other : (get_or c.args.self.parts.now 1 blank).kind ≡ k.Function → ⊥ = search rules in
    no_apply other

pub returns-clause-rewrites : goal.returns-clause-rewrites
returns-clause-rewrites c =
    let kind : (get_or c.args.self.parts.now 1 blank).kind ≡ k.Function = search rules in
    let q : c.map.result ≡ settled c.split_term.result.1 c.put_value.result = search rules in
    rw q (apply_fn c.split_term.result.1 c.put_value.result kind (take_rest c.args.self.parts.now 2) c.behind_term.ensures.behind c.split_term.ensures.splits c.put_value.ensures.puts)

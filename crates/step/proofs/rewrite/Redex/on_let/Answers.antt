use Rattle.std.proofs.Common.{◌≡◌, get_or, rules}
use Rattle.std.proofs.lemmas.List.{take_rest}
use Rattle.eff.specs.declared.kind.Kind.TheVariants as k
use Rattle.step.proofs.Skipping.{blank}
use Rattle.step.proofs.Rules.{let_val, let_call, let_stuck, let_short, let_no}
use Rattle.step.proofs.rewrite.Redex.on_let.Goals as goal

pub returns-in_default-parts-clause-rewrites : goal.returns-in_default-parts-clause-rewrites
returns-in_default-parts-clause-rewrites c = let_short c.in-Call.is c.in_default-parts.len_below

pub returns-then-ne-clause-rewrites : goal.returns-then-ne-clause-rewrites
returns-then-ne-clause-rewrites c =
    let other : (get_or c.args.self.parts.now 2 blank).kind ≡ k.Instance → ⊥ = search rules in
    let_stuck c.in-Call.is other

pub returns-in-Val-clause-rewrites : goal.returns-in-Val-clause-rewrites
returns-in-Val-clause-rewrites c = let_val c.put_value.result c.in-Val.is (take_rest c.args.self.parts.now 2) c.split_term.ensures.splits c.put_value.ensures.reaches c.put_value.ensures.puts

pub returns-else-ne-clause-rewrites : goal.returns-else-ne-clause-rewrites
returns-else-ne-clause-rewrites c =
    let kind : (get_or c.args.self.parts.now 2 blank).kind ≡ k.Instance = search rules in
    let_call c.in-Call.is kind c.split_at.ensures.front c.split_at.ensures.back c.pass.ensures.passes

pub returns-in_default-clause-rewrites : goal.returns-in_default-clause-rewrites
returns-in_default-clause-rewrites c = let_no c.in_default.not-Val c.in_default.not-Call

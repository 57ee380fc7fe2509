use Rattle.std.proofs.Common.{◌≡◌, get_or, refl, rules}
use Rattle.std.proofs.lemmas.List.{take_rest}
use Rattle.eff.specs.declared.kind.Kind.TheVariants as k
use Rattle.step.proofs.Skipping.{blank}
use Rattle.step.proofs.Rules.{settled, no_with, with_over_val, with_over_call, with_short, with_no}
use Rattle.step.proofs.rewrite.Redex.on_with.Goals as goal

pub returns-then-ne-clause-rewrites : goal.returns-then-ne-clause-rewrites
returns-then-ne-clause-rewrites g c =
    let other : (get_or c.args.self.parts.now 1 blank).kind ≡ k.Handler → ⊥ = search rules in
    no_with other

pub returns-then-inner-lt2-clause-rewrites : goal.returns-then-inner-lt2-clause-rewrites
returns-then-inner-lt2-clause-rewrites g c =
    let kind : (get_or c.args.self.parts.now 1 blank).kind ≡ k.Handler = search rules in
    with_short kind (take_rest c.args.self.parts.now 1) c.behind_term-inner.ensures.behind c.if-inner-lt2.true

pub returns-in-Val-clause-rewrites : goal.returns-in-Val-clause-rewrites
returns-in-Val-clause-rewrites g c =
    let kind : (get_or c.args.self.parts.now 1 blank).kind ≡ k.Handler = search rules in
    let q : c.map.result ≡ settled c.split_term.result.1 c.put_value.result = search rules in
    rw q (with_over_val c.split_term.result.1 c.put_value.result kind (take_rest c.args.self.parts.now 1) c.behind_term-inner.ensures.behind c.in-Val.is (take_rest c.behind_term-inner.result.now 1) c.split_term.ensures.splits (take_rest c.args.self.parts.now 2) c.put_value.ensures.puts)

pub returns-in-Call-clause-rewrites : goal.returns-in-Call-clause-rewrites
returns-in-Call-clause-rewrites g c =
    let kind : (get_or c.args.self.parts.now 1 blank).kind ≡ k.Handler = search rules in
    with_over_call kind (take_rest c.args.self.parts.now 1) c.behind_term-inner.ensures.behind c.in-Call.is refl (take_rest c.args.self.parts.now 2) c.behind_term.ensures.behind c.with_call.ensures.rewrites

pub returns-in_default-clause-rewrites : goal.returns-in_default-clause-rewrites
returns-in_default-clause-rewrites g c =
    let kind : (get_or c.args.self.parts.now 1 blank).kind ≡ k.Handler = search rules in
    with_no kind (take_rest c.args.self.parts.now 1) c.behind_term-inner.ensures.behind c.in_default.not-Val c.in_default.not-Call

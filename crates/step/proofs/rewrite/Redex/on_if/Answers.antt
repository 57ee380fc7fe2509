use Rattle.std.proofs.Common.{◌≡◌, List, get_or, true, false, sym, ap, ◌∙◌, rules}
use Rattle.std.specs.Borrow.{Bor}
use Rattle.std.proofs.lemmas.List.{take_rest}
use Rattle.eff.specs.declared.kind.Kind.TheVariants as k
use Rattle.eff.specs.declared.part.Part.{Part}
use Rattle.step.proofs.Skipping.{blank}
use Rattle.step.proofs.Rules.{settled, no_if, if_truth, is_true, is_false}
use Rattle.step.proofs.rewrite.Redex.on_if.Goals as goal
use Rattle.step.proofs.rewrite.Redex.on_if.Goals.{then-test-eq0, else-test-eq0}

pub returns-then-ne-clause-rewrites : goal.returns-then-ne-clause-rewrites
returns-then-ne-clause-rewrites c =
    let other : (get_or c.args.self.parts.now 1 blank).kind ≡ k.Truth → ⊥ = search rules in
    no_if other

pub returns-clause-rewrites : goal.returns-clause-rewrites
returns-clause-rewrites c =
    let kind : (get_or c.args.self.parts.now 1 blank).kind ≡ k.Truth = search rules in
    let q : c.map.result ≡ settled c.split_term-2.result.1 c.write.result = search rules in
    let two = take_rest c.args.self.parts.now 2 in
    let f = c.split_term.ensures.splits in
    let l = c.split_term-2.ensures.splits in
    rw q (elim c.if-test-eq0.branch [
      | then-test-eq0 w ↦ if_truth c.split_term-2.result.1 c.write.result false kind (λ j e. is_false j (sym e ∙ w.if-test-eq0.true)) two f l (ap (λ (b : Bor (List Part)). b.now) w.taken-is) c.write.ensures.holds
      | else-test-eq0 w ↦ if_truth c.split_term-2.result.1 c.write.result true kind (λ j e. is_true j (λ z. w.if-test-eq0.false (e ∙ z))) two f l (ap (λ (b : Bor (List Part)). b.now) w.taken-is) c.write.ensures.holds
    ])

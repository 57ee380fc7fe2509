use Rattle.std.proofs.Common.{sym, ap, ◌∙◌}
use Rattle.std.proofs.lemmas.Bool.{eq-eqb, cond-true}
use Rattle.eff.specs.Handling.{case_leaves}
use Rattle.claim.specs.Checker as s
use Rattle.claim.proofs.checker.Checker.case_leaves.Goals as goal

pub returns-in-Instance : goal.returns-in-Instance
returns-in-Instance c =
    c.leaves.ensures (s.declared c.args.self.now) ∙ sym (cond-true _ _ _ (eq-eqb _ _ c.if-effect-case.true))
    ∙ ap (λ X. case_leaves (s.dirts c.args.self.now) X c.args.case.now.a c.args.case.now.b c.args.dirt) c.in-Instance.ensures.value

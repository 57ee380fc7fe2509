use Rattle.step.proofs.Rules.{all_of, short_of, none_of_them}
use Rattle.step.proofs.rewrite.rewrite.Goals as goal

pub returns-then-parts-lt2-clause-rewrites : goal.returns-then-parts-lt2-clause-rewrites
returns-then-parts-lt2-clause-rewrites g c = short_of c.if-parts-lt2.true

pub returns-in-If-clause-rewrites : goal.returns-in-If-clause-rewrites
returns-in-If-clause-rewrites g c = all_of c.in-If.is (λ T u p. tt) c.on_if.ensures.rewrites

pub returns-in-Match-clause-rewrites : goal.returns-in-Match-clause-rewrites
returns-in-Match-clause-rewrites g c = all_of c.in-Match.is (λ T u p. tt) c.on_match.ensures.rewrites

pub returns-in-Apply-clause-rewrites : goal.returns-in-Apply-clause-rewrites
returns-in-Apply-clause-rewrites g c = all_of c.in-Apply.is (λ T u p. tt) c.on_apply.ensures.rewrites

pub returns-in-LetRec-clause-rewrites : goal.returns-in-LetRec-clause-rewrites
returns-in-LetRec-clause-rewrites g c = all_of c.in-LetRec.is (λ T u p. p.1) c.on_let_rec.ensures.rewrites

pub returns-in-Let-clause-rewrites : goal.returns-in-Let-clause-rewrites
returns-in-Let-clause-rewrites g c = all_of c.in-Let.is (λ T u p. p.0) c.on_let.ensures.rewrites

pub returns-in-With-clause-rewrites : goal.returns-in-With-clause-rewrites
returns-in-With-clause-rewrites g c = all_of c.in-With.is (λ T u p. p) c.on_with.ensures.rewrites

pub returns-in_default-clause-rewrites : goal.returns-in_default-clause-rewrites
returns-in_default-clause-rewrites g c = none_of_them c.in_default.not-If c.in_default.not-Match c.in_default.not-Apply c.in_default.not-LetRec c.in_default.not-Let c.in_default.not-With

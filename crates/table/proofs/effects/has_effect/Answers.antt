use Rattle.std.proofs.Common.{rules, tests, eqb, ◌∙◌}
use Rattle.std.proofs.lemmas.Iterator.{YieldsList-from_slice}
use Rattle.std.proofs.lemmas.Iterator.Search.{any_from_yields_List}
use Rattle.table.proofs.Masks.{any_effect}
use Rattle.table.proofs.effects.has_effect.Goals as goal

pub returns : goal.returns
returns c =
    any_from_yields_List (λ o. eqb o.effect c.args.effect) _ _ _ c.any.ensures.ran (YieldsList-from_slice c.args.operations.now cc) (λ x b q k. search (rules, tests))
    ∙ any_effect c.args.operations.now c.args.effect

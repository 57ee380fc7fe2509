use Rattle.std.proofs.Common.{rules, tests, ◌∙◌}
use Rattle.std.proofs.lemmas.Iterator.{YieldsList-from_slice}
use Rattle.std.proofs.lemmas.Iterator.Search.{any_from_yields_List}
use Rattle.eff.specs.Tables.{declares}
use Rattle.table.specs.Meant.{declaration}
use Rattle.table.proofs.Masks.{any_declares}
use Rattle.table.proofs.effects.declares.Goals as goal

pub returns : goal.returns
returns c =
    any_from_yields_List (λ o. declares (declaration o) c.args.effect c.args.op) _ _ _ c.any.ensures.ran (YieldsList-from_slice c.args.operations.now cc) (λ x b q k. search (rules, tests))
    ∙ any_declares c.args.operations.now c.args.effect c.args.op

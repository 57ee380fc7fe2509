use Rattle.std.proofs.Common.{rules, tests, refl}
use Rattle.std.proofs.lemmas.Iterator.{YieldsList-from_range}
use Rattle.std.proofs.lemmas.Iterator.Search.{all_from_yields_List}
use Rattle.eff.specs.Dirt.{sets}
use Rattle.claim.specs.Test.{admits_at, admits}
use Rattle.claim.proofs.node.Node.admits.Goals as goal

pub returns : goal.returns
unfolding admits
returns c = λ T.
    all_from_yields_List (admits_at (sets T) c.args.region c.args.self.now.b c.args.self.now.own.dirt) _ _ _ c.all.ensures.ran (YieldsList-from_range 0 16 16 refl refl) (λ x b q k. search (rules, tests))

use Rattle.std.proofs.Common.{take, rules, tests}
use Rattle.std.proofs.lemmas.Iterator.{first_from_Range}
use Rattle.eff.specs.Spelling.{Whole}
use Rattle.bench.proofs.running.opening.Goals as goal

pub returns : goal.returns
returns c =
    let d =
    first_from_Range _ _ _ _ (λ n. Whole (take n c.args.slab.now)) (λ n. ¬ Whole (take n c.args.slab.now)) c.find.ensures.ran
    (λ n q k. search (rules, tests)) (λ n q k. (search rules, search (rules, tests))) in
    search rules

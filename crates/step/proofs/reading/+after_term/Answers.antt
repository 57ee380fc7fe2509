use Rattle.std.proofs.Common.{arith}
use Rattle.std.proofs.lemmas.Grind.{common_steps}
use Rattle.step.proofs.Forests.{sorted}
use Rattle.step.proofs.reading.+after_term.Goals as goal

pub returns-in_err-rest : goal.returns-in_err-rest
returns-in_err-rest t c =
    let e = sorted _ _ c.children-child-items.ensures in
    grind (arith, common_steps)

pub returns : goal.returns
returns t c =
    let e = sorted _ _ c.children-child-items.ensures in
    grind (arith, common_steps)

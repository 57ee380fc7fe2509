use Rattle.std.proofs.Common.{◌≡◌, rules}
use Rattle.step.proofs.Forests.{ends_all, decides_ending}
use Rattle.step.proofs.reading.is_computation.Goals as goal

pub returns : goal.returns
returns c =
    let e : c.is_some_and.result ≡ ends_all c.after_term.result = search rules in
    decides_ending c.after_term.result c.is_some_and.result c.after_term.ensures e

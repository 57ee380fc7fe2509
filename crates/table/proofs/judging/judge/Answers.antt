use Rattle.std.proofs.Common.{rules, Ok}
use Rattle.sheet.specs.Answer.{listing}
use Rattle.table.proofs.Verdicts.{means, in_range, at_end}
use Rattle.table.proofs.judging.judge.Goals as goal

pub returns-in_err-ranged-clause-means : goal.returns-in_err-ranged-clause-means
returns-in_err-ranged-clause-means c = means (listing c.args.tables) _ (search rules)

pub invariant_of-result : goal.invariant_of-result
invariant_of-result c = record { ranges = ∣ in_range (listing c.args.tables) (at_end (listing c.args.tables) c.in_ok-ranged.ensures) ∣₁ }

pub returns-clause-means : goal.returns-clause-means
returns-clause-means c = means (listing c.args.tables) (Ok (listing c.args.tables)) (at_end (listing c.args.tables) c.in_ok-ranged.ensures)

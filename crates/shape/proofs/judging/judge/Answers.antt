use Rattle.std.proofs.Common.{rules}
use Rattle.sheet.specs.Answer.{listing}
use Rattle.shape.proofs.Meaning.{means, one}
use Rattle.shape.proofs.judging.judge.Goals as goal

pub returns-in_err-fill-clause-means : goal.returns-in_err-fill-clause-means
returns-in_err-fill-clause-means c = means (listing c.args.tables.now) c.from_residual.result (search rules)

pub returns-in_err-fill-clause-one : goal.returns-in_err-fill-clause-one
returns-in_err-fill-clause-one c = one (listing c.args.tables.now)

pub returns-clause-means : goal.returns-clause-means
returns-clause-means c = means (listing c.args.tables.now) c.closed.result (search rules)

pub returns-clause-one : goal.returns-clause-one
returns-clause-one c = one (listing c.args.tables.now)

use Rattle.std.proofs.Common.{rules, Ok, ap}
use Rattle.recipe.specs.Admission.{verdict}
use Rattle.recipe.proofs.Admission.{means, exactly, has_type, sound}
use Rattle.recipe.proofs.admitting.admit.Goals as goal

pub returns-in_err-tables-clause-means : goal.returns-in_err-tables-clause-means
returns-in_err-tables-clause-means c = means c.args.sheet.now

pub returns-in_err-tables-clause-exactly : goal.returns-in_err-tables-clause-exactly
returns-in_err-tables-clause-exactly c = exactly c.args.sheet.now c.from_residual.result (search rules)

pub invariant_of-place : goal.invariant_of-place
invariant_of-place c = record { sound = ∣ sound c.args.sheet.now c.in_ok-tables.tables c.in_ok-tables.ensures.rows c.in_ok-tables.ensures.value ∣₁ }

pub returns-clause-means : goal.returns-clause-means
returns-clause-means c = means c.args.sheet.now

pub returns-clause-exactly : goal.returns-clause-exactly
returns-clause-exactly c = exactly c.args.sheet.now (Ok tt) (ap verdict c.in_ok-tables.ensures.rows)

pub returns-clause-typed : goal.returns-clause-typed
returns-clause-typed c = has_type c.args.sheet.now

use Rattle.std.proofs.Common.{sym, ap, ◌∙◌}
use Rattle.std.specs.Result.{result_unwrap_or}
use Rattle.eff.specs.declared.ground.Ground.TheVariants.{Unit}
use Rattle.sheet.specs.Answer.{rows_of}
use Rattle.sheet.specs.Rows.{type_row}
use Rattle.sheet.specs.declared.tables.Tables as sheet
use Rattle.claim.proofs.Rowed.{row_is, no_row_is}
use Rattle.claim.proofs.checker.Checker.listed.Goals as goal

pub returns-in-Some : goal.returns-in-Some
returns-in-Some c =
    row_is c.args.self.now c.args.n c.in-Some.row (ap (λ (t : sheet.Tables). type_row (rows_of t.types) c.args.n) (sym c.tables.ensures) ∙ sym c.type_row.ensures ∙ c.in-Some.is) c.from.result c.from.ensures

pub returns-in-None-clause-value : goal.returns-in-None-clause-value
returns-in-None-clause-value c =
    no_row_is c.args.self.now c.args.n (ap (λ (t : sheet.Tables). type_row (rows_of t.types) c.args.n) (sym c.tables.ensures) ∙ sym c.type_row.ensures ∙ c.in-None.is) _ (c.unwrap_or.ensures ∙ ap (λ r. result_unwrap_or r Unit) c.try_from.ensures)

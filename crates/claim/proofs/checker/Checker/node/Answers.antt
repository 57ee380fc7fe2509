use Rattle.std.proofs.Common.{◌<◌, sym, ap, ◌∙◌, subst}
use Rattle.sheet.specs.declared.rows.PartRow.{PartRow}
use Rattle.sheet.specs.declared.tables.Tables.{Tables}
use Rattle.sheet.specs.Answer.{rows_of}
use Rattle.claim.specs.Checker.{rows}
use Rattle.claim.proofs.Ranging.{small_operation}
use Rattle.claim.proofs.Finding.{found}
use Rattle.claim.proofs.checker.Checker.node.Goals as goal

pub invariant_of-result-clause-operation : goal.invariant_of-result-clause-operation
invariant_of-result-clause-operation c =
    let x = c.args.self.now in
    let h = found (rows x).parts c.listed.result.now c.args.at c.in_ok-part.part.now (c.listed.ensures.value ∙ ap (λ (t : Tables). rows_of t.parts) c.tables.ensures) c.in_ok-part.ensures.lookup.0 c.in_ok-part.ensures.lookup.1 in
    subst (λ (p : PartRow). p.b < 4) (sym h.is) (small_operation x.sheet.now c.args.at h.within)

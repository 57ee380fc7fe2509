use Rattle.std.proofs.Common.{◌^◌, ◌<◌, sym, subst}
use Rattle.sheet.specs.declared.rows.PartRow.{PartRow}
use Rattle.claim.proofs.Finding.{found}
use Rattle.recipe.specs.Readers.{rows}
use Rattle.recipe.proofs.Fitting.{part_a, part_b}
use Rattle.recipe.proofs.recipe.Recipe.part.Goals as goal

pub overflow_cast-result : goal.overflow_cast-result
overflow_cast-result c =
    let x = c.args.self.now in
    let r = found (rows x).parts c.listed.result.now c.args.at c.in-Some.row.now c.listed.ensures.value c.in-Some.ensures.lookup.0 c.in-Some.ensures.lookup.1 in
    record { fits = subst (λ (p : PartRow). p.b < 2 ^ 8) (sym r.is) (part_b x c.args.at r.within) }

pub overflow_cast-result-2 : goal.overflow_cast-result-2
overflow_cast-result-2 c =
    let x = c.args.self.now in
    let r = found (rows x).parts c.listed.result.now c.args.at c.in-Some.row.now c.listed.ensures.value c.in-Some.ensures.lookup.0 c.in-Some.ensures.lookup.1 in
    record { fits = subst (λ (p : PartRow). p.a < 2 ^ 32) (sym r.is) (part_a x c.args.at r.within) }

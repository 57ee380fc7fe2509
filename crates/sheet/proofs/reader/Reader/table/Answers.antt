use Rattle.std.proofs.Common.{◌+◌, [], ◌∷◌, ◌++◌, replicate, set, sym, ap, ◌∙◌, subst, arith}
use Rattle.sheet.specs.Walk.{rowed, Gathered}
use Rattle.sheet.proofs.Steps.{gathered_more, gathered_past}
use Rattle.sheet.proofs.reader.Reader.table.Goals as goal
use Rattle.sheet.proofs.reader.Reader.table.Goals.{then-count, else-count}

pub loop-values-preserved : goal.loop-values-preserved
loop-values-preserved g c =
    let x = c.in_ok-values.ensures in
    let i = c.loop-values.invariant in
    let t = i.gathered.0 in
    let zero = g.R.Cells.made (replicate g.row.W 0) in
    record {
      few = omega (arith, x.moves, i.few);
      gathered = (
        t ++ c.in-Some.values ∷ [],
        elim c.if-count.branch [
          | then-count w ↦ subst (λ v. Gathered g.R.Cells.made g.row.N zero v (t ++ c.in-Some.values ∷ []) (c.loop-values.count + 1)) (sym (w.rows-is ∙ ap (set c.loop-values.rows c.loop-values.count) (g.met.R.Cells.makes _ _ w.from.ensures)))
              (gathered_more g.R.Cells.made g.row.N zero _ t _ c.in-Some.values i.gathered.1 w.if-count.true)
          | else-count w ↦ subst (λ v. Gathered g.R.Cells.made g.row.N zero v (t ++ c.in-Some.values ∷ []) (c.loop-values.count + 1)) (sym w.rows-is)
              (gathered_past g.R.Cells.made g.row.N zero _ t _ c.in-Some.values i.gathered.1 w.if-count.false)
        ],
        λ p q. i.gathered.2 p q ∙ x.reads p t q ∙ ap (λ r. rowed r p t c.row.new.self) c.in-Some.is,
      );
    }

use Rattle.std.proofs.Common.{◌≡◌, ◌+◌, [], sym, ap, ◌∙◌, subst, append-nil, arith}
use Rattle.table.specs.declared.ranged.Ranged.{Ranged}
use Rattle.fault.specs.Search.{Verdict}
use Rattle.fault.specs.declared.claim.ClaimFault.{ClaimFault}
use Rattle.eff.specs.Sorts.{comp}
use Rattle.eff.specs.Labels.{Labelled}
use Rattle.sheet.specs.Faults.{parts, count, row_line}
use Rattle.shape.specs.declared.shaped.Shaped.{Shaped}
use Rattle.shape.proofs.Meaning.{accepted_again}
use Rattle.shape.proofs.Tidying.{tidied}
use Rattle.claim.specs.Sheets as s
use Rattle.claim.specs.Placing.{RowsOf, Placed, entries_of}
use Rattle.claim.specs.Test.{claimed}
use Rattle.claim.specs.Answer.{answer, Answered}
use Rattle.claim.proofs.Ranging.{ranges, checks}
use Rattle.claim.proofs.Judged.{ready, answered}
use Rattle.claim.proofs.judging.judge.Goals as goal

placed : (x : Ranged) (t : Labelled comp) → RowsOf (s.rows x) comp t (s.rows x).parts → Placed (s.rows x) comp 0 t
placed x t h = record { rest = []; reads = h.reads ∙ sym (append-nil (entries_of t)) }

-- what the checker says of the first part of a sheet
abbrev Says : Verdict ClaimFault → Ranged → Type 0
Says v x = (t : Labelled comp) → Placed (s.rows x) comp 0 t → v ≡ claimed (s.declared x) (s.dirts x) (row_line (count (s.rows x)) parts 0 + 0) [] t

pub returns : goal.returns
returns c =
    let sheet : Shaped = c.args.sheet.now in
    let x : Ranged = sheet.ranged in
    let l = s.rows x in
    let r = ready l (checks x) (ranges x) (accepted_again l (tidied l (ranges x)) sheet.whole) in
    let v = c.computation.result in
    let said : Says v x = subst (Says v) c.ranged.ensures c.computation.ensures.says in
    let value : v ≡ answer l =
    said r.labels (placed x r.labels r.rows)
    ∙ ap (λ n. claimed (s.declared x) (s.dirts x) n [] r.labels) (let q : row_line (count l) parts 0 + 0 ≡ row_line (count l) parts 0 = omega arith in q)
    ∙ ap (claimed (s.declared x) (s.dirts x) (row_line (count l) parts 0) []) (sym r.is) in
    record { value = value; means = subst (Answered l) (sym value) (answered l (checks x) r) }

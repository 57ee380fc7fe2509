use Rattle.std.proofs.Common.{Err, ap, ◌∙◌}
use Rattle.std.proofs.lemmas.Result.{err_from_is_err_and}
use Rattle.sheet.specs.Answer.{listed}
use Rattle.sheet.proofs.Meaning.{refused, too_large, out_of_turn, in_turn}
use Rattle.sheet.proofs.reading.read.Goals as goal

pub returns-in_err-draft : goal.returns-in_err-draft
returns-in_err-draft c =
    let q = err_from_is_err_and c.from_residual.result c.from_residual.ensures.1 in
    let p = refused c.args.bytes.now _ (ap listed c.in_err-draft.ensures) _ (q.1 ∙ ap (λ x. Err x) q.2) in
    record { value = p.value; rows = p.rows; means = p.means; one = p.one }

pub returns-in_err-tables : goal.returns-in_err-tables
returns-in_err-tables c =
    let q = err_from_is_err_and c.from_residual-in_err-tables.result c.from_residual-in_err-tables.ensures.1 in
    let s = c.in_ok-draft.ensures in
    let p = refused c.args.bytes.now _ (too_large c.args.bytes.now c.in_ok-draft.draft s.0 s.1 s.2 s.3 s.4 s.5 _ c.in_err-tables.ensures) _ (q.1 ∙ ap (λ x. Err x) q.2) in
    record { value = p.value; rows = p.rows; means = p.means; one = p.one }

pub returns-in_err-turned : goal.returns-in_err-turned
returns-in_err-turned c =
    let q = err_from_is_err_and c.from_residual-in_err-turned.result c.from_residual-in_err-turned.ensures.1 in
    let s = c.in_ok-draft.ensures in
    let t = c.in_ok-tables.ensures in
    let p = refused c.args.bytes.now _ (out_of_turn c.args.bytes.now c.in_ok-draft.draft s.0 s.1 s.2 s.3 s.4 s.5 t.0 c.in_ok-tables.tables t.1 _ c.in_err-turned.ensures) _ (q.1 ∙ ap (λ x. Err x) q.2) in
    record { value = p.value; rows = p.rows; means = p.means; one = p.one }

pub returns : goal.returns
returns c =
    let s = c.in_ok-draft.ensures in
    let t = c.in_ok-tables.ensures in
    let p = in_turn c.args.bytes.now c.in_ok-draft.draft s.0 s.1 s.2 s.3 s.4 s.5 t.0 c.in_ok-tables.tables t.1 c.in_ok-turned.ensures in
    record { value = p.value; rows = p.rows; means = p.means; one = p.one }

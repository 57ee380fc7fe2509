use Rattle.std.proofs.Common.{Err, sym, ap, ◌∙◌}
use Rattle.std.proofs.lemmas.Result.{err_from_is_err_and}
use Rattle.sheet.proofs.Steps.{ends_at, trails_at, chained}
use Rattle.sheet.proofs.reader.Reader.sheet.Goals as goal

pub returns-in_err-finish : goal.returns-in_err-finish
returns-in_err-finish c =
    let q = err_from_is_err_and c.from_residual-in_err-finish.result c.from_residual-in_err-finish.ensures.1 in
    let a = c.in_ok-operations.ensures in
    let b = c.in_ok-instances.ensures in
    let d = c.in_ok-types.ensures in
    let e = c.in_ok-parts.ensures in
    let f = c.in_err-finish.ensures in
    rw (q.1, q.2) (chained a.2 b.2 d.2 e.2 ∙ trails_at _ c.table-4.new.self f.0 ∙ ap (λ x. Err x) (sym f.1))

pub returns : goal.returns
returns c =
    let a = c.in_ok-operations.ensures in
    let b = c.in_ok-instances.ensures in
    let d = c.in_ok-types.ensures in
    let e = c.in_ok-parts.ensures in
    let f = c.in_ok-finish.ensures in
    (a.0, b.0, d.0, e.0, record { operations = a.1; instances = b.1; types = d.1; parts = e.1 }, chained a.2 b.2 d.2 e.2 ∙ ends_at _ c.table-4.new.self f)

use Rattle.std.proofs.Common.{◌≡◌, ◌≤◌, length, get_or, rules}
use Rattle.step.proofs.Skipping.{blank}
use Rattle.step.proofs.Descending.{deep_past, deep_rests, deep_some}
use Rattle.step.proofs.spine.deeper.Goals as goal

pub returns-in_err-first-clause-deeper : goal.returns-in_err-first-clause-deeper
returns-in_err-first-clause-deeper c =
    let l : length c.in_ok-inner.inner.now ≤ 0 = search rules in
    rw c.from_residual-in_err-first.ensures (deep_past c.in_ok-inner.ensures.inside l)

pub returns-in-Val-clause-deeper : goal.returns-in-Val-clause-deeper
returns-in-Val-clause-deeper c =
    let kind : (get_or c.in_ok-inner.inner.now 0 blank).kind ≡ c.in_ok-first.field-0.now.kind = search rules in
    deep_rests c.in_ok-inner.ensures.inside (rw kind c.in-Val.is)

pub returns-in_default-clause-deeper : goal.returns-in_default-clause-deeper
returns-in_default-clause-deeper c =
    let kind : (get_or c.in_ok-inner.inner.now 0 blank).kind ≡ c.in_ok-first.field-0.now.kind = search rules in
    deep_some c.in_ok-inner.ensures.inside (rw kind c.in_default.not-Val) (rw kind c.in_default.not-Call)

use Rattle.std.proofs.Common.{◌≡◌, ◌≤◌, length, get_or, drop, rules}
use Rattle.eff.specs.declared.kind.Kind.TheVariants as k
use Rattle.step.proofs.Skipping.{blank}
use Rattle.step.proofs.Descending.{let_inside, with_inside, in_none, in_past}
use Rattle.step.proofs.spine.inside.Goals as goal

pub returns-in_err-first-clause-inside : goal.returns-in_err-first-clause-inside
returns-in_err-first-clause-inside c =
    let l : length c.args.parts.now ≤ 0 = search rules in
    rw c.from_residual.ensures (in_past l)

pub returns-in-Let-clause-inside : goal.returns-in-Let-clause-inside
returns-in-Let-clause-inside c =
    let kind : (get_or c.args.parts.now 0 blank).kind ≡ k.Let = search rules in
    let one : c.in_ok-first.rest.now ≡ drop 1 c.args.parts.now = search rules in
    let_inside kind one

pub returns-in-With-clause-inside : goal.returns-in-With-clause-inside
returns-in-With-clause-inside c =
    let kind : (get_or c.args.parts.now 0 blank).kind ≡ k.With = search rules in
    let one : c.in_ok-first.rest.now ≡ drop 1 c.args.parts.now = search rules in
    with_inside kind one c.behind_term.ensures.behind

pub returns-in_default-clause-inside : goal.returns-in_default-clause-inside
returns-in_default-clause-inside c =
    let kind : (get_or c.args.parts.now 0 blank).kind ≡ c.in_ok-first.first.now.kind = search rules in
    in_none (rw kind c.in_default.not-Let) (rw kind c.in_default.not-With)

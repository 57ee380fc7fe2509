use Rattle.std.proofs.Common.{◌≤◌, length, rules}
use Rattle.step.proofs.Skipping.{splits_done, splits_all}
use Rattle.step.proofs.walk.split_term.Goals as goal

pub returns-then-wanted-eq0-clause-splits : goal.returns-then-wanted-eq0-clause-splits
returns-then-wanted-eq0-clause-splits c = splits_done c.loop-end.end c.loop-end.wanted c.if-wanted-eq0.true c.loop-end.invariant.1 c.split_at.ensures.front c.split_at.ensures.back

pub returns-clause-splits : goal.returns-clause-splits
returns-clause-splits c =
    let l : length c.args.parts.now ≤ c.loop-end.end = search rules in
    splits_all c.loop-end.end c.loop-end.wanted l c.loop-end.invariant.1

use Rattle.std.proofs.Common.{◌≤◌, rules, arith}
use Rattle.std.proofs.lemmas.List.{get_or_past}
use Rattle.table.proofs.Nesting.{first_small}
use Rattle.table.proofs.heights.Heights.at.Goals as goal

pub returns-clause-small : goal.returns-clause-small
returns-clause-small c =
    let h = c.args.self.now in
    let one : 1 ≤ h.n = omega (arith, h.small 256, get_or_past h.heights 256 1 (omega arith)) in
    let small = first_small h.n h.n h.heights one h.small c.args.number in
    search rules

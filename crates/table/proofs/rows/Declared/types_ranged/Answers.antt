use Rattle.std.proofs.Common.{rules, tests, ◌≡◌, ◌&&◌, leb, take, get_or, ap, ◌∙◌}
use Rattle.sheet.specs.Answer.{listing}
use Rattle.table.specs.Tests.{columns_ok, type_ok}
use Rattle.table.proofs.Nesting.{height_at-type}
use Rattle.table.proofs.rows.Declared.types_ranged.Goals as goal

pub returns : goal.returns
returns c =
    let l = listing c.args.self.now.tables.now in
    let hs = c.of-heights.result in
    c.search.ensures (λ n t. type_ok l n t) (λ n row b lt k.
    let q : b ≡ (columns_ok (listing c.args.self.now.tables.now) n row.now && leb (get_or (take c.of-heights.result.n c.of-heights.result.heights) n 1) 12) = search (rules, tests) in
    q ∙ ap (λ h. columns_ok l n row.now && leb h 12) (c.of-heights.ensures n ∙ height_at-type l n)) ∙ search rules

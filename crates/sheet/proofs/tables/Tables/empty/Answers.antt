use Rattle.std.proofs.Common.{◌≡◌, [], ap, ◌∙◌, rules}
use Rattle.sheet.specs.Rows.{operation_of, instance_of, type_of, part_of}
use Rattle.sheet.specs.Answer.{array, stored}
use Rattle.sheet.proofs.tables.Tables.empty.Goals as goal

pub returns : goal.returns
returns c =
    let a : array c.none.result ≡ stored 32 (operation_of []) [] = search rules in
    let b : array c.none-2.result ≡ stored 16 (instance_of []) [] = search rules in
    let d : array c.none-3.result ≡ stored 252 (type_of []) [] = c.none-3.ensures ∙ ap (λ z. stored 252 z []) (search rules) in
    let e : array c.none-4.result ≡ stored 1024 (part_of []) [] = c.none-4.ensures ∙ ap (λ z. stored 1024 z []) (search rules) in
    cc

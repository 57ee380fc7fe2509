use Rattle.std.proofs.Common.{ℕ, rules, tests, map, ap, ◌∙◌}
use Rattle.std.specs.Option.{unwrap_or}
use Rattle.std.proofs.lemmas.Iterator.{YieldsList-from_slice}
use Rattle.std.proofs.lemmas.Iterator.Search.{find_from_yields_List}
use Rattle.sheet.specs.declared.rows.Operation.{Operation}
use Rattle.eff.specs.Tables.{declares, signature}
use Rattle.table.specs.Meant.{declaration}
use Rattle.table.proofs.Masks.{found_signature, unit_to_unit}
use Rattle.table.proofs.effects.signature.Goals as goal

pub returns : goal.returns
returns c =
    let os = c.listed-operations.result.now in
    let e = c.args.effect in
    let op = c.args.op in
    let row : ℕ → ℕ → Operation = λ t g. record { effect = e; op = op; takes = t; gives = g } in
    ap declaration (c.unwrap_or.ensures ∙ ap (λ t. unwrap_or c.copied.result (row t c.from-2.result)) c.from.ensures ∙ ap (λ g. unwrap_or c.copied.result (row 2 g)) c.from-2.ensures
    ∙ ap (λ f. unwrap_or f (unit_to_unit e op)) (c.copied.ensures ∙ find_from_yields_List (λ o. declares (declaration o) e op) _ _ c.find-found.result c.find-found.ensures.ran (YieldsList-from_slice os cc) (λ x b q k. search (rules, tests))))
    ∙ found_signature os e op ∙ ap (λ xs. signature (map declaration xs) e op) c.listed-operations.ensures.value

use Rattle.std.proofs.Common.{◌≡◌, ◌≤◌, length, get_or, sym, ◌∙◌, rules}
use Rattle.std.proofs.lemmas.List.{take_rest}
use Rattle.eff.specs.declared.kind.Kind.TheVariants as k
use Rattle.step.proofs.Skipping.{blank}
use Rattle.step.proofs.Searching.{found, on, ended, over}
use Rattle.step.proofs.cases.first_case.Goals as goal
use Rattle.step.proofs.cases.first_case.Goals.{then-rest-lt2, in-len2-up+else-eq}

pub returns-then-names_call : goal.returns-then-names_call
returns-then-names_call c =
    let kind : (get_or c.loop-rest.rest.now 0 blank).kind ≡ k.Case = search rules in
    found c.behind_term-body.result kind (take_rest c.loop-rest.rest.now 1) c.behind_term-body.ensures.behind (sym c.names_call.ensures ∙ c.if-names_call.true) c.loop-rest.invariant

pub loop-rest-preserved : goal.loop-rest-preserved
loop-rest-preserved c =
    let kind : (get_or c.loop-rest.rest.now 0 blank).kind ≡ k.Case = search rules in
    on kind (take_rest c.loop-rest.rest.now 1) c.behind_term-body.ensures.behind c.behind_term-rest.ensures.behind (sym c.names_call.ensures ∙ c.if-names_call.false) c.loop-rest.invariant

pub returns : goal.returns
returns c =
    elim c.if-rest-lt2.branch [
      | then-rest-lt2 w ↦ (let l : length c.loop-rest.rest.now ≤ 1 = search rules in over l c.loop-rest.invariant)
      | in-len2-up+else-eq w ↦ (let other : (get_or c.loop-rest.rest.now 0 blank).kind ≡ k.Case → ⊥ = search rules in ended other c.loop-rest.invariant)
    ]

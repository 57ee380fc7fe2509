use Rattle.std.proofs.Common.{◌≡◌, ◌<◌, ◌≤◌, get_or, Some, None, sym, ◌∙◌, ap, rules}
use Rattle.std.proofs.lemmas.List.{take_rest}
use Rattle.eff.specs.Grounds.{grounded}
use Rattle.eff.specs.Questions.{asked}
use Rattle.eff.specs.declared.kind.Kind.TheVariants as k
use Rattle.step.specs.Valued.{valued}
use Rattle.step.proofs.Skipping.{blank}
use Rattle.step.proofs.Answering.{call_stuck, call_wide, call_asks, call_no_value, call_no_ground}
use Rattle.step.proofs.stepping.ask.Goals as goal

pub returns-then-ne : goal.returns-then-ne
returns-then-ne g c =
    let other : (get_or c.args.from.parts.now 1 blank).kind ≡ k.Instance → ⊥ = search rules in
    call_stuck other

pub returns-in_err-ok : goal.returns-in_err-ok
returns-in_err-ok g c =
    let kind : (get_or c.args.from.parts.now 1 blank).kind ≡ k.Instance = search rules in
    let wide : 255 < (get_or c.args.from.parts.now 1 blank).a = search rules in
    rw c.from_residual.ensures (call_wide kind wide)

pub returns-in_err-argument : goal.returns-in_err-argument
returns-in_err-argument g c =
    let kind : (get_or c.args.from.parts.now 1 blank).kind ≡ k.Instance = search rules in
    let byte : (get_or c.args.from.parts.now 1 blank).a ≤ 255 = search rules in
    let none : c.worth.result ≡ None = search rules in
    rw c.from_residual-in_err-argument.ensures (call_no_value kind byte (ap valued (sym (take_rest c.args.from.parts.now 2)) ∙ sym c.worth.ensures ∙ none))

pub returns-in_err-wanted : goal.returns-in_err-wanted
returns-in_err-wanted g c =
    let kind : (get_or c.args.from.parts.now 1 blank).kind ≡ k.Instance = search rules in
    let byte : (get_or c.args.from.parts.now 1 blank).a ≤ 255 = search rules in
    let none : grounded c.gives.result ≡ None = search rules in
    rw c.from_residual-in_err-wanted.ensures (call_no_ground kind byte (sym (ap grounded c.gives.ensures) ∙ none))

pub returns : goal.returns
returns g c =
    let kind : (get_or c.args.from.parts.now 1 blank).kind ≡ k.Instance = search rules in
    let byte : (get_or c.args.from.parts.now 1 blank).a ≤ 255 = search rules in
    let instance : (get_or c.args.from.parts.now 1 blank).a ≡ c.in_ok-ok.field-0 = search rules in
    let value : c.worth.result ≡ Some c.in_ok-argument.argument = search rules in
    let ground : grounded c.gives.result ≡ Some c.in_ok-wanted.wanted = search rules in
    call_asks _ kind byte (take_rest c.args.from.parts.now 2) c.behind_term.ensures.behind (ap valued (sym (take_rest c.args.from.parts.now 2)) ∙ sym c.worth.ensures ∙ value) (sym (ap grounded c.gives.ensures) ∙ ground)
    (ap (λ i. asked i (get_or c.args.from.parts.now 0 blank).b (Some c.in_ok-argument.argument) (Some c.in_ok-wanted.wanted)) instance)

use Rattle.std.proofs.Common.{◌≡◌, length, Some, None, Err, ap, ◌∙◌, subst, arith, rules}
use Rattle.std.proofs.lemmas.List.{take_rest}
use Rattle.step.specs.Valued.{shown_parts}
use Rattle.step.specs.Stages.{AskingOf}
use Rattle.step.specs.declared.halt.Halt.TheVariants.{Stuck}
use Rattle.step.proofs.Answering.{call_three, is_call, whole_two, step_val, step_call, step_next}
use Rattle.step.proofs.Rooms.{within}
use Rattle.step.proofs.stepping.step.Goals as goal

pub bounds-0 : goal.bounds-0
bounds-0 g c = omega (arith, whole_two c.args.from.whole)

pub ask-requires-clause-call : goal.ask-requires-clause-call
ask-requires-clause-call g c = is_call c.args.from.whole c.in-Call.is

pub ask-requires-clause-three : goal.ask-requires-clause-three
ask-requires-clause-three g c = call_three (is_call c.args.from.whole c.in-Call.is)

pub returns-in-Val-clause-steps : goal.returns-in-Val-clause-steps
returns-in-Val-clause-steps g c = step_val (length c.args.to.now) _ c.args.from.whole c.in-Val.is (c.of.ensures ∙ ap shown_parts (take_rest c.args.from.parts.now 1))

pub returns-in_err-ok_or-in-Call-clause-steps : goal.returns-in_err-ok_or-in-Call-clause-steps
returns-in_err-ok_or-in-Call-clause-steps g c =
    let none : c.ask.result ≡ None = search rules in
    let e : c.from_residual.result ≡ Err Stuck = search rules in
    rw e (step_call (length c.args.to.now) _ c.args.from.whole c.in-Call.is (subst (AskingOf _ _) none c.ask.ensures))

pub returns-in_ok-ok_or-in-Call-clause-steps : goal.returns-in_ok-ok_or-in-Call-clause-steps
returns-in_ok-ok_or-in-Call-clause-steps g c =
    let some : c.ask.result ≡ Some c.in_ok-ok_or-in-Call.field-0 = search rules in
    step_call (length c.args.to.now) _ c.args.from.whole c.in-Call.is (subst (AskingOf _ _) some c.ask.ensures)

pub returns-in_ok-ok_or-in-Call-clause-within : goal.returns-in_ok-ok_or-in-Call-clause-within
returns-in_ok-ok_or-in-Call-clause-within g c = within _ c.args.from.whole (returns-in_ok-ok_or-in-Call-clause-steps g c)

pub returns-in_err-next-in_default : goal.returns-in_err-next-in_default
returns-in_err-next-in_default g c =
    let e : c.from_residual-in_err-next-in_default.result ≡ Err c.in_err-next-in_default.field-0.0 = search rules in
    rw e
    (record {
      within = tt;
      keeps = tt;
      steps = step_next (length c.args.to.now) _ c.args.from.whole c.in_default.not-Val c.in_default.not-Call c.split_at_redex.ensures c.in_err-next-in_default.ensures;
    })

pub returns-in_ok-next-in_default : goal.returns-in_ok-next-in_default
returns-in_ok-next-in_default g c =
    let steps = step_next (length c.args.to.now) c.next.new.to c.args.from.whole c.in_default.not-Val c.in_default.not-Call c.split_at_redex.ensures c.in_ok-next-in_default.ensures in
    record { within = within _ c.args.from.whole steps; keeps = tt; steps = steps }

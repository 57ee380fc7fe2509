use Rattle.std.proofs.Common.{refl, ap, ◌∙◌, ap₂, ⊎_elim}
use Rattle.eff.specs.Types.{fun}
use Rattle.eff.specs.Tables.{Operation, type}
use Rattle.eff.specs.declared.kind.Kind.TheVariants as k
use Rattle.claim.specs.Checker as s
use Rattle.sheet.specs.declared.dirty.Dirty.{Dirty}
use Rattle.claim.proofs.Walking.{last, onward, broken, under, under_2, past_end, fails, arm, quiet_expr, quiet_list, quiet_comp}
use Rattle.claim.proofs.checker.Checker.+cases_computation_expression.Goals as goal

pub expression-returns-in_default : goal.expression-returns-in_default
expression-returns-in_default t c =
    past_end c.in_default.is c.in_ok-way.ensures

pub expression-returns-in_err-way : goal.expression-returns-in_err-way
expression-returns-in_err-way t c =
    fails _ c.from_residual.ensures.1 c.in_err-way.ensures

pub expression-returns-in_default-kind : goal.expression-returns-in_default-kind
expression-returns-in_default-kind t c =
    quiet_expr c.in-Some.is c.in_ok-way.ensures c.in_default-kind.not-Successor c.in_default-kind.not-Function c.in_default-kind.not-Handler

pub cases-returns-in_default : goal.cases-returns-in_default
cases-returns-in_default t c =
    past_end c.in_default.is c.in_ok-way.ensures

pub cases-returns-in_err-way : goal.cases-returns-in_err-way
cases-returns-in_err-way t c =
    fails _ c.from_residual.ensures.1 c.in_err-way.ensures

pub cases-returns-in_default-kind : goal.cases-returns-in_default-kind
cases-returns-in_default-kind t c =
    quiet_list c.in-Some.is c.in_ok-way.ensures c.in_default-kind.not-Case

pub computation-returns-in_default : goal.computation-returns-in_default
computation-returns-in_default t c =
    past_end c.in_default.is c.in_ok-way.ensures

pub computation-returns-in_err-way : goal.computation-returns-in_err-way
computation-returns-in_err-way t c =
    fails _ c.from_residual.ensures.1 c.in_err-way.ensures

pub computation-returns-in_default-kind : goal.computation-returns-in_default-kind
computation-returns-in_default-kind t c =
    quiet_comp c.in-Some.is c.in_ok-way.ensures c.in_default-kind.not-If c.in_default-kind.not-Match c.in_default-kind.not-Absurd c.in_default-kind.not-Val c.in_default-kind.not-Apply c.in_default-kind.not-Call c.in_default-kind.not-Let c.in_default-kind.not-LetRec c.in_default-kind.not-With

pub expression-returns-in-Successor : goal.expression-returns-in-Successor
expression-returns-in-Successor t c =
    arm c.in-Some.is c.in_ok-way.ensures k.Successor c.in-Successor.is (last c.expression.ensures)

pub expression-returns-in-Function : goal.expression-returns-in-Function
expression-returns-in-Function t c =
    arm c.in-Some.is c.in_ok-way.ensures k.Function c.in-Function.is (last (under c.under.ensures c.listed.ensures.value c.computation.ensures))

pub expression-returns-in_err-computation-in-Handler : goal.expression-returns-in_err-computation-in-Handler
expression-returns-in_err-computation-in-Handler t c =
    arm c.in-Some.is c.in_ok-way.ensures k.Handler c.in-Handler.is (broken _ c.in_err-computation-in-Handler.was c.from_residual-in_err-computation-in-Handler.ensures.1 (under c.under-in-Handler.ensures c.listed-in-Handler.ensures.value c.computation-in-Handler.ensures))

pub expression-returns-in_ok-computation-in-Handler : goal.expression-returns-in_ok-computation-in-Handler
expression-returns-in_ok-computation-in-Handler t c =
    arm c.in-Some.is c.in_ok-way.ensures k.Handler c.in-Handler.is (onward c.in_ok-computation-in-Handler.was (under c.under-in-Handler.ensures c.listed-in-Handler.ensures.value c.computation-in-Handler.ensures) (last c.cases.ensures))

pub cases-returns-in_err-expression-in-Case : goal.cases-returns-in_err-expression-in-Case
cases-returns-in_err-expression-in-Case t c =
    arm c.in-Some.is c.in_ok-way.ensures k.Case c.in-Case.is (broken _ c.in_err-expression-in-Case.was c.from_residual-in_err-expression-in-Case.ensures.1 c.expression.ensures)

pub cases-returns-in_err-computation-in-Case : goal.cases-returns-in_err-computation-in-Case
cases-returns-in_err-computation-in-Case t c =
    arm c.in-Some.is c.in_ok-way.ensures k.Case c.in-Case.is (onward c.in_ok-expression-in-Case.was c.expression.ensures (broken _ c.in_err-computation-in-Case.was c.from_residual-in_err-computation-in-Case.ensures.1 (under_2 c.under-taken.ensures c.under.ensures (c.listed.ensures.value ∙ ap (λ (o : Operation). type (s.declared c.args.self.now) o.takes) c.signature-operation.ensures) (ap₂ (λ (o : Operation) (C : Dirty). fun (type (s.declared c.args.self.now) o.gives) (type (s.declared c.args.self.now) C.ty) C.dirt) c.signature-operation.ensures c.nil.ensures) c.computation.ensures)))

pub cases-returns-in_ok-computation-in-Case : goal.cases-returns-in_ok-computation-in-Case
cases-returns-in_ok-computation-in-Case t c =
    arm c.in-Some.is c.in_ok-way.ensures k.Case c.in-Case.is (onward c.in_ok-expression-in-Case.was c.expression.ensures (onward c.in_ok-computation-in-Case.was (under_2 c.under-taken.ensures c.under.ensures (c.listed.ensures.value ∙ ap (λ (o : Operation). type (s.declared c.args.self.now) o.takes) c.signature-operation.ensures) (ap₂ (λ (o : Operation) (C : Dirty). fun (type (s.declared c.args.self.now) o.gives) (type (s.declared c.args.self.now) C.ty) C.dirt) c.signature-operation.ensures c.nil.ensures) c.computation.ensures) (last c.cases.ensures)))

pub computation-returns-in_err-expression-in-If : goal.computation-returns-in_err-expression-in-If
computation-returns-in_err-expression-in-If t c =
    arm c.in-Some.is c.in_ok-way.ensures k.If c.in-If.is (broken _ c.in_err-expression-in-If.was c.from_residual-in_err-expression-in-If.ensures.1 c.expression.ensures)

pub computation-returns-in_err-computation-in-If : goal.computation-returns-in_err-computation-in-If
computation-returns-in_err-computation-in-If t c =
    arm c.in-Some.is c.in_ok-way.ensures k.If c.in-If.is (onward c.in_ok-expression-in-If.was c.expression.ensures (broken _ c.in_err-computation-in-If.was c.from_residual-in_err-computation-in-If.ensures.1 c.computation.ensures))

pub computation-returns-in_ok-computation-in-If : goal.computation-returns-in_ok-computation-in-If
computation-returns-in_ok-computation-in-If t c =
    arm c.in-Some.is c.in_ok-way.ensures k.If c.in-If.is (onward c.in_ok-expression-in-If.was c.expression.ensures (onward c.in_ok-computation-in-If.was c.computation.ensures (last c.computation-in-If.ensures)))

pub computation-returns-in_err-expression-in-Match : goal.computation-returns-in_err-expression-in-Match
computation-returns-in_err-expression-in-Match t c =
    arm c.in-Some.is c.in_ok-way.ensures k.Match c.in-Match.is (broken _ c.in_err-expression-in-Match.was c.from_residual-in_err-expression-in-Match.ensures.1 c.expression-in-Match.ensures)

pub computation-returns-in_err-computation-in-Match : goal.computation-returns-in_err-computation-in-Match
computation-returns-in_err-computation-in-Match t c =
    arm c.in-Some.is c.in_ok-way.ensures k.Match c.in-Match.is (onward c.in_ok-expression-in-Match.was c.expression-in-Match.ensures (broken _ c.in_err-computation-in-Match.was c.from_residual-in_err-computation-in-Match.ensures.1 c.computation-in-Match.ensures))

pub computation-returns-in_ok-computation-in-Match : goal.computation-returns-in_ok-computation-in-Match
computation-returns-in_ok-computation-in-Match t c =
    arm c.in-Some.is c.in_ok-way.ensures k.Match c.in-Match.is (onward c.in_ok-expression-in-Match.was c.expression-in-Match.ensures (onward c.in_ok-computation-in-Match.was c.computation-in-Match.ensures (last (under c.under.ensures refl c.computation-in-Match-2.ensures))))

pub computation-returns-in-Absurd : goal.computation-returns-in-Absurd
computation-returns-in-Absurd t c =
    let rest = c.expression-in-Absurd.ensures in
    ⊎_elim (λ e. arm c.in-Some.is c.in_ok-way.ensures k.Absurd e (last rest)) (λ e. arm c.in-Some.is c.in_ok-way.ensures k.Val e (last rest)) c.in-Absurd.is

pub computation-returns-in_err-expression-in-Apply : goal.computation-returns-in_err-expression-in-Apply
computation-returns-in_err-expression-in-Apply t c =
    arm c.in-Some.is c.in_ok-way.ensures k.Apply c.in-Apply.is (broken _ c.in_err-expression-in-Apply.was c.from_residual-in_err-expression-in-Apply.ensures.1 c.expression-in-Apply.ensures)

pub computation-returns-in_ok-expression-in-Apply : goal.computation-returns-in_ok-expression-in-Apply
computation-returns-in_ok-expression-in-Apply t c =
    arm c.in-Some.is c.in_ok-way.ensures k.Apply c.in-Apply.is (onward c.in_ok-expression-in-Apply.was c.expression-in-Apply.ensures (last c.expression-in-Apply-2.ensures))

pub computation-returns-in_err-expression-in-Call : goal.computation-returns-in_err-expression-in-Call
computation-returns-in_err-expression-in-Call t c =
    arm c.in-Some.is c.in_ok-way.ensures k.Call c.in-Call.is (broken _ c.in_err-expression-in-Call.was c.from_residual-in_err-expression-in-Call.ensures.1 c.expression-in-Call.ensures)

pub computation-returns-in_err-expression-in-Call-2 : goal.computation-returns-in_err-expression-in-Call-2
computation-returns-in_err-expression-in-Call-2 t c =
    arm c.in-Some.is c.in_ok-way.ensures k.Call c.in-Call.is (onward c.in_ok-expression-in-Call.was c.expression-in-Call.ensures (broken _ c.in_err-expression-in-Call-2.was c.from_residual-in_err-expression-in-Call-2.ensures.1 c.expression-in-Call-2.ensures))

pub computation-returns-in_ok-expression-in-Call-2 : goal.computation-returns-in_ok-expression-in-Call-2
computation-returns-in_ok-expression-in-Call-2 t c =
    arm c.in-Some.is c.in_ok-way.ensures k.Call c.in-Call.is (onward c.in_ok-expression-in-Call.was c.expression-in-Call.ensures (onward c.in_ok-expression-in-Call-2.was c.expression-in-Call-2.ensures (last (under c.under-in-Call.ensures (c.listed-given.ensures.value ∙ ap (λ (o : Operation). type (s.declared c.args.self.now) o.gives) c.signature.ensures) c.computation-in-Call.ensures))))

pub computation-returns-in_err-computation-in-Let : goal.computation-returns-in_err-computation-in-Let
computation-returns-in_err-computation-in-Let t c =
    arm c.in-Some.is c.in_ok-way.ensures k.Let c.in-Let.is (broken _ c.in_err-computation-in-Let.was c.from_residual-in_err-computation-in-Let.ensures.1 c.computation-in-Let.ensures)

pub computation-returns-in_ok-computation-in-Let : goal.computation-returns-in_ok-computation-in-Let
computation-returns-in_ok-computation-in-Let t c =
    arm c.in-Some.is c.in_ok-way.ensures k.Let c.in-Let.is (onward c.in_ok-computation-in-Let.was c.computation-in-Let.ensures (last (under c.under-in-Let.ensures c.listed.ensures.value c.computation-in-Let-2.ensures)))

pub computation-returns-in_err-computation-in-LetRec : goal.computation-returns-in_err-computation-in-LetRec
computation-returns-in_err-computation-in-LetRec t c =
    arm c.in-Some.is c.in_ok-way.ensures k.LetRec c.in-LetRec.is (broken _ c.in_err-computation-in-LetRec.was c.from_residual-in_err-computation-in-LetRec.ensures.1 (under_2 c.under-taken.ensures c.under-in-LetRec.ensures c.parameter.ensures c.listed-function.ensures.value c.computation-in-LetRec.ensures))

pub computation-returns-in_ok-computation-in-LetRec : goal.computation-returns-in_ok-computation-in-LetRec
computation-returns-in_ok-computation-in-LetRec t c =
    arm c.in-Some.is c.in_ok-way.ensures k.LetRec c.in-LetRec.is (onward c.in_ok-computation-in-LetRec.was (under_2 c.under-taken.ensures c.under-in-LetRec.ensures c.parameter.ensures c.listed-function.ensures.value c.computation-in-LetRec.ensures) (last (under c.under-in-LetRec-2.ensures c.listed-function.ensures.value c.computation-in-LetRec-2.ensures)))

pub computation-returns-in_err-expression-in-With : goal.computation-returns-in_err-expression-in-With
computation-returns-in_err-expression-in-With t c =
    arm c.in-Some.is c.in_ok-way.ensures k.With c.in-With.is (broken _ c.in_err-expression-in-With.was c.from_residual-in_err-expression-in-With.ensures.1 c.expression-in-With.ensures)

pub computation-returns-in_ok-expression-in-With : goal.computation-returns-in_ok-expression-in-With
computation-returns-in_ok-expression-in-With t c =
    arm c.in-Some.is c.in_ok-way.ensures k.With c.in-With.is (onward c.in_ok-expression-in-With.was c.expression-in-With.ensures (last c.computation-in-With.ensures))

use Rattle.std.proofs.Common.{◌≡◌, ◌<◌, ◌≤◌, length, Ok, sym, ap, ◌∙◌, subst, arith, ne_eqb}
use Rattle.eff.specs.Outcome.{step}
use Rattle.eff.specs.Spelling.{term_of}
use Rattle.eff.specs.Sorts.{comp}
use Rattle.eff.specs.Syntax.{Term, size, put}
use Rattle.eff.specs.Questions.{term}
use Rattle.eff.proofs.Spelling.{term_back}
use Rattle.machine.specs.Turns.{limit, turn, asks}
use Rattle.step.specs.Steps.{Steps, Within}
use Rattle.step.specs.declared.stepping.Outcome.TheVariants.{Asks}
use Rattle.runs.specs.Turned.{Put}
use Rattle.runs.proofs.Following.{asks_follow, put_turned}
use Rattle.runs.proofs.turn.take_turn.Goals as goal

pub returns-in-Ok-Asks-clause-turned : goal.returns-in-Ok-Asks-clause-turned
returns-in-Ok-Asks-clause-turned g c =
    let T = g.S.Signatures.tables c.args.signatures.now in
    let ps = c.args.computation.parts.now in
    let low : c.args.steps < limit = omega (arith, c.if-steps-ge-LIMIT.false) in
    let e : c.in-Ok-Asks.field-0 ≡ Asks c.in-Ok-Asks.asking = c.in-Ok-Asks.field-0-is in
    let room = length c.args.second.now in
    let h = subst (λ o. Steps T ps room c.step.new.to (Ok o)) e c.in-Ok-Asks.ensures.steps in
    let w = subst (λ o. Within (length ps) room c.step.new.to (Ok o)) e c.in-Ok-Asks.ensures.within in
    let s = asks_follow T room c.args.steps low (step T (term_of ps)) _ c.step.new.to c.in-Ok-Asks.asking h.answers c.requires.1 in
    let is : term_of c.in-Ok-Asks.asking.continuation.now ≡ s.continuation = ap term_of s.parts ∙ term_back s.continuation in
    let fits : size s.continuation ≤ room = omega (arith, ap length s.parts, w.1, c.requires.0) in
    put_turned _ c.in-Ok-Asks.asking.question s.continuation (length c.step.new.to) room (g.H.Host.replies c.args.host.now) (g.H.Host.replies c.ask.new.host) c.ask.new.to c.ask.result
    (subst (λ b. turn T room b c.args.steps (term_of ps) ≡ asks c.in-Ok-Asks.asking.question (λ w. put 0 (term w) s.continuation)) (sym (ne_eqb c.args.left 0 c.if-left-eq0.false)) s.is)
    fits
    (subst (λ (k : Term comp). Put c.in-Ok-Asks.asking.question k (length c.step.new.to) (g.H.Host.replies c.args.host.now) (g.H.Host.replies c.ask.new.host) c.ask.new.to c.ask.result) is c.ask.ensures.put)

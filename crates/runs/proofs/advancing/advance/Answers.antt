use Rattle.std.proofs.Common.{◌≡◌, ℕ, true, rules, ◌++◌, ◌-◌, ◌≤◌, eqb, length, min, take, drop, length-append, length-take, sym, refl, ap, ◌∙◌, subst, arith}
use mathlib.Core.Bool.{Bool-set}
use mathlib.Core.Logic.{∥∥₁_elim, ∥∥₁_prop}
use Rattle.eff.specs.declared.question.Call.{Call}
use Rattle.host.specs.Meaning.{Lawful, Alike}
use Rattle.recipe.specs.Readers.{rows, declared}
use Rattle.recipe.proofs.Admitted.{checks_of}
use Rattle.machine.specs.declared.report.State.{State}
use Rattle.machine.specs.declared.report.State.TheVariants.{Paused, Stopped}
use Rattle.machine.specs.Turns.{Gone, paused, after_all}
use Rattle.machine.specs.Views.{questions}
use Rattle.machine.proofs.Using.{every_use, stands_more, still_view, still_means}
use Rattle.runs.specs.Viewed.{viewed}
use Rattle.runs.specs.declared.turn.Turn.TheVariants.{Rests, Stops, Steps, Answers}
use Rattle.std.proofs.lemmas.List.{length-drop}
use Rattle.runs.proofs.Following.{going_widened, answered_widened, turned_so}
use Rattle.runs.proofs.Between.{Moment, Comes, Left, begins, swapped, paused_begun, not_paused, byte_of, stepped, answered, rested, stopped, view_at, onward_is, left_view}
use Rattle.runs.proofs.advancing.advance.Goals as goal
use Rattle.runs.proofs.advancing.advance.Goals.{in-Steps, in-Answers, in-Rests, in-Stops}

pub loop-rest-init : goal.loop-rest-init
loop-rest-init g c =
    let is : c.args.run.report.state ≡ Paused = search rules in
    let p : paused c.args.run.report.state ≡ true = ap paused is in
    begins (rows c.args.run.recipe.now) _ c.args.allowance c.args.run.fits (c.args.run.running (paused_begun c.args.run.report.state p)) c.args.run.counted (c.args.run.answered p)

pub invariant_of-computation : goal.invariant_of-computation
invariant_of-computation g c = record { whole = rw c.front.ensures (∥∥₁_elim c.loop-rest.invariant.running ∥∥₁_prop (λ r. r.whole)) }

pub take_turn-requires : goal.take_turn-requires
take_turn-requires g c =
    let inv = c.loop-rest.invariant in (
      omega (arith, inv.fits, inv.shorter, c.min-room.ensures, ap length c.front.ensures, length-take c.loop-rest.size c.loop-rest.first.now, length-take c.min-room.result c.loop-rest.second.now),
      rw c.front.ensures (∥∥₁_elim inv.running (Bool-set _ _) (byte_of (rows c.args.run.recipe.now) (λ z. checks_of c.args.run.recipe.now) (take c.loop-rest.size c.loop-rest.first.now))),
    )

pub loop-rest-preserved : goal.loop-rest-preserved
loop-rest-preserved g c =
    let r = c.args.run.recipe.now in
    let l = rows r in
    let e : Moment = record { first = c.args.run.first.now; second = c.args.run.second.now; size = c.args.run.size; steps = c.args.run.report.steps; asked = c.args.run.report.asked; means = g.H.Host.replies c.args.host.now; knows = g.H.Host.known c.args.host.now } in
    let v : Moment = record { first = c.loop-rest.first.now; second = c.loop-rest.second.now; size = c.loop-rest.size; steps = c.loop-rest.steps; asked = c.loop-rest.asked; means = g.H.Host.replies c.loop-rest.host; knows = g.H.Host.known c.loop-rest.host } in
    let lw : Lawful v.means v.knows = record { typed = λ qs q. g.met.H.Host.typed c.loop-rest.host qs q; refuses = λ qs q. g.met.H.Host.refuses c.loop-rest.host qs q } in
    let means = g.H.Host.replies c.take_turn.new.host in
    let knows = g.H.Host.known c.take_turn.new.host in
    let behind = drop c.min-room.result c.loop-rest.second.now in
    let new = c.take_turn.new.second ++ behind in
    let len : length new ≡ length c.loop-rest.second.now =
    omega (arith, c.take_turn.auto.second, length-append c.take_turn.new.second behind, length-take c.min-room.result c.loop-rest.second.now, length-drop c.min-room.result c.loop-rest.second.now) in
    let lent : length (take c.min-room.result c.loop-rest.second.now) ≡ min (length c.args.run.first.now) (length c.args.run.second.now) =
    omega (arith, c.loop-rest.invariant.shorter, c.min-room.ensures, length-take c.min-room.result c.loop-rest.second.now) in
    let fits : min (length c.args.run.first.now) (length c.args.run.second.now) ≤ length c.take_turn.new.second = omega (arith, lent, c.take_turn.auto.second) in
    let P : ℕ → ℕ → Type 0 = λ n k. Comes l e c.args.allowance (swapped v new n k means knows) (c.loop-rest.left - 1) in
    elim c.match-take_turn.branch [
      | in-Steps w ↦
          subst (λ n. P n c.match-take_turn.asked) (sym w.size-is) (subst (λ k. P w.in-Steps.next k) (sym w.asked-is)
          (let h = turned_so (declared r) (eqb c.loop-rest.left 0) c.loop-rest.steps v.means means c.take_turn.new.second (Steps w.in-Steps.next) c.front.ensures lent w.in-Steps.ensures.turned in
          stepped l (λ z. checks_of r) e c.args.allowance v c.loop-rest.left new w.in-Steps.next means knows lw c.loop-rest.invariant (going_widened behind fits h.0) h.1 w.in-Steps.ensures.known len))
      | in-Answers w ↦
          subst (λ n. P n c.match-take_turn.asked) (sym w.size-is) (subst (λ k. P w.in-Answers.next k) (sym w.asked-is)
          (let h = turned_so (declared r) (eqb c.loop-rest.left 0) c.loop-rest.steps v.means means c.take_turn.new.second (Answers w.in-Answers.next) c.front.ensures lent w.in-Answers.ensures.turned in
          answered l (λ z. checks_of r) e c.args.allowance v c.loop-rest.left new w.in-Answers.next means knows lw c.loop-rest.invariant h.0 (answered_widened behind fits h.1) w.in-Answers.ensures.known len))
    ]

pub returns-then-ne : goal.returns-then-ne
returns-then-ne g c =
    let other : c.args.run.report.state ≡ Paused → ⊥ = search rules in
    let m = g.H.Host.replies c.args.host.now in
    let k = g.H.Host.known c.args.host.now in
    let e = not_paused c.args.run.report.state other in
    let seen = still_view m c.args.allowance (viewed c.args.run) e in
    let al = still_means m c.args.allowance (viewed c.args.run) e in
    record {
      view = seen;
      means = al;
      knows = λ q. refl;
      stands = λ u h. stands_more u c.args.allowance _ _ m m k k h seen al (λ q. refl);
      guarantee = every_use;
      recipe = refl;
      ended = λ z. (refl, refl);
    }

pub returns : goal.returns
returns g c =
    let r = c.args.run.recipe.now in
    let l = rows r in
    let e : Moment = record { first = c.args.run.first.now; second = c.args.run.second.now; size = c.args.run.size; steps = c.args.run.report.steps; asked = c.args.run.report.asked; means = g.H.Host.replies c.args.host.now; knows = g.H.Host.known c.args.host.now } in
    let v : Moment = record { first = c.loop-rest.first.now; second = c.loop-rest.second.now; size = c.loop-rest.size; steps = c.loop-rest.steps; asked = c.loop-rest.asked; means = g.H.Host.replies c.loop-rest.host; knows = g.H.Host.known c.loop-rest.host } in
    let means = g.H.Host.replies c.take_turn.new.host in
    let knows = g.H.Host.known c.take_turn.new.host in
    let behind = drop c.min-room.result c.loop-rest.second.now in
    let new = c.take_turn.new.second ++ behind in
    let len : length new ≡ length c.loop-rest.second.now =
    omega (arith, c.take_turn.auto.second, length-append c.take_turn.new.second behind, length-take c.min-room.result c.loop-rest.second.now, length-drop c.min-room.result c.loop-rest.second.now) in
    let lent : length (take c.min-room.result c.loop-rest.second.now) ≡ min (length c.args.run.first.now) (length c.args.run.second.now) =
    omega (arith, c.loop-rest.invariant.shorter, c.min-room.ensures, length-take c.min-room.result c.loop-rest.second.now) in
    let is : c.args.run.report.state ≡ Paused = search rules in
    let p : paused c.args.run.report.state ≡ true = ap paused is in
    let P : State → ℕ → Type 0 = λ s k. Left l (λ z. checks_of r) e c.args.allowance s v k means in
    let x : P c.match-take_turn.state c.match-take_turn.asked =
    elim c.match-take_turn.branch [
      | in-Rests w ↦
          subst (λ s. P s c.match-take_turn.asked) (sym w.state-is) (subst (λ k. P w.in-Rests.rest k) (sym w.asked-is)
          (let h = turned_so (declared r) (eqb c.loop-rest.left 0) c.loop-rest.steps v.means means c.take_turn.new.second (Rests w.in-Rests.rest) c.front.ensures lent w.in-Rests.ensures.turned in
          rested l (λ z. checks_of r) e c.args.allowance v c.loop-rest.left w.in-Rests.rest means c.loop-rest.invariant h.0 h.1))
      | in-Stops w ↦
          subst (λ s. P s c.match-take_turn.asked) (sym w.state-is) (subst (λ k. P (Stopped w.in-Stops.call) k) (sym w.asked-is)
          (let h = turned_so (declared r) (eqb c.loop-rest.left 0) c.loop-rest.steps v.means means c.take_turn.new.second (Stops w.in-Stops.call) c.front.ensures lent w.in-Stops.ensures.turned in
          stopped l (λ z. checks_of r) e c.args.allowance v c.loop-rest.left w.in-Stops.call means c.loop-rest.invariant h.0 h.1))
    ] in
    let inv = c.loop-rest.invariant in
    let seen = left_view l (λ z. checks_of r) e c.args.allowance c.args.run.report.state c.match-take_turn.state v c.match-take_turn.asked means new p inv.shorter inv.longer len x in
    let al : Alike means (after_all (questions e.means c.args.allowance (view_at l (λ z. checks_of r) c.args.run.report.state e.asked e)) e.means) =
    subst (λ (o : Gone). Alike means (after_all o.put e.means)) (sym (onward_is l (λ z. checks_of r) e c.args.allowance c.args.run.report.state c.match-take_turn.state v c.match-take_turn.asked means p x)) x.alike in
    let kn : (q : Call) → knows q ≡ e.knows q = λ q. c.take_turn.ensures.known q ∙ inv.knows q in
    record {
      view = seen;
      means = al;
      knows = kn;
      stands = λ u h. stands_more u c.args.allowance _ _ e.means means e.knows knows h seen al kn;
      guarantee = every_use;
      recipe = refl;
      ended = λ z. absurd (let o : ◌≡◌ {A = ℕ} 0 1 = cc in omega arith);
    }

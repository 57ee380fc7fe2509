use Rattle.std.proofs.Common.{◌+◌, length, take, drop, sym, ap, ◌∙◌, subst, arith}
use Rattle.std.proofs.lemmas.List.{take_all, drop-set-lt}
use Rattle.recipe.specs.Readers.{rows}
use Rattle.machine.specs.Turns.{paused}
use Rattle.machine.specs.Views.{report}
use Rattle.machine.specs.Uses.{Stands}
use Rattle.machine.proofs.Using.{every_use}
use Rattle.runs.specs.Viewed.{viewed}
use Rattle.runs.specs.Acts.{by_acts}
use Rattle.runs.proofs.Conducted.{Reported, reported_more, reported_past, one_act_more, unready_ended}
use Rattle.runs.proofs.conducting.conduct.Goals as goal
use Rattle.runs.proofs.conducting.conduct.Goals.{then-i-reports, else-i-reports}

pub loop-i-preserved : goal.loop-i-preserved
loop-i-preserved g c =
    let acts = c.args.acts.now in
    let before = c.loop-i.invariant in
    let m = g.H.Host.replies c.perform-run.new.host in
    let k = g.H.Host.known c.perform-run.new.host in
    record {
      stands = λ u h.
          let stands : Stands (by_acts u (take (c.loop-i.i + 1) acts)) (viewed c.perform-run.result) m k =
          subst (λ x. Stands x (viewed c.perform-run.result) m k) (one_act_more u acts c.loop-i.i _ c.loop-i-test.true)
          (c.perform-run.ensures.stands (by_acts u (take c.loop-i.i acts)) (before.stands u h).0) in
          let out : Reported u acts (c.loop-i.i + 1) c.if-i-reports.reports =
          elim c.if-i-reports.branch [
            | then-i-reports w ↦
                subst (λ x. Reported u acts (c.loop-i.i + 1) x) (sym w.reports-is)
                (reported_more u acts c.loop-i.i c.loop-i.reports w.read.result (before.stands u h).1
                (w.read.ensures ∙ ap report stands.seen))
            | else-i-reports w ↦
                subst (λ x. Reported u acts (c.loop-i.i + 1) x) (sym w.reports-is)
                (reported_past u acts c.loop-i.i c.loop-i.reports (before.stands u h).1 w.if-i-reports.false)
          ] in
          (stands, out);
      recipe = c.perform-run.ensures.recipe ∙ before.recipe;
      rest = elim c.if-i-reports.branch [
        | then-i-reports w ↦
            ap (drop (length acts)) w.reports-is ∙ drop-set-lt (length acts) c.loop-i.reports c.loop-i.i w.read.result c.loop-i-test.true ∙ before.rest
        | else-i-reports w ↦ ap (drop (length acts)) w.reports-is ∙ before.rest
      ];
      ended = λ p.
          let b = before.ended p in
          let a = c.perform-run.ensures.ended (ap (λ r. paused r.report.state) b.0 ∙ p) in
          (a.0 ∙ b.0, a.1 ∙ b.1);
    }

pub returns : goal.returns
returns g c =
    let acts = c.args.acts.now in
    let m = g.H.Host.replies c.args.host.now in
    let k = g.H.Host.known c.args.host.now in
    let led = c.loop-i.invariant in
    let made = c.make-run.ensures in
    record {
      stands = λ u b.
          subst (λ x. Stands (by_acts u x) (viewed c.loop-i.run) (g.H.Host.replies c.loop-i.host) (g.H.Host.known c.loop-i.host)) (take_all c.loop-i.i acts c.loop-i-test.false)
          (led.stands u (made.stands m k u b)).0;
      each = λ u b j d h l. (led.stands u (made.stands m k u b)).1 j d (omega arith) (omega arith);
      begins = made.begins m k (record { typed = λ qs q. g.met.H.Host.typed c.args.host.now qs q; refuses = λ qs q. g.met.H.Host.refuses c.args.host.now qs q });
      guarantee = every_use;
      recipe = ap (λ r. r.now) led.recipe ∙ made.recipe;
      rest = led.rest;
      unready = λ p.
          let e = led.ended (ap (λ v. paused v.state) made.view ∙ unready_ended (rows c.args.recipe.now) _ _ p) in
          (ap (λ r. r.first.now) e.0 ∙ made.unready p, ap (λ r. r.second.now) e.0 ∙ made.second, e.1);
    }

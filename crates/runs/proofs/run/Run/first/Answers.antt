use Rattle.std.proofs.Common.{◌≡◌, take, refl, subst, arith}
use Rattle.std.proofs.lemmas.Option.{cond_some}
use mathlib.Core.Logic.{∥∥₁_elim, ∥∥₁_prop}
use Rattle.eff.specs.Sorts.{comp}
use Rattle.eff.specs.Spelling.{term_of}
use Rattle.eff.specs.Syntax.{Term, flatten, size}
use Rattle.machine.specs.Views.{begun}
use Rattle.runs.proofs.Beginning.{opens_so}
use Rattle.runs.proofs.run.Run.first.Goals as goal

pub returns : goal.returns
returns c =
    let r = c.args.self.now in
    record {
      slab = refl;
      opens = λ t e.
          let p = cond_some (begun r.report.state) (term_of (take r.size r.first.now)) t e in
          subst (λ (x : Term comp). take (size x) r.first.now ≡ flatten x) p.1
          (opens_so r.first.now r.size (omega (arith, r.fits)) (∥∥₁_elim (r.running p.0) ∥∥₁_prop (λ x. x.whole)));
    }

use Rattle.std.proofs.Common.{◌≡◌, ℕ, Ok, Err, Result, ap, ◌∙◌, arith}
use Rattle.fault.specs.declared.at.At.{At}
use Rattle.fault.specs.declared.claim.ClaimFault.{ClaimFault}
use Rattle.sheet.specs.declared.tables.Tables.{Tables}
use Rattle.sheet.specs.Rows.{Listing}
use Rattle.sheet.specs.Answer.{contents, listing}
use Rattle.sheet.proofs.Meaning.{listing_held}
use Rattle.recipe.specs.Admission.{admission, verdict, placed}
use Rattle.machine.specs.declared.report.Report.{Report}
use Rattle.counter.specs.Judged.{ran, in_run, found}
use Rattle.counter.proofs.judge.admit_and_run.Goals as goal

-- what stands in the place is run
placed_runs : (t : Tables) (x : Result Listing (At ClaimFault)) → Ok tt ≡ verdict x → contents t ≡ placed x → (r : Report) → Ok r ≡ ran (listing t) 512 512 → Ok r ≡ found x
placed_runs t (Ok l) h k r e = ap in_run (e ∙ ap (λ (m : Listing). ran m 512 512) (listing_held t l k))
placed_runs t (Err f) h k r e = let z : ◌≡◌ {A = ℕ} 0 1 = cc in absurd (omega arith)

pub returns : goal.returns
returns c =
    placed_runs c.admit.new.place.tables (admission c.args.sheet.now) c.in_ok-admit.ensures.value c.in_ok-admit.ensures.place c.in_ok-run.field-0 c.in_ok-run.ensures

-- The report on a sheet.
use Rattle.std.specs.Prelude.{ℕ, cond, List, length, Ok, Err, Result, nat_lt}
use Rattle.fault.specs.declared.at.At.{At}
use Rattle.fault.specs.declared.claim.ClaimFault.{ClaimFault}
use Rattle.fault.specs.declared.start.StartFault.{StartFault}
use Rattle.fault.specs.declared.run.RunFault.{RunFault}
use Rattle.fault.specs.declared.refusal.Refusal.{Refusal}
use Rattle.fault.specs.declared.refusal.Refusal.TheVariants.{TooLong, Fault}
use Rattle.fault.specs.Search.{Verdict}
use Rattle.fault.specs.Upward.{claim_in_run, start_in_run}
use Rattle.fault.specs.Refusals.{limit}
use Rattle.sheet.specs.Rows.{Listing}
use Rattle.recipe.specs.Admission.{admission}
use Rattle.machine.specs.declared.report.Report.{Report}
use Rattle.machine.specs.Views.{report, advance_view}
use Rattle.cutter.specs.Cutting.{fresh, cutting}
use Rattle.runs.specs.Starting.{tested, making}

-- by the test before a start: one advance by 1,000,000 over a fresh cutter, or refusal 9
abbrev pub started : Verdict StartFault → Listing → (first second : ℕ) → Result Report (At StartFault)
started (Ok u) l first second = Ok (report (advance_view (cutting fresh) 1000000 (making l first second)))
started (Err e) l first second = Err e

-- the run of a recipe with these rows, in slabs of these lengths
abbrev pub ran : Listing → (first second : ℕ) → Result Report (At StartFault)
ran l first second = started (tested (length l.parts) first second) l first second

abbrev pub in_run : Result Report (At StartFault) → Result Report (At RunFault)
in_run (Ok r) = Ok r
in_run (Err e) = Err (start_in_run e)

-- by what was made of the bytes
abbrev pub found : Result Listing (At ClaimFault) → Result Report (At RunFault)
found (Ok l) = in_run (ran l 512 512)
found (Err e) = Err (claim_in_run e)

abbrev pub refused : Result Report (At RunFault) → Result Report (Refusal RunFault)
refused (Ok r) = Ok r
refused (Err e) = Err (Fault e)

-- over the limit nothing is judged
abbrev pub judged : List ℕ → Result Report (Refusal RunFault)
judged bs = cond (nat_lt limit (length bs)) (Err TooLong) (refused (found (admission bs)))

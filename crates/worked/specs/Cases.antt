-- The worked cases, each from the rules.
use Rattle.std.specs.Prelude.{◌≡◌, ℕ, List, [], ◌∷◌, Some, None, Ok, Err, Option, Result, codes}
use Rattle.fault.specs.declared.at.At.{At}
use Rattle.fault.specs.declared.claim.ClaimFault.{ClaimFault}
use Rattle.fault.specs.declared.claim.ClaimFault.TheVariants.{Claim}
use Rattle.eff.specs.Types.{Ty}
use Rattle.eff.specs.Dirt.{sets}
use Rattle.eff.specs.Subtyping.{◌⊴◌}
use Rattle.eff.specs.Cases.{shop, one, two, to_unit}
use Rattle.host.specs.Meaning.{Replies}
use Rattle.host.specs.Rationing.{rationed}
use Rattle.cutter.specs.Cutting.{fresh, cutting, cutter_knows, depth_at, state_after}
use Rattle.cutter.specs.Table.{cut}
use Rattle.sheet.specs.Rows.{Listing}
use Rattle.recipe.specs.Admission.{admission}
use Rattle.machine.specs.Reports.{Five, five}
use Rattle.machine.specs.Views.{report, advance_view}
use Rattle.runs.specs.Starting.{making}
use Rattle.worked.specs.Sheets.{worked_text, handled_text, passed_text, forever_text, unit_text, truth_text, choices_text, wrong_text}

-- the five values reported of what was made of a sheet: a run in slabs of these lengths, advanced once by n over a host that means m
abbrev pub run_of : Replies → ℕ → (first second : ℕ) → Result Listing (At ClaimFault) → Option Five
run_of m n first second (Ok l) = Some (five (report (advance_view m n (making l first second))))
run_of m n first second (Err e) = None

abbrev pub reports : List ℕ → (steps asked a b : ℕ) → Option Five
reports word steps asked a b = Some (record { state = word; steps = steps; asked = asked; a = a; b = b })

-- subtyping over tables with one effect and its instances 0 and 1
infix 50 ◌⊑◌
abbrev pub ◌⊑◌ : Ty → Ty → Type 0
◌⊑◌ A B = ◌⊴◌ (sets shop) A B

pub record Worked : Type 0 where
  -- the worked sheet, at the counter and over a ration of 1
  pub at_counter : run_of (cutting fresh) 1000000 512 512 (admission worked_text) ≡ reports (codes "done") 2 2 1 151
  pub rationed_1 : run_of (rationed (cutting fresh) cutter_knows 1) 1000000 512 512 (admission worked_text) ≡ reports (codes "stopped") 1 2 0 2
  -- E^{0} ⊴ E^{0,1}, and E^{0,1} → unit!0 ⊴ E^{0} → unit!0, neither in reverse
  pub region_grows : one ⊑ two
  pub region_shrinks : ¬ (two ⊑ one)
  pub argument_shrinks : to_unit two ⊑ to_unit one
  pub argument_grows : ¬ (to_unit one ⊑ to_unit two)
  -- feel under a case k 7, and under nil alone
  pub handled : run_of (cutting fresh) 1000000 512 512 (admission handled_text) ≡ reports (codes "done") 3 0 1 8
  pub passed : run_of (cutting fresh) 1000000 512 512 (admission passed_text) ≡ reports (codes "done") 3 1 1 0
  -- a loop in slabs of 9 and of 10 parts, by an allowance of 5; without one it is paused and not yet full
  pub forever_9 : run_of (cutting fresh) 5 9 9 (admission forever_text) ≡ reports (codes "full") 0 0 0 0
  pub forever_10 : run_of (cutting fresh) 5 10 10 (admission forever_text) ≡ reports (codes "paused") 5 0 0 0
  pub forever_waits : run_of (cutting fresh) 0 9 9 (admission forever_text) ≡ reports (codes "paused") 0 0 0 0
  -- cutting 24 gives 0 motor steps, and 25 gives 1
  pub cut_24 : depth_at (state_after fresh (cut 24 ∷ [])) 0 ≡ 0
  pub cut_25 : depth_at (state_after fresh (cut 25 ∷ [])) 0 ≡ 1
  -- val () and val true are done by an allowance of 0
  pub unit_0 : run_of (cutting fresh) 0 512 512 (admission unit_text) ≡ reports (codes "done") 0 0 2 0
  pub truth_0 : run_of (cutting fresh) 0 512 512 (admission truth_text) ≡ reports (codes "done") 0 0 0 1
  -- the first branch of if true, and the predecessor in the second branch of match
  pub choices : run_of (cutting fresh) 1000000 512 512 (admission choices_text) ≡ reports (codes "done") 5 0 1 4
  -- a val () that claims nat is refused at its line
  pub wrong_claim : admission wrong_text ≡ Err (record { line = 8; fault = Claim })

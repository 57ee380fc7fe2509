-- A list of calls, and the reports after each.
use Rattle.std.proofs.Common.{◌≡◌, ℕ, ◌+◌, ◌<◌, ◌≤◌, false, min, None, List, [], ◌∷◌, ◌++◌, length, get_or, take, drop, set, sym, refl, ap, ◌∙◌, subst, ⊎_elim, arith, length-set}
use Rattle.std.proofs.lemmas.List.{take_more, get_or-set_same, get_or-set_other}
use Rattle.std.proofs.lemmas.Bool.{cases_eq}
use Rattle.machine.specs.declared.report.Report.{Report}
use Rattle.host.specs.Meaning.{Replies, Known}
use Rattle.sheet.specs.Rows.{Listing}
use Rattle.table.specs.Meant.{tables_of}
use Rattle.claim.specs.Recipes.{listed_term}
use Rattle.machine.specs.Turns.{paused, only_if, going}
use Rattle.machine.specs.Calls.{ready, unmade}
use Rattle.machine.specs.Views.{report}
use Rattle.machine.specs.Uses.{Use, view, Stands}
use Rattle.runs.specs.Viewed.{viewed}
use Rattle.runs.specs.declared.act.Act.{Act}
use Rattle.runs.specs.declared.run.Run.{Run}
use Rattle.runs.specs.Acts.{by_act, by_acts}
use Rattle.runs.specs.Starting.{making}

-- the report after the first k + 1 calls stands at k, for each k below i that has a place
abbrev pub Reported : Use → List Act → ℕ → List Report → Type 0
Reported u acts i out = (k : ℕ) (d : Report) → k < i → k < length out → get_or out k d ≡ report (view (by_acts u (take (k + 1) acts)))

-- a run that stood at a use, and its host and reports, after the first i calls
pub record Led {H : Type 0} (replies : H → Replies) (known : H → Known) (acts : List Act) (i : ℕ) (run₀ run : Run) (host₀ host : H) (out₀ out : List Report) : Type 0 where
  pub stands : (u : Use) → Stands u (viewed run₀) (replies host₀) (known host₀)
      → Stands (by_acts u (take i acts)) (viewed run) (replies host) (known host) × Reported u acts i out
  pub recipe : run.recipe ≡ run₀.recipe
  pub rest : drop (length acts) out ≡ drop (length acts) out₀
  pub ended : paused run₀.report.state ≡ false → (run ≡ run₀) × (host ≡ host₀)

-- a run that is made against the test is ended
pub unready_ended : (l : Listing) (first second : ℕ) → ready (length l.parts) first second ≡ false → paused (making l first second).state ≡ false
unready_ended l first second e =
    ap (λ b. paused (only_if b unmade (λ _. going (tables_of l) (min first second) 0 (λ qs q. None) 0 (listed_term l))).state) e

by_both : (u : Use) (xs ys : List Act) → by_acts u (xs ++ ys) ≡ by_acts (by_acts u xs) ys
by_both u [] ys = refl
by_both u (a ∷ xs) ys = by_both (by_act u a) xs ys

pub reported_more : (u : Use) (acts : List Act) (i : ℕ) (out : List Report) (r : Report)
    → Reported u acts i out → r ≡ report (view (by_acts u (take (i + 1) acts))) → Reported u acts (i + 1) (set out i r)
reported_more u acts i out r before e k d h l =
    ⊎_elim
    (λ (same : k ≡ i).
    let lt : i < length out = omega (arith, length-set out i r) in
    subst (λ j. get_or (set out i r) j d ≡ report (view (by_acts u (take (j + 1) acts)))) (sym same) (get_or-set_same out i r d lt ∙ e))
    (λ (other : k ≡ i → ⊥). get_or-set_other out i k r d other ∙ before k d (omega arith) (omega (arith, length-set out i r)))
    (cases_eq k i)

pub reported_past : (u : Use) (acts : List Act) (i : ℕ) (out : List Report) → Reported u acts i out → length out ≤ i → Reported u acts (i + 1) out
reported_past u acts i out before past k d h l = before k d (omega arith) l

pub one_act_more : (u : Use) (acts : List Act) (i : ℕ) (d : Act) → i < length acts
    → by_act (by_acts u (take i acts)) (get_or acts i d) ≡ by_acts u (take (i + 1) acts)
one_act_more u acts i d h = sym (ap (λ l. by_acts u l) (take_more acts i d h) ∙ by_both u (take i acts) (get_or acts i d ∷ []))

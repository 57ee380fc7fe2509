-- What admission comes to for any bytes.
use Rattle.std.proofs.Common.{◌≡◌, ℕ, suc, ◌+◌, List, take, drop, Ok, Err, Result, sym, refl, ap, ◌∙◌, subst, inl, inr, ⊎_elim, arith, take-append-drop}
use Rattle.fault.specs.declared.at.At.{At}
use Rattle.fault.specs.declared.text.TextFault.{TextFault}
use Rattle.fault.specs.declared.text.TextFault.TheVariants.{Form, Size, Turn}
use Rattle.fault.specs.declared.table.TableFault.{TableFault}
use Rattle.fault.specs.declared.table.TableFault.TheVariants as table_fault
use Rattle.fault.specs.declared.shape.ShapeFault.{ShapeFault}
use Rattle.fault.specs.declared.shape.ShapeFault.TheVariants as shape_fault
use Rattle.fault.specs.declared.claim.ClaimFault.{ClaimFault}
use Rattle.fault.specs.declared.claim.ClaimFault.TheVariants as claim_fault
use Rattle.fault.specs.Numbers.{text_number, table_number, shape_number, claim_number}
use Rattle.fault.specs.Search.{Verdict, and_then, NoLine}
use Rattle.sheet.specs.declared.tables.Tables.{Tables}
use Rattle.sheet.specs.Text.{forms, Writes, FirstWrong}
use Rattle.sheet.specs.Rows.{Listing, no_rows, sheet_of}
use Rattle.sheet.specs.Faults.{count, SizeFault, TurnFault}
use Rattle.sheet.specs.Answer as text
use Rattle.sheet.proofs.Meaning as text_means
use Rattle.table.specs.Ranges.{AllInRange, row, ColumnFault, PartFault}
use Rattle.table.specs.Answer as table
use Rattle.table.proofs.Verdicts.{judged_means}
use Rattle.shape.specs.Faults.{saying, Opens, Whole, TermFault, misplaced, lacking}
use Rattle.shape.specs.Answer as shape
use Rattle.shape.specs.Reading as shape_reading
use Rattle.shape.proofs.Meaning.{told, passed_by}
use Rattle.shape.proofs.Tidying.{tidied}
use Rattle.claim.specs.Answer as claim
use Rattle.claim.proofs.Judged.{answered}
use Rattle.recipe.specs.Admitted.{Admitted, Sound}
use Rattle.recipe.specs.Admission.{raised, admission, verdict, Refusal, Answered, Exactly, Typed}
use Rattle.recipe.proofs.Admitted.{checked, checked_by, ready_by, admitted_by, shape_passes, claim_passes, typed, derived}

-- rows in range have no fault in a column, and a closed computation's parts none in their order
module _ (l : Listing) where
  no_column : AllInRange l → NoLine (ColumnFault l)
  no_column a line (inl (row r k bad e)) = bad (a.operations r k)
  no_column a line (inr (inl (row r k bad e))) = bad (a.instances r k)
  no_column a line (inr (inr (row r k bad e))) = bad (a.types r k)

  no_part : AllInRange l → NoLine (PartFault l)
  no_part a line (row r k bad e) = bad (a.parts r k)

  opens : Whole l → (k : ℕ) → Opens (take k (saying l))
  opens w k = (w.0, drop k (saying l), w.1, w.2 ∙ sym (take-append-drop k (saying l)))

  no_term : Whole l → NoLine (TermFault l)
  no_term w line (misplaced i k o bad e) = bad (opens w (suc i))
  no_term w line (lacking o bad e) = bad w

-- what an admission means, layer by layer
module _ (bs : List ℕ) where
  by_text : (line : ℕ) (f : TextFault) → text.Refused bs line f → Refusal bs (text_number f) line
  by_text line Form h = h
  by_text line Size h = h
  by_text line Turn h = (h.0, h.1, (h.2, h.3))

  module _ (l : Listing) (w : Writes forms bs (sheet_of l)) (sizes : NoLine (SizeFault (count l))) (turns : NoLine (TurnFault l)) where
    by_table : (line : ℕ) (f : TableFault) → table.Refused l line f → Refusal bs (table_number f) line
    by_table line (table_fault.Text f) h = absurd h
    by_table line table_fault.Column h = (l, w, (sizes, (turns, h)))
    by_table line table_fault.Part h = (l, w, (sizes, (turns, (h.0, h.1))))

    module _ (a : AllInRange l) where
      by_shape : (line : ℕ) (f : ShapeFault) → shape.Refused l line f → Refusal bs (shape_number f) line
      by_shape line (shape_fault.Table f) h = absurd h
      by_shape line shape_fault.Term h = (l, w, (sizes, (turns, (no_column l a, (no_part l a, h.1)))))
      by_shape line shape_fault.Names h = (l, w, (sizes, (turns, (no_column l a, (no_part l a, (no_term l h.0, h.1))))))

      module _ (e : shape.answer l ≡ Ok tt) where
        whole : shape.Answered l (Ok tt)
        whole = subst (shape.Answered l) e (told l (tidied l a))

        by_claim : (line : ℕ) (f : ClaimFault) → claim.Refused l line f → Refusal bs (claim_number f) line
        by_claim line (claim_fault.Shape f) h = absurd h
        by_claim line claim_fault.Claim h = (l, w, (sizes, (turns, (no_column l a, (no_part l a, (no_term l whole.0, (whole.1, h)))))))

        claimed : (v : Verdict ClaimFault) → claim.answer l ≡ v → claim.Answered l v → Answered bs (and_then v (Ok l))
        claimed (Ok u) f h = (w, admitted_by l sizes a e turns f)
        claimed (Err x) f h = by_claim x.line x.fault h

      shaped : (v : Verdict ShapeFault) → shape.answer l ≡ v → shape.Answered l v → Answered bs (raised (and_then v (Ok l)))
      shaped (Ok u) e h = claimed e (claim.answer l) refl (answered l (checked_by l sizes a) (ready_by l sizes a e))
      shaped (Err x) e h = by_shape x.line x.fault h

    tabled : (v : Verdict TableFault) → table.Judged l (and_then v (Ok l)) → Answered bs (raised (shape_reading.raised (and_then v (Ok l))))
    tabled (Ok u) h = shaped h.1 (shape.answer l) refl (told l (tidied l h.1))
    tabled (Err x) h = by_table x.line x.fault h

  read : (x : Result Listing (At TextFault)) → text.Answered bs x → Answered bs (raised (shape_reading.raised (table.raised x)))
  read (Ok l) h = tabled l h.0 h.1 h.2 (table.ranged l) (judged_means l)
  read (Err x) h = by_text x.line x.fault h

  pub means : Answered bs (admission bs)
  means = read (text.answer bs) (text_means.answered bs)

-- admitted rows that bytes write are what is made of them
module _ (bs : List ℕ) (l : Listing) (w : Writes forms bs (sheet_of l)) (a : Admitted l) where
  in_form : (p : ℕ) → FirstWrong forms bs p → ⊥
  in_form p h =
      ⊎_elim (λ d. d.1 (drop (p + 1) bs, (sheet_of l, subst (λ (x : List ℕ). Writes forms x (sheet_of l)) (sym (take-append-drop (p + 1) bs)) w)))
      (λ d. d.1 (sheet_of l, w)) h.dead

  one : (m : Listing) → Writes forms bs (sheet_of m) → m ≡ l
  one m v = text_means.one_text bs m l v w

  text_refused : (line : ℕ) (f : TextFault) → text.Refused bs line f → ⊥
  text_refused line Form h = in_form h.0 h.1
  text_refused line Size h = subst (λ (m : Listing). NoLine (SizeFault (count m))) (sym (one h.0 h.1)) a.sizes line h.2.0
  text_refused line Turn h = subst (λ (m : Listing). NoLine (TurnFault m)) (sym (one h.0 h.1)) a.turns line h.3.0

  text_read : (x : Result Listing (At TextFault)) → text.Answered bs x → x ≡ Ok l
  text_read (Ok m) h = ap (λ y. Ok y) (one m h.0)
  text_read (Err x) h = absurd (text_refused x.line x.fault h)

  table_refused : (line : ℕ) (f : TableFault) → table.Refused l line f → ⊥
  table_refused line (table_fault.Text f) h = h
  table_refused line table_fault.Column h = no_column l a.ranges line h.0
  table_refused line table_fault.Part h = no_part l a.ranges line h.1.0

  table_read : (v : Verdict TableFault) → table.Judged l (and_then v (Ok l)) → and_then v (Ok l) ≡ Ok l
  table_read (Ok u) h = refl
  table_read (Err x) h = absurd (table_refused x.line x.fault h)

  pub made : admission bs ≡ Ok l
  made =
      ap (λ x. raised (shape_reading.raised (table.raised x))) (text_read (text.answer bs) (text_means.answered bs))
      ∙ ap (λ x. raised (shape_reading.raised x)) (table_read (table.ranged l) (judged_means l))
      ∙ ap (λ (v : Verdict ShapeFault). raised (and_then v (Ok l))) (passed_by (shape.answer l) (shape_passes l a))
      ∙ ap (λ (v : Verdict ClaimFault). and_then v (Ok l)) (passed_by (claim.answer l) (claim_passes l a))

-- a verdict that is the admission's passes just where some admitted rows are written
pub exactly : (bs : List ℕ) (r : Verdict ClaimFault) → r ≡ verdict (admission bs) → Exactly bs r
exactly bs r e = (λ q. found (admission bs) (means bs) (sym e ∙ q), λ x. e ∙ ap verdict (made bs x.0 x.1 x.2))
  where
    found : (x : Result Listing (At ClaimFault)) → Answered bs x → verdict x ≡ Ok tt → (l : Listing) × Writes forms bs (sheet_of l) × Admitted l
    found (Ok l) h q = (l, h.0, h.1)
    found (Err x) h q = let z : ◌≡◌ {A = ℕ} 0 1 = cc in absurd (omega arith)

-- what is admitted has its type
pub has_type : (bs : List ℕ) → Typed (admission bs)
has_type bs = types (admission bs) (means bs)
  where
    types : (x : Result Listing (At ClaimFault)) → Answered bs x → Typed x
    types (Ok l) h = (checked l h.1, typed l h.1, derived l h.1)
    types (Err x) h = tt

-- tables that were read
module _ (bs : List ℕ) (t : Tables) (rows : Ok (text.listing t) ≡ admission bs) (whole : Ok (text.contents t) ≡ text.held (admission bs)) where
  held_by : text.contents t ≡ text.holding (text.listing t)
  held_by = ap inside (whole ∙ ap text.held (sym rows))
    where
      inside : Result text.Contents (At ClaimFault) → text.Contents
      inside (Ok x) = x
      inside (Err e) = text.holding no_rows

  pub sound : Sound t
  sound = inr (held_by, (subst (Answered bs) (sym rows) (means bs)).1)

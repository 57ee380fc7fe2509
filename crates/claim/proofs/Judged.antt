-- What the verdict on rows in range that are one closed computation is, and means.
use Rattle.std.proofs.Common.{◌≡◌, ℕ, ◌<◌, ◌≤◌, [], length, get_or, Ok, Err, sym, ◌∙◌, subst, arith}
use Rattle.std.proofs.ByRecursion.{All-from_get_or}
use Rattle.fault.specs.Search.{Verdict, NoLine}
use Rattle.fault.specs.declared.claim.ClaimFault.{ClaimFault}
use Rattle.fault.specs.declared.claim.ClaimFault.TheVariants.{Claim}
use Rattle.fault.proofs.Searching.{Told, earlier}
use Rattle.eff.specs.Sorts.{comp}
use Rattle.eff.specs.Tables.{Tables}
use Rattle.eff.specs.Dirt.{Dirts, sets}
use Rattle.eff.specs.Checked.{Checked}
use Rattle.eff.specs.Scope.{Scoped}
use Rattle.eff.specs.Standing.{standing}
use Rattle.eff.specs.Syntax.{Term}
use Rattle.eff.specs.Labels.{Labelled, erase, DeclaredClaims}
use Rattle.sheet.specs.Rows.{Listing, part_of}
use Rattle.sheet.specs.Faults.{parts, count, row_line}
use Rattle.table.specs.Meant.{tables_of}
use Rattle.table.specs.Ranges.{AllInRange, PartRange}
use Rattle.shape.proofs.Meaning.{Accepted}
use Rattle.claim.specs.Standing.{Meets, nowhere}
use Rattle.claim.proofs.Columned.{Columned}
use Rattle.claim.specs.Placing.{RowsOf}
use Rattle.claim.specs.Recipes.{labels_of}
use Rattle.claim.specs.Test.{claimed}
use Rattle.claim.specs.Answer.{RuleFault, breaks, answer, Refused, Answered}
use Rattle.claim.proofs.Labelling.{labelled_of}
use Rattle.claim.proofs.Meaning.{verdict_told}
use Rattle.claim.proofs.Recipes.{labels_are}

-- The labelled computation that such rows are.
pub record Ready (l : Listing) : Type 0 where
  pub labels : Labelled comp
  pub rows : RowsOf l comp labels l.parts
  pub closed : Scoped 0 (erase labels)
  pub declared : DeclaredClaims (tables_of l) (sets (tables_of l)) labels
  pub columns : Columned l labels
  pub is : labels_of l ≡ labels

pub ready : (l : Listing) → Checked (tables_of l) (sets (tables_of l)) → AllInRange l → Accepted l → Ready l
ready l K a w =
    let L = labelled_of l K w.term l.parts (sym w.reads) (All-from_get_or (PartRange l) l.parts (part_of []) a.parts) in
    record {
      labels = L.labels;
      rows = L.rows;
      closed = subst (λ (t : Term comp). Scoped 0 t) (sym L.erased) w.closed;
      declared = L.declared;
      columns = L.columns;
      is = labels_are l L.labels L.rows;
    }

module _ (l : Listing) (K : Checked (tables_of l) (sets (tables_of l))) (r : Ready l) where
  abbrev T : Tables
  T = tables_of l

  abbrev D : Dirts
  D = sets T

  abbrev first : ℕ
  first = row_line (count l) parts 0

  abbrev Good : ℕ → Type 0
  Good i = Meets T D (get_or (standing T [] r.labels) i nowhere)

  -- the rows are those of one labelled computation
  only : (t : Labelled comp) → RowsOf l comp t l.parts → t ≡ r.labels
  only t h = sym (labels_are l t h) ∙ r.is

  means_by : (v : Verdict ClaimFault) → Told Claim first (length (standing T [] r.labels)) Good v → Answered l v
  means_by (Ok u) h = none
    where
      none : NoLine (RuleFault l)
      none line (breaks t rows i b e) =
          subst (λ (t : Labelled comp). (i < length (standing T [] t)) → (Meets T D (get_or (standing T [] t) i nowhere) → ⊥) → ⊥) (sym (only t rows))
          (λ lt bad. bad (h i lt)) b.within b.broken
  means_by (Err e) h =
      let f = h.1.1 in
      subst (Refused l e.line) (sym h.0) (
        breaks r.labels r.rows h.1.0 (record { within = f.within; broken = f.bad }) (let q : e.line ≡ row_line (count l) parts h.1.0 = omega (arith, h.1.2) in q),
        after,
      )
    where
      after : (other : ℕ) → RuleFault l other → e.line ≤ other
      after other (breaks t rows i b q) =
          let le : h.1.0 ≤ i = earlier Good h.1.0 i h.1.1.before
          (subst (λ (t : Labelled comp). Meets T D (get_or (standing T [] t) i nowhere) → ⊥) (only t rows) b.broken) in
          omega (arith, le, q, h.1.2)

  pub answer_told : Told Claim first (length (standing T [] r.labels)) Good (answer l)
  answer_told = subst (λ (t : Labelled comp). Told Claim first (length (standing T [] r.labels)) Good (claimed T D first [] t)) (sym r.is) (verdict_told l K first [] r.labels r.columns r.declared)

  pub answered : Answered l (answer l)
  answered = means_by (answer l) answer_told

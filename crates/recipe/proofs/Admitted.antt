-- What admitted rows supply, and that admission is a matter of tests.
use Rattle.std.proofs.Common.{◌≡◌, ℕ, ◌<◌, ◌≤◌, true, List, [], ◌∷◌, map, length, get_or, Ok, Err, sym, refl, ap, ◌∙◌, subst, ⊎_elim, arith}
use mathlib.Core.Bool.{Bool-set}
use mathlib.Core.HLevel.{⊥_prop}
use mathlib.Core.Logic.{∥∥₁_elim, ∥∥₁_map}
use Rattle.std.specs.List.{AllByRecursion}
use Rattle.std.proofs.lemmas.List.{get_or-map, length-take}
use Rattle.std.proofs.ByRecursion.{All-get_or, All-from_get_or}
use Rattle.std.proofs.lemmas.Bool.{cases_lt, cond_both}
use Rattle.fault.specs.Search.{Verdict, NoLine}
use Rattle.fault.specs.declared.claim.ClaimFault.{ClaimFault}
use Rattle.fault.specs.declared.claim.ClaimFault.TheVariants.{Claim}
use Rattle.fault.proofs.Searching.{Told}
use Rattle.eff.specs.Sorts.{comp}
use Rattle.eff.specs.Tables.{Tables, Operation as Declared, takes, gives, signature, declares}
use Rattle.eff.specs.Dirt.{Dirts, sets}
use Rattle.eff.specs.Checked.{Checked}
use Rattle.eff.specs.Rules.{Derives}
use Rattle.eff.specs.Syntax.{Term, flatten}
use Rattle.eff.specs.Labels.{Labelled, if, match, absurd as absurd_at, apply, val, call, bind, rec, handle, erase, columns, claim}
use Rattle.eff.specs.Claims.{HasType}
use Rattle.eff.specs.Spelling.{first_claim}
use Rattle.eff.proofs.Claimed.{claims_are_derivations}
use Rattle.sheet.specs.declared.rows.Operation.{Operation}
use Rattle.sheet.specs.Rows.{Listing, no_rows, operation_of, part_of}
use Rattle.sheet.specs.Faults.{Which, instances, parts, room, count, row_line, SizeFault, many, bare, TurnFault}
use Rattle.sheet.specs.Answer.{listing}
use Rattle.sheet.proofs.Meaning.{listing_held}
use Rattle.table.specs.Meant.{declaration, tables_of}
use Rattle.table.specs.Ranges.{OperationRange, AllInRange}
use Rattle.shape.specs.Answer as shape
use Rattle.shape.proofs.Meaning.{told, accepted, passes_by, passed_by, whole_passes}
use Rattle.shape.proofs.Tidying.{tidied}
use Rattle.eff.specs.Standing.{standing}
use Rattle.claim.specs.Standing.{Meets, nowhere}
use Rattle.claim.specs.Placing.{claim_of}
use Rattle.claim.specs.Recipes.{parts_of, listed_term}
use Rattle.claim.specs.Answer.{answer}
use Rattle.claim.proofs.Ranging.{in_range}
use Rattle.claim.proofs.Ranging as ranging
use Rattle.claim.proofs.Parts.{all_meet, follow}
use Rattle.claim.proofs.Recipes.{parts_are, term_is, claims_are, labels_are, rows_read}
use Rattle.claim.proofs.Judged.{Ready, ready, answer_told}
use Rattle.sheet.specs.declared.tables.Tables.{Tables as SheetTables}
use Rattle.recipe.specs.declared.recipe.Recipe.{Recipe}
use Rattle.recipe.specs.Admitted.{Admitted, claimed, Sound}

-- rows within the limits
module _ (l : Listing) (h : NoLine (SizeFault (count l))) where
  pub roomy : (w : Which) → count l w ≤ room w
  roomy w = ⊎_elim (λ lt. absurd (h _ (many w lt refl))) (λ le. le) (cases_lt (room w) (count l w))

  pub some_part : length l.parts ≡ 0 → ⊥
  some_part e = h _ (bare e refl)

  pub checked_by : AllInRange l → Checked (tables_of l) (sets (tables_of l))
  checked_by a = ranging.checked l (roomy instances) a

-- rows that pass every test
module _ (l : Listing) (sizes : NoLine (SizeFault (count l))) (ranges : AllInRange l) (e : shape.answer l ≡ Ok tt) where
  pub ready_by : Ready l
  ready_by = ready l (checked_by l sizes ranges) ranges (accepted l e (tidied l ranges))

  abbrev Good : ℕ → Type 0
  Good i = Meets (tables_of l) (sets (tables_of l)) (get_or (standing (tables_of l) [] ready_by.labels) i nowhere)

  claims_told : Told Claim (row_line (count l) parts 0) (length (standing (tables_of l) [] ready_by.labels)) Good (answer l)
  claims_told = answer_told l (checked_by l sizes ranges) ready_by

  pub admitted_by : NoLine (TurnFault l) → answer l ≡ Ok tt → Admitted l
  admitted_by turns f =
      let good : (i : ℕ) → i < length (standing (tables_of l) [] ready_by.labels) → Good i =
      subst (Told Claim (row_line (count l) parts 0) (length (standing (tables_of l) [] ready_by.labels)) Good) f claims_told in
      record {
        sizes = sizes;
        turns = turns;
        ranges = ranges;
        labels = ready_by.labels;
        rows = ready_by.rows;
        closed = ready_by.closed;
        names = (subst (shape.Answered l) e (told l (tidied l ranges))).1;
        declared = ready_by.declared;
        follows = follow (tables_of l) (sets (tables_of l)) [] ready_by.labels
            (All-from_get_or (Meets (tables_of l) (sets (tables_of l))) (standing (tables_of l) [] ready_by.labels) nowhere good);
      }

  -- claims that follow are not refused
  pub claims_pass : ((i : ℕ) → i < length (standing (tables_of l) [] ready_by.labels) → Good i) → passes_by (answer l) ≡ true
  claims_pass good = go (answer l) claims_told
    where
      go : (v : Verdict ClaimFault) → Told Claim (row_line (count l) parts 0) (length (standing (tables_of l) [] ready_by.labels)) Good v → passes_by v ≡ true
      go (Ok u) h = refl
      go (Err x) h = absurd (h.1.1.bad (good h.1.0 h.1.1.within))

-- the tests that admitted rows pass
module _ (l : Listing) (a : Admitted l) where
  abbrev T : Tables
  T = tables_of l

  abbrev D : Dirts
  D = sets T

  pub shape_passes : passes_by (shape.answer l) ≡ true
  shape_passes = whole_passes l (tidied l a.ranges) ((erase a.labels, a.closed, rows_read l a.labels a.rows), a.names)

  pub claim_passes : passes_by (answer l) ≡ true
  claim_passes =
      let e = passed_by (shape.answer l) shape_passes in
      let r = ready_by l a.sizes a.ranges e in
      let same : a.labels ≡ r.labels = sym (labels_are l a.labels a.rows) ∙ r.is in
      let all : AllByRecursion (Meets T D) (standing T [] r.labels) = subst (λ (t : Labelled comp). AllByRecursion (Meets T D) (standing T [] t)) same (all_meet T D [] a.labels a.follows) in
      claims_pass l a.sizes a.ranges e (λ i lt. All-get_or (Meets T D) (standing T [] r.labels) i nowhere lt all)

  pub checked : Checked T D
  checked = checked_by l a.sizes a.ranges

  -- the parts are those of the term
  pub whole : flatten (listed_term l) ≡ parts_of l
  whole = ap (λ (t : Term comp). flatten t) (term_is l a.labels a.rows) ∙ sym (parts_are l a.labels a.rows)

  front : (t : Labelled comp) → first_claim (columns t) ≡ claim t
  front (if C e c d) = refl
  front (match C e c d) = refl
  front (absurd_at C e) = refl
  front (apply C e f) = refl
  front (val C e) = refl
  front (call C e op i w c) = refl
  front (bind C c d) = refl
  front (rec C n c d) = refl
  front (handle C e c) = refl

  claim_is : claim a.labels ≡ claimed l
  claim_is =
      sym (front a.labels) ∙ ap first_claim (sym (claims_are l a.labels a.rows))
      ∙ get_or-map (claim_of l) l.parts 0 (part_of []) _ (⊎_elim (λ lt. lt) (λ le. absurd (some_part l a.sizes (omega (arith, le)))) (cases_lt 0 (length l.parts)))

  pub typed : HasType T D comp (listed_term l) (claimed l)
  typed = record { labels = a.labels; erased = sym (term_is l a.labels a.rows); claimed = claim_is; declared = a.declared; follows = a.follows }

  pub derived : Derives T D comp [] (listed_term l) (claimed l)
  derived = ((claims_are_derivations T checked).computations (listed_term l) (claimed l)).0 typed

  pub few_parts : length l.parts ≤ 1024
  few_parts = roomy l a.sizes parts

-- admission, had again from the fact that there is one
pub admitted_again : (l : Listing) → ∥ Admitted l ∥₁ → Admitted l
admitted_again l x =
    let sizes : NoLine (SizeFault (count l)) = λ line f. ∥∥₁_elim x ⊥_prop (λ a. a.sizes line f) in
    let turns : NoLine (TurnFault l) = λ line f. ∥∥₁_elim x ⊥_prop (λ a. a.turns line f) in
    let ranges = in_range l (∥∥₁_map x (λ a. a.ranges)) in
    let e = passed_by (shape.answer l) (∥∥₁_elim x (Bool-set _ _) (shape_passes l)) in
    admitted_by l sizes ranges e turns (passed_by (answer l) (∥∥₁_elim x (Bool-set _ _) (claim_passes l)))

-- a recipe with a part is admitted
pub admitted : (r : Recipe) → ¬ (length (listing r.tables).parts ≡ 0) → Admitted (listing r.tables)
admitted r h =
    admitted_again (listing r.tables)
    (∥∥₁_map r.sound (λ s. ⊎_elim (λ z. absurd (h (ap (λ (l : Listing). length l.parts) (listing_held r.tables no_rows z)))) (λ p. p.1) s))

-- no row is out of range
none_out : AllInRange no_rows
none_out =
    record {
      operations = λ r lt. absurd (omega (arith, lt));
      instances = λ r lt. absurd (omega (arith, lt));
      types = λ r lt. absurd (omega (arith, lt));
      parts = λ r lt. absurd (omega (arith, lt));
    }

-- the rows of every place are in range
pub ranges_of : (r : Recipe) → AllInRange (listing r.tables)
ranges_of r =
    in_range (listing r.tables)
    (∥∥₁_map r.sound (λ s. ⊎_elim (λ z. subst AllInRange (sym (listing_held r.tables no_rows z)) none_out) (λ p. p.1.ranges) s))

-- and its tables are checked
pub checks_of : (r : Recipe) → Checked (tables_of (listing r.tables)) (sets (tables_of (listing r.tables)))
checks_of r =
    ranging.checked (listing r.tables) (omega (arith, length-take r.tables.instances.count r.tables.instances.rows, r.tables.instances.within)) (ranges_of r)

grounds : (os : List Operation) (e op : ℕ) → AllByRecursion OperationRange os → ((signature (map declaration os) e op).takes < 4) × ((signature (map declaration os) e op).gives < 4)
grounds [] e op h = (omega arith, omega arith)
grounds (o ∷ os) e op h =
    cond_both (declares (declaration o) e op) _ _ (λ (s : Declared). (s.takes < 4) × (s.gives < 4)) (λ _. (h.0.takes, h.0.gives)) (λ _. grounds os e op h.1)

-- operations take and give ground types
pub ground : (l : Listing) → AllInRange l → (e op : ℕ) → (takes (tables_of l) e op < 4) × (gives (tables_of l) e op < 4)
ground l a e op = grounds l.operations e op (All-from_get_or OperationRange l.operations (operation_of []) a.operations)

-- an operation with a signature of a recipe's tables takes and gives ground types
pub grounded : (t : SheetTables) (e op : ℕ) (o : Operation) → declaration o ≡ signature (tables_of (listing t)).operations e op → ∥ Sound t ∥₁ → (o.takes < 4) × (o.gives < 4)
grounded t e op o q s =
    let r : Recipe = record { tables = t; sound = s } in
    let g = ground (listing t) (ranges_of r) e op in
    (subst (λ m. m < 4) (sym (ap (λ (x : Declared). x.takes) q)) g.0, subst (λ m. m < 4) (sym (ap (λ (x : Declared). x.gives) q)) g.1)

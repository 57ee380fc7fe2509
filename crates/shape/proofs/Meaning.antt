-- What an answer means.
use Rattle.std.proofs.Common.{◌≡◌, ℕ, zero, suc, ◌+◌, ◌<◌, ◌≤◌, Bool, true, false, cond, ltb, List, [], ◌∷◌, ◌++◌, length, get_or, take, Some, None, Ok, Err, Option, sym, refl, ap, ◌∙◌, subst, ⊎_elim, append_assoc, append-nil, arith, ltb-false, ltb-true}
use mathlib.Core.Bool.{Bool-set}
use mathlib.Core.Logic.{∥∥₁_elim}
use lib.ListN.{length-map}
use Rattle.std.proofs.lemmas.List.{take_all}
use Rattle.std.proofs.lemmas.Bool.{cases_lt}
use Rattle.fault.specs.declared.shape.ShapeFault.{ShapeFault}
use Rattle.fault.specs.declared.shape.ShapeFault.TheVariants as faults
use Rattle.eff.specs.Sorts.{comp}
use Rattle.eff.specs.Syntax.{Term}
use Rattle.sheet.specs.Rows.{Listing}
use Rattle.sheet.specs.Faults.{parts, count, row_line}
use Rattle.fault.specs.Search.{NoLine}
use Rattle.fault.specs.Search as search
use Rattle.eff.specs.Scope.{Scoped}
use Rattle.shape.specs.Names.{names}
use Rattle.shape.specs.Entries.{Entry, said, entries}
use Rattle.shape.specs.Faults.{Opens, saying, Tidied, Reads, Whole, OneTerm, TermFault, misplaced, lacking, NamesFault, crowded}
use Rattle.fault.specs.Search.{Verdict}
use Rattle.shape.specs.Answer.{want, ended, shape, answer, Refused, Answered}
use Rattle.shape.proofs.Terms.{notes, fills}
use Rattle.eff.proofs.Sorted.{never}
use Rattle.shape.proofs.Forests.{Forest, whole, passes, forest}
use Rattle.shape.proofs.Prefixes.{Bad, bads}
use Rattle.shape.proofs.Unique.{one_term}

-- the first of some parts, the first at this line, that stands under more than 256 names
abbrev Noted : ℕ → List ℕ → Option ℕ → Type 0
Noted line ns None = (i : ℕ) → 256 < get_or ns i 0 → ⊥
Noted line ns (Some m) = (i : ℕ) × (m ≡ line + i) × (256 < get_or ns i 0) × ((j : ℕ) → 256 < get_or ns j 0 → i ≤ j)

notes_kept : (m line : ℕ) (ns : List ℕ) → notes (Some m) line ns ≡ Some m
notes_kept m line [] = refl
notes_kept m line (n ∷ ns) = notes_kept m (line + 1) ns

later : (line n : ℕ) (ns : List ℕ) (o : Option ℕ) → n ≤ 256 → Noted (line + 1) ns o → Noted line (n ∷ ns) o
later line n ns None l h = λ i. elim i as (λ i. 256 < get_or (n ∷ ns) i 0 → ⊥) [ zero ↦ λ c. omega (arith, l, c) | suc j ↦ λ c. h j c ]
later line n ns (Some m) l h = (
  suc h.0,
  (let q : m ≡ line + suc h.0 = omega (arith, h.1) in q),
  h.2,
  λ j. elim j as (λ j. 256 < get_or (n ∷ ns) j 0 → suc h.0 ≤ j) [ zero ↦ λ c. absurd (omega (arith, l, c)) | suc i ↦ λ c. omega (arith, h.3 i c) ],
)

first_noted : (ns : List ℕ) (line : ℕ) → Noted line ns (notes None line ns)
first_noted [] line = λ i c. omega (arith, c)
first_noted (n ∷ ns) line = go (ltb 256 n) refl (first_noted ns (line + 1))
  where
    go : (b : Bool) → ltb 256 n ≡ b → Noted (line + 1) ns (notes None (line + 1) ns) → Noted line (n ∷ ns) (notes (cond b (Some line) None) (line + 1) ns)
    go true e h = subst (Noted line (n ∷ ns)) (sym (notes_kept line (line + 1) ns)) (0, (let q : line ≡ line + 0 = omega arith in q), ltb-true 256 n e, λ j c. omega arith)
    go false e h = later line n ns (notes None (line + 1) ns) (ltb-false 256 n e) h

-- where some parts can be continued, so can fewer
cut : (es : List Entry) (j k : ℕ) → j ≤ k → (mid : List Entry) × (take k es ≡ take j es ++ mid)
cut es zero k l = (take k es, refl)
cut es (suc j) zero l = absurd (omega (arith, l))
cut [] (suc j) (suc k) l = ([], refl)
cut (e ∷ es) (suc j) (suc k) l = let r = cut es j k (omega (arith, l)) in (r.0, ap (λ x. e ∷ x) r.1)

fewer : (es : List Entry) (j k : ℕ) → j ≤ k → Opens (take k es) → Opens (take j es)
fewer es j k l o =
    let r = cut es j k l in
    (o.0, r.0 ++ o.1, o.2, o.3 ∙ ap (λ x. x ++ o.1) r.1 ∙ append_assoc (take j es) r.0 o.1)

-- one closed computation begins with these parts just where they and some more fill its place
opens : (es rest : List Entry) → Forest (want comp 0 ∷ []) (es ++ rest) → Opens es
opens es rest f = (f.0, rest, f.2, sym (append-nil (entries f.0)) ∙ ap (λ x. entries f.0 ++ x) (sym f.4) ∙ sym f.3)

opened : (es : List Entry) (o : Opens es) → Forest (want comp 0 ∷ []) (es ++ o.1)
opened es o = (o.0, [], o.2, sym o.3 ∙ sym (append-nil (entries o.0)), refl)

module _ (l : Listing) where
  abbrev first : ℕ
  first = row_line (count l) parts 0

  length_saying : length (saying l) ≡ count l parts
  length_saying = length-map l.parts said

  pub one : OneTerm l
  one t u r q = one_term comp t u (r ∙ sym q)

  -- the sheet's parts are those of the closed computation t
  module _ (t : Term comp) (closed : Scoped 0 t) (reads : Reads l t) where
    within : ((i : ℕ) → 256 < get_or (names 0 t) i 0 → ⊥) → NoLine (NamesFault l)
    within h line (crowded u r i c e) = h i (subst (λ x. 256 < get_or (names 0 x) i 0) (one u t r reads) c)

    earliest : (m i : ℕ) → m ≡ first + i → ((j : ℕ) → 256 < get_or (names 0 t) j 0 → i ≤ j) → (other : ℕ) → NamesFault l other → m ≤ other
    earliest m i q h other (crowded u r j c e) = omega (arith, q, e, h j (subst (λ x. 256 < get_or (names 0 x) j 0) (one u t r reads) c))

    by_names : (o : Option ℕ) → Noted first (names 0 t) o → Answered l (ended o)
    by_names None h = ((t, closed, reads), within h)
    by_names (Some m) h = (
      (t, closed, reads),
      (
        crowded t reads h.0 h.2 (let q : m ≡ row_line (count l) parts h.0 = omega (arith, h.1) in q),
        earliest m h.0 h.1 h.3,
      ),
    )

    filled : answer l ≡ ended (notes None first (names 0 t))
    filled = ap (λ es. shape None (want comp 0 ∷ []) first es) (sym reads ∙ sym (append-nil (entries t))) ∙ (fills 0 t closed).passed None first [] []

    stands : Answered l (answer l)
    stands = subst (Answered l) (sym filled) (by_names (notes None first (names 0 t)) (first_noted (names 0 t) first))

  -- tidy parts that are not refused for their shape are one closed computation
  pub found : Tidied l → whole (answer l) ≡ true → Whole l
  found d h =
      let f = forest (saying l) (want comp 0 ∷ []) None first d h in
      (f.0, f.2, sym (f.3 ∙ ap (λ r. entries f.0 ++ r) f.4 ∙ append-nil (entries f.0)))

  -- and those that are refused are none
  not_whole : whole (answer l) ≡ false → Whole l → ⊥
  not_whole h w = never (sym h ∙ passes (want comp 0 ∷ []) (saying l) (w.0, [], w.1, sym w.2 ∙ sym (append-nil (entries w.0)), refl) None first)

  module _ (k : ℕ) (bad : Bad (want comp 0 ∷ []) (saying l) k) (not : Whole l → ⊥) where
    before : Opens (take k (saying l))
    before = opens (take k (saying l)) bad.before.0 bad.before.1

    faulty : TermFault l (first + k)
    faulty =
        ⊎_elim
        (λ lt. misplaced k (omega (arith, lt, length_saying)) before
        (λ o. bad.stuck lt o.1 None 0 (passes (want comp 0 ∷ []) (take (suc k) (saying l) ++ o.1) (opened (take (suc k) (saying l)) o) None 0))
        (let q : first + k ≡ row_line (count l) parts k = omega arith in q))
        (λ ge. lacking (subst Opens (take_all k (saying l) ge) before) not
        (let q : first + k ≡ row_line (count l) parts (count l parts) = omega (arith, ge, bad.inside, length_saying) in q))
        (cases_lt k (length (saying l)))

    soonest : (other : ℕ) → TermFault l other → first + k ≤ other
    soonest other (misplaced j lt o s e) =
        ⊎_elim
        (λ less. absurd (s (fewer (saying l) (suc j) k less before)))
        (λ ge. omega (arith, e, ge))
        (cases_lt j k)
    soonest other (lacking o n e) = omega (arith, e, bad.inside, length_saying)

  refused : Tidied l → whole (answer l) ≡ false → Answered l (answer l)
  refused d h =
      let r = bads (saying l) (want comp 0 ∷ []) None first d h in
      let n = not_whole h in
      subst (Answered l) (sym r.1) (n, (faulty r.0 r.2 n, soonest r.0 r.2 n))

  pub told : Tidied l → Answered l (answer l)
  told d = go (whole (answer l)) refl
    where
      go : (b : Bool) → whole (answer l) ≡ b → Answered l (answer l)
      go true h = let w = found d h in stands w.0 w.1 w.2
      go false h = refused d h

-- what the answer means, for a verdict that is it
pub means : (l : Listing) (r : Verdict ShapeFault) → r ≡ answer l → Tidied l → Answered l r
means l r e d = subst (Answered l) (sym e) (told l d)

-- For whoever takes the answer on: tidy parts that are accepted are those of a closed computation, none of them under more than 256 names.
pub record Accepted (l : Listing) : Type 0 where
  pub term : Term comp
  pub closed : Scoped 0 term
  pub reads : Reads l term
  pub within : (i : ℕ) → get_or (names 0 term) i 0 ≤ 256

pub accepted : (l : Listing) → answer l ≡ Ok tt → Tidied l → Accepted l
accepted l e d =
    let a : Answered l (Ok tt) = subst (Answered l) e (told l d) in
    let w = a.0 in
    record {
      term = w.0;
      closed = w.1;
      reads = w.2;
      within = λ i.
          ⊎_elim
          (λ more. absurd (a.1 (row_line (count l) parts i) (crowded w.0 w.2 i more refl)))
          (λ at_most. at_most)
          (cases_lt 256 (get_or (names 0 w.0) i 0));
    }

-- whether a verdict on any fault passes
abbrev pub passes_by : {F : Type 0} → search.Verdict F → Bool
passes_by (Ok u) = true
passes_by (Err e) = false

pub passed_by : {F : Type 0} (v : search.Verdict F) → passes_by v ≡ true → v ≡ Ok tt
passed_by (Ok u) h = refl
passed_by (Err e) h = never h

-- one closed computation within the limit on names is not refused
pub whole_passes : (l : Listing) → Tidied l → Answered l (Ok tt) → passes_by (answer l) ≡ true
whole_passes l d w = go (answer l) (told l d)
  where
    refuted : (line : ℕ) (f : ShapeFault) → Refused l line f → ⊥
    refuted line (faults.Table f) h = h
    refuted line faults.Term h = h.0 w.0
    refuted line faults.Names h = w.1 line h.1.0

    go : (v : Verdict ShapeFault) → Answered l v → passes_by v ≡ true
    go (Ok u) h = refl
    go (Err e) h = absurd (refuted e.line e.fault h)

-- an acceptance, had again from the fact that there is one
pub accepted_again : (l : Listing) → Tidied l → ∥ Answered l (Ok tt) ∥₁ → Accepted l
accepted_again l d x = accepted l (passed_by (answer l) (∥∥₁_elim x (Bool-set _ _) (whole_passes l d))) d

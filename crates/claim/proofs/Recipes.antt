-- A labelled computation whose rows the parts are is the one that is read from them.
use Rattle.std.proofs.Common.{◌≡◌, List, [], ◌∷◌, map, length, sym, refl, ap, ◌∙◌, ap₂, append-nil, arith}
use Rattle.std.proofs.lemmas.Simd.{map-map}
use Rattle.eff.specs.Sorts.{comp}
use Rattle.eff.specs.Types.{Dirty}
use Rattle.eff.specs.Kinds.{kinded}
use Rattle.eff.specs.Syntax.{part, flatten}
use Rattle.eff.specs.Labels.{Labelled, erase, columns}
use Rattle.eff.specs.Spelling.{term_of, attach}
use Rattle.eff.specs.declared.part.Part.{Part}
use Rattle.eff.proofs.KindNumbers.{numbers}
use Rattle.eff.proofs.Parted.{claim_count}
use Rattle.eff.proofs.Spelling.{term_back, attached}
use Rattle.sheet.specs.Rows.{Listing}
use Rattle.shape.specs.Entries.{written, said}
use Rattle.shape.specs.Entries as shape
use Rattle.shape.specs.Faults.{Reads}
use Rattle.claim.specs.Placing.{Entry, entries, entry, claim_of, RowsOf}
use Rattle.claim.specs.Recipes.{kind_or, parts_of, listed_term, labels_of}

-- what an entry says: its part, its claim, and its part without a claim
abbrev part_in : Entry → Part
part_in e = part (kind_or (kinded e.kind)) e.a e.b

abbrev claim_in : Entry → Dirty
claim_in e = e.claim

abbrev entry_said : Entry → shape.Entry
entry_said e = record { kind = e.kind; a = e.a; b = e.b }

parts_in : (fs : List Part) (cs : List Dirty) → length cs ≡ length fs → map part_in (entries fs cs) ≡ fs
parts_in [] cs h = refl
parts_in (f ∷ fs) [] h = absurd (omega (arith, h))
parts_in (f ∷ fs) (C ∷ cs) h = ap₂ (λ x xs. x ∷ xs) (ap (λ o. part (kind_or o) f.a f.b) (numbers.kind f.kind)) (parts_in fs cs (omega (arith, h)))

claims_in : (fs : List Part) (cs : List Dirty) → length cs ≡ length fs → map claim_in (entries fs cs) ≡ cs
claims_in [] [] h = refl
claims_in [] (C ∷ cs) h = absurd (omega (arith, h))
claims_in (f ∷ fs) [] h = absurd (omega (arith, h))
claims_in (f ∷ fs) (C ∷ cs) h = ap (λ xs. C ∷ xs) (claims_in fs cs (omega (arith, h)))

said_in : (fs : List Part) (cs : List Dirty) → length cs ≡ length fs → map entry_said (entries fs cs) ≡ map written fs
said_in [] cs h = refl
said_in (f ∷ fs) [] h = absurd (omega (arith, h))
said_in (f ∷ fs) (C ∷ cs) h = ap (λ xs. written f ∷ xs) (said_in fs cs (omega (arith, h)))

module _ (l : Listing) (t : Labelled comp) (h : RowsOf l comp t l.parts) where
  pub parts_are : parts_of l ≡ flatten (erase t)
  parts_are = sym (map-map part_in (entry l) l.parts) ∙ ap (map part_in) h.reads ∙ parts_in (flatten (erase t)) (columns t) (claim_count t)

  pub term_is : listed_term l ≡ erase t
  term_is = ap term_of parts_are ∙ term_back (erase t)

  pub claims_are : map (claim_of l) l.parts ≡ columns t
  claims_are = sym (map-map claim_in (entry l) l.parts) ∙ ap (map claim_in) h.reads ∙ claims_in (flatten (erase t)) (columns t) (claim_count t)

  pub labels_are : labels_of l ≡ t
  labels_are = ap₂ (λ c ds. attach c ds) term_is (claims_are ∙ sym (append-nil (columns t))) ∙ attached t []

  pub rows_read : Reads l (erase t)
  rows_read = sym (said_in (flatten (erase t)) (columns t) (claim_count t)) ∙ ap (map entry_said) (sym h.reads) ∙ map-map entry_said (entry l) l.parts

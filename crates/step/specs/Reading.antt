-- Whether parts are terms of some sorts, part by part.
use Rattle.std.specs.Prelude.{◌≡◌, ℕ, ◌≤◌, Bool, true, false, ◌&&◌, List, [], ◌∷◌, ◌++◌, length, Some, None, Option, ◌==◌, nat_lt}
use Rattle.std.specs.Borrow.{Bor}
use Rattle.eff.specs.Sorts.{Sort, same}
use Rattle.eff.specs.Kinds.{Column, table, sorts, unused, place, truth, count, instance, type, function_type, effect, operation}
use Rattle.eff.specs.declared.part.Part.{Part}

-- what a column can hold in a term
abbrev pub clean : Column → ℕ → Bool
clean unused n = n == 0
clean truth n = nat_lt n 2
clean place n = true
clean count n = true
clean instance n = true
clean type n = true
clean function_type n = true
clean effect n = true
clean operation n = true

abbrev pub tidy : Part → Bool
tidy p = clean (table p.kind).a p.a && clean (table p.kind).b p.b

-- whether a part can be the first of a term of this sort
abbrev pub opens : Sort → Part → Bool
opens s p = same (table p.kind).sort s && tidy p

-- whether the parts are terms of these sorts, one after another
abbrev pub are : List Sort → List Part → Bool
are [] [] = true
are [] (p ∷ ps) = false
are (s ∷ ss) [] = false
are (s ∷ ss) (p ∷ ps) = opens s p && are (sorts p.kind ++ ss) ps

-- From terms of the sorts ss to terms of the sorts es, which open the rest: what is left decides the whole.
pub record Reached (ss es : List Sort) (ps rest : List Part) : Type 0 where
  pub inside : length rest ≤ length ps
  pub passes : (fs : List Sort) → are (ss ++ fs) ps ≡ are (es ++ fs) rest

-- no term of the sort opens the parts
pub record NoneHere (s : Sort) (ps : List Part) : Type 0 where
  pub none : (fs : List Sort) → are (s ∷ fs) ps ≡ false

-- what stands behind the term of the sort that opens the parts, if there is one
abbrev pub Ending : Sort → List Part → Option (Bor (List Part)) → Type 0
Ending s ps (Some rest) = Reached (s ∷ []) [] ps rest.now
Ending s ps None = NoneHere s ps

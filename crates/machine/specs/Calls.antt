-- A run by the calls made of it: the making, and advances by allowances.
use Rattle.std.specs.Prelude.{ℕ, ◌+◌, min, max, Bool, not, ◌&&◌, List, [], ◌∷◌, ◌==◌, nat_le}
use Rattle.eff.specs.Sorts.{comp}
use Rattle.eff.specs.Syntax.{Term, val, unit}
use Rattle.eff.specs.Tables.{Tables}
use Rattle.host.specs.Meaning.{Replies}
use Rattle.machine.specs.declared.report.State.TheVariants.{Refused}
use Rattle.machine.specs.Turns.{Gone, rest, going, only_if, advanced}

-- the most parts that a slab may have
abbrev pub most : ℕ
most = 16384

-- The test before a start, of how many parts the recipe has and the lengths of the slabs: the place is not empty, the shorter slab holds the
-- recipe, and no slab is longer than it may be.
abbrev pub ready : (size first second : ℕ) → Bool
ready size first second = not (size == 0) && (nat_le size (min first second) && nat_le (max first second) most)

-- a run that was made against the test: it has no computation, for which a val of unit stands here
abbrev pub unmade : Gone
unmade = rest Refused 0 (val unit)

-- the sum of allowances, the latest of which stands first
abbrev pub total : List ℕ → ℕ
total [] = 0
total (n ∷ ns) = total ns + n

module _ (T : Tables) (size : ℕ) (c : Term comp) (first second : ℕ) (m : Replies) where
  -- the making advances by 0
  abbrev pub made : Gone
  made = only_if (ready size first second) unmade (λ _. going T (min first second) 0 m 0 c)

  -- advances by these allowances, the latest of which stands first
  abbrev pub called : List ℕ → Gone
  called [] = made
  called (n ∷ ns) = advanced T (min first second) n m (called ns)

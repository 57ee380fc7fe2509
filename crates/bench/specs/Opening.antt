-- The computation that opens a slab.
use Rattle.std.specs.Prelude.{ℕ, ◌≤◌, List, length, take, Some, None, Option}
use Rattle.eff.specs.Spelling.{Whole}
use Rattle.eff.specs.declared.part.Part.{Part}

-- the first n parts are those of a computation, or no first parts are
abbrev pub Opened : List Part → Option ℕ → Type 0
Opened slab (Some n) = (n ≤ length slab) × Whole (take n slab)
Opened slab None = (n : ℕ) → n ≤ length slab → ¬ Whole (take n slab)

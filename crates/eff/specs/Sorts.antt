-- The three sorts of terms.
use Rattle.std.specs.Prelude.{Bool, true, false}

-- expressions, case lists and computations
pub data Sort : Type 0 where
  expr : Sort
  list : Sort
  comp : Sort

-- whether two sorts are the same
abbrev pub same : Sort → Sort → Bool
same expr expr = true
same expr list = false
same expr comp = false
same list expr = false
same list list = true
same list comp = false
same comp expr = false
same comp list = false
same comp comp = true

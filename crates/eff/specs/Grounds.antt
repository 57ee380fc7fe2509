-- The ground types by number.
use Rattle.std.specs.Prelude.{ℕ, List, [], ◌∷◌, Option, Result}
use Rattle.eff.specs.Numbers as numbers
use Rattle.eff.specs.declared.number.NoSuchNumber.{NoSuchNumber}
use Rattle.eff.specs.declared.ground.Ground.{Ground}
use Rattle.eff.specs.declared.ground.Ground.TheVariants.{Bool, Nat, Unit, Empty}

abbrev pub number : Ground → ℕ
number Bool = 0
number Nat = 1
number Unit = 2
number Empty = 3

-- all ground types
abbrev pub grounds : List Ground
grounds = Bool ∷ Nat ∷ Unit ∷ Empty ∷ []

-- the ground type that has the number n
abbrev pub grounded : ℕ → Option Ground
grounded n = numbers.numbered number grounds n

-- the ground type that has the number n, or that none has
abbrev pub by_number : ℕ → Result Ground NoSuchNumber
by_number n = numbers.by_number number grounds n

-- The operations of the cutter by number.
use Rattle.std.specs.Prelude.{ℕ, List, [], ◌∷◌, Result}
use Rattle.eff.specs.Numbers as numbers
use Rattle.eff.specs.declared.number.NoSuchNumber.{NoSuchNumber}
use Rattle.cutter.specs.declared.operation.Operation.{Operation}
use Rattle.cutter.specs.declared.operation.Operation.TheVariants.{Go, Cut, Feel}

abbrev pub number : Operation → ℕ
number Go = 0
number Cut = 1
number Feel = 2

-- all operations
abbrev pub operations : List Operation
operations = Go ∷ Cut ∷ Feel ∷ []

-- the operation that has the number n, or that none has
abbrev pub by_number : ℕ → Result Operation NoSuchNumber
by_number n = numbers.by_number number operations n

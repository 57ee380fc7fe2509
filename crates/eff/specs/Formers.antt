-- The type constructors of listed types by number.
use Rattle.std.specs.Prelude.{ℕ, List, [], ◌∷◌, Result}
use Rattle.eff.specs.Numbers as numbers
use Rattle.eff.specs.declared.number.NoSuchNumber.{NoSuchNumber}
use Rattle.eff.specs.declared.former.Former.{Former}
use Rattle.eff.specs.declared.former.Former.TheVariants.{Function, Instance, Handler}

abbrev pub number : Former → ℕ
number Function = 4
number Instance = 5
number Handler = 6

-- all type constructors
abbrev pub formers : List Former
formers = Function ∷ Instance ∷ Handler ∷ []

-- the type constructor that has the number n, or that none has
abbrev pub by_number : ℕ → Result Former NoSuchNumber
by_number n = numbers.by_number number formers n

-- Things that have a number each, one of a list by its number.
use Rattle.std.specs.Prelude.{ℕ, cond, List, [], ◌∷◌, Some, None, Option, Result, ◌==◌}
use Rattle.std.specs.Option.{ok_or}
use Rattle.eff.specs.declared.number.NoSuchNumber.{NoSuchNumber}

module _ {A : Type 0} (number : A → ℕ) where
  -- the first of some that has the number n
  abbrev pub numbered : List A → ℕ → Option A
  numbered [] n = None
  numbered (x ∷ xs) n = cond (number x == n) (Some x) (numbered xs n)

  -- that one, or that none has the number n
  abbrev pub by_number : List A → ℕ → Result A NoSuchNumber
  by_number xs n = ok_or (numbered xs n) (record { number = n })

-- Sets of numbers as numbers: k weighs 2 to the power k.
use Rattle.std.specs.Prelude.{◌≡◌, ℕ, ◌/◌, ◌%◌, ◌^◌, Bool, ◌==◌, bit_or}

-- the k-th digit of n in base two
abbrev pub bit : ℕ → ℕ → ℕ
bit n k = n / 2 ^ k % 2

-- k is in the set n
abbrev pub Holds : ℕ → ℕ → Type 0
Holds n k = bit n k ≡ 1

-- the test of one set within another
abbrev pub inside : ℕ → ℕ → Bool
inside m n = bit_or m n == n

-- all of m is in n
abbrev pub Within : ℕ → ℕ → Type 0
Within m n = (k : ℕ) → Holds m k → Holds n k

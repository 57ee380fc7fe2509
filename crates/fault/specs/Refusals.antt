-- The text of a refusal: a line of names, and its number and its line under it, both 0 where the input is too long.
use Rattle.std.specs.Prelude.{ℕ, cond, List, [], ◌∷◌, ◌++◌, length, Ok, Err, Result, codes, decimal, nat_lt}
use Rattle.fault.specs.declared.refusal.Refusal.{Refusal}
use Rattle.fault.specs.declared.refusal.Refusal.TheVariants.{TooLong, Fault}

-- the longest input that a program reads, in bytes
abbrev pub limit : ℕ
limit = 16384

-- refused where it is longer
abbrev pub within_limit : {F : Type 0} → List ℕ → Result (Unit {0}) (Refusal F)
within_limit bs = cond (nat_lt limit (length bs)) (Err TooLong) (Ok tt)

-- values in decimal, a space between two
abbrev pub row : List ℕ → List ℕ
row [] = []
row (n ∷ []) = decimal n
row (n ∷ m ∷ r) = decimal n ++ 32 ∷ row (m ∷ r)

abbrev pub numbers_text : (number line : ℕ) → List ℕ
numbers_text number line = codes "number line" ++ 10 ∷ row (number ∷ line ∷ [])

-- number says which number a fault has
abbrev pub text : {F : Type 0} → (F → ℕ) → Refusal F → List ℕ
text number TooLong = numbers_text 0 0
text number (Fault e) = numbers_text (number e.fault) e.line

-- A search through rows for the first that fails a test, over faults and rows of any kind.
use Rattle.std.specs.Prelude.{ℕ, ◌+◌, ◌≤◌, Bool, cond, List, [], ◌∷◌, Ok, Err, Result}
use Rattle.fault.specs.declared.at.At.{At}

-- nothing to refuse, or a fault with its line
abbrev pub Verdict : Type 0 → Type 0
Verdict F = Result (Unit {0}) (At F)

abbrev pub refused : {F : Type 0} → ℕ → F → Verdict F
refused line f = Err (record { line = line; fault = f })

-- one verdict, and the next where it passes
abbrev pub and_then : {F X : Type 0} → Verdict F → Result X (At F) → Result X (At F)
and_then (Ok x) y = y
and_then (Err e) y = Err e

-- the first of some rows that fails its test, by its line; the first row is at the line and has the number n
abbrev pub search : {F R : Type 0} → F → (ℕ → R → Bool) → ℕ → ℕ → List R → Verdict F
search f ok line n [] = Ok tt
search f ok line n (r ∷ rs) = cond (ok n r) (search f ok (line + 1) (n + 1) rs) (refused line f)

-- the first line that has the fault
abbrev pub First : (ℕ → Type 0) → ℕ → Type 0
First Fault line = Fault line × ((other : ℕ) → Fault other → line ≤ other)

-- no line has the fault
abbrev pub NoLine : (ℕ → Type 0) → Type 0
NoLine Fault = (line : ℕ) → Fault line → ⊥

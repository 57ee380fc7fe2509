-- Where terms end among parts.
use Rattle.std.specs.Prelude.{◌≡◌, ℕ, zero, suc, ◌+◌, List, [], ◌∷◌, ◌++◌, length}
use Rattle.eff.specs.Sorts.{Sort}
use Rattle.eff.specs.Kinds.{names}
use Rattle.eff.specs.Syntax.{Term, flatten}
use Rattle.eff.specs.declared.part.Part.{Part}

-- how many parts the first n terms have
abbrev pub skip : ℕ → List Part → ℕ
skip zero ps = 0
skip (suc n) [] = 0
skip (suc n) (p ∷ ps) = 1 + skip (length (names p.kind) + n) ps

-- what stands behind a term that opens the parts
pub record Behind (ps rest : List Part) : Type 0 where
  pub behind : {s : Sort} (t : Term s) (after : List Part) → ps ≡ flatten t ++ after → rest ≡ after

-- a term that opens the parts, and what stands behind it
pub record Splits (ps term rest : List Part) : Type 0 where
  pub splits : {s : Sort} (t : Term s) (after : List Part) → ps ≡ flatten t ++ after → (term ≡ flatten t) × (rest ≡ after)

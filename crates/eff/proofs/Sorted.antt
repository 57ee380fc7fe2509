-- The test of two sorts.
use Rattle.std.proofs.Common.{◌≡◌, ℕ, Bool, true, false, refl, arith}
use Rattle.eff.specs.Sorts.{Sort, expr, list, comp, same}

pub never : {A : Type 0} → ◌≡◌ {A = Bool} false true → A
never e = let z : ◌≡◌ {A = ℕ} 0 1 = cc in absurd (omega arith)

pub sames : (s u : Sort) → same s u ≡ true → s ≡ u
sames expr expr h = refl
sames expr list h = never h
sames expr comp h = never h
sames list expr h = never h
sames list list h = refl
sames list comp h = never h
sames comp expr h = never h
sames comp list h = never h
sames comp comp h = refl

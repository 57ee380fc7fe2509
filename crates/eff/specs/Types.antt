-- The types of core Eff.
use Rattle.std.specs.Prelude.{ℕ}
use Rattle.eff.specs.declared.ground.Ground.{Ground}
use Rattle.eff.specs.declared.ground.Ground.TheVariants as g

-- A region and a dirt are numbers: sets of instances and, in the kind of dirt used, sets of calls.
pub data Ty : Type 0 where
  ground : Ground → Ty
  -- A → B!Δ, of A, B and Δ
  fun : Ty → Ty → ℕ → Ty
  -- E^R, of E and R
  instance : ℕ → ℕ → Ty
  -- A!Δ ⇒ B!Δ', of A, Δ, B and Δ'
  hand : Ty → ℕ → Ty → ℕ → Ty

abbrev pub bool : Ty
bool = ground g.Bool

abbrev pub nat : Ty
nat = ground g.Nat

abbrev pub unit : Ty
unit = ground g.Unit

abbrev pub empty : Ty
empty = ground g.Empty

-- A dirty type A!Δ pairs a type and a dirt.
abbrev pub Dirty : Type 0
Dirty = Ty × ℕ

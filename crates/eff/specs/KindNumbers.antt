-- Kinds and ground types go by number one for one.
use Rattle.std.specs.Prelude.{◌≡◌, ℕ, ◌<◌, Some}
use Rattle.eff.specs.Kinds as kinds
use Rattle.eff.specs.Grounds as grounds
use Rattle.eff.specs.declared.kind.Kind.{Kind}
use Rattle.eff.specs.declared.ground.Ground.{Ground}

pub record Numbers : Type 0 where
  -- the kinds have the numbers below 19, each one of its own
  pub kind : (k : Kind) → kinds.kinded (kinds.number k) ≡ Some k
  pub kind_number : (n : ℕ) (k : Kind) → kinds.kinded n ≡ Some k → kinds.number k ≡ n
  pub every_kind : (n : ℕ) → n < 19 → (k : Kind) × (kinds.number k ≡ n)
  -- the ground types have the numbers below 4
  pub ground : (g : Ground) → grounds.grounded (grounds.number g) ≡ Some g
  pub ground_number : (n : ℕ) (g : Ground) → grounds.grounded n ≡ Some g → grounds.number g ≡ n
  pub every_ground : (n : ℕ) → n < 4 → (g : Ground) × (grounds.number g ≡ n)

-- The parts of a labelled term that break their rule.
use Rattle.std.specs.Prelude.{ℕ, ◌<◌, [], length, slice_index_or}
use Rattle.eff.specs.Sorts.{Sort}
use Rattle.eff.specs.Types.{unit}
use Rattle.eff.specs.Tables.{Tables}
use Rattle.eff.specs.Dirt.{Dirts}
use Rattle.eff.specs.Rules.{Cxt}
use Rattle.eff.specs.Labels.{Labelled, nil}
use Rattle.eff.specs.Claims.{Rule}
use Rattle.eff.specs.Standing.{Standing, stands, standing}

-- a nil, in no context
abbrev pub nowhere : Standing
nowhere = stands [] (nil (unit, 0))

module _ (T : Tables) (D : Dirts) where
  -- a part meets its rule
  abbrev pub Meets : Standing → Type 0
  Meets x = Rule T D x.context x.part

  -- the part of number r does not meet its rule
  pub record Breaks (s : Sort) (Γ : Cxt) (t : Labelled s) (r : ℕ) : Type 0 where
    pub within : r < length (standing T Γ t)
    pub broken : Meets (slice_index_or (standing T Γ t) r nowhere) → ⊥

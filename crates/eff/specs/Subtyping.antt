-- Subtyping.
use Rattle.std.specs.Prelude.{ℕ}
use Rattle.eff.specs.Sets.{Within}
use Rattle.eff.specs.Tables.{Tables}
use Rattle.eff.specs.Dirt.{Dirts, ◌⊆◌, Laws}
use Rattle.eff.specs.Types.{Ty, Dirty, ground, fun, instance, hand}
use Rattle.eff.specs.declared.ground.Ground.{Ground}

module _ (D : Dirts) where
  infix 50 ◌⊴◌
  infix 50 ◌≦◌
  infix 50 ◌⊑◌
  abbrev ◌⊑◌ : ℕ → ℕ → Type 0
  ◌⊑◌ d e = ◌⊆◌ D d e

  -- A ⊴ B holds only in these cases.
  pub data ◌⊴◌ : Ty → Ty → Type 0 where
    ground≤ : {g : Ground} → ground g ⊴ ground g
    instance≤ : {e R S : ℕ} → Within R S → instance e R ⊴ instance e S
    fun≤ : {A B A' B' : Ty} {d d' : ℕ} → A' ⊴ A → B ⊴ B' → d ⊑ d' → fun A B d ⊴ fun A' B' d'
    hand≤ : {A B A' B' : Ty} {d e d' e' : ℕ} → A' ⊴ A → d' ⊑ d → B ⊴ B' → e ⊑ e' → hand A d B e ⊴ hand A' d' B' e'

  -- A!Δ ⊴ B!Δ' when A ⊴ B and Δ lies within Δ'
  abbrev pub ◌≦◌ : Dirty → Dirty → Type 0
  ◌≦◌ C D = C.0 ⊴ D.0 × C.1 ⊑ D.1

-- subtyping is reflexive and transitive
pub record Ordered (D : Dirts) : Type 0 where
  pub reflexive : (A : Ty) → ◌⊴◌ D A A
  pub transitive : (A B C : Ty) → ◌⊴◌ D A B → ◌⊴◌ D B C → ◌⊴◌ D A C

abbrev pub SubtypingIsAnOrder : Type 0
SubtypingIsAnOrder = (T : Tables) (D : Dirts) → Laws T D → Ordered D

-- Which types are types over given tables, and what a checked sheet supplies of its tables.
use Rattle.std.specs.Prelude.{◌≡◌, ℕ, ◌+◌, ◌<◌, ◌≤◌, length, slice_index_or}
use Rattle.eff.specs.Sets.{Holds}
use Rattle.eff.specs.Types.{Ty, Dirty, ground, fun, instance, hand}
use Rattle.eff.specs.Tables.{Tables, ListedType, no_row, Declares, takes, gives, Effect, Instance, Listed}
use Rattle.eff.specs.Dirt.{Dirts, ◌⊆◌}

module _ (T : Tables) (D : Dirts) where
  -- a dirt of declared calls only
  abbrev pub Known : ℕ → Type 0
  Known d = ◌⊆◌ D d D.all

  -- a region within the instances of the effect e
  abbrev pub Region : ℕ → ℕ → Type 0
  Region e R = (i : ℕ) → Holds R i → Instance T i e

  -- A type is declared when its dirts hold declared calls only, and its instance types have a declared effect and a region within its instances.
  abbrev pub Declared : Ty → Type 0
  Declared (ground g) = Unit {0}
  Declared (fun A B d) = Declared A × Declared B × Known d
  Declared (instance e R) = Effect T e × Region e R
  Declared (hand A d B d') = Declared A × Known d × Declared B × Known d'

  abbrev pub DeclaredDirty : Dirty → Type 0
  DeclaredDirty C = Declared C.0 × Known C.1

  -- A row of the types with the number n is in order: it names smaller numbers, declared calls, and instances of a declared effect.
  pub data InOrder (n : ℕ) (r : ListedType) : Type 0 where
    a_function : r.kind ≡ 4 → r.a < n → r.b < n → Known r.e → InOrder n r
    an_instance : r.kind ≡ 5 → Effect T r.a → Region r.a r.b → InOrder n r
    a_handler : r.kind ≡ 6 → r.a < n → r.b < n → Known r.d → Known r.e → InOrder n r

  -- What a checked sheet supplies: at most 8 effects of at most 4 operations, whose types have numbers, 16 instances, each of a declared effect, and
  -- types in order.
  pub record Checked : Type 0 where
    pub effects : (e op : ℕ) → Declares T e op → e < 8
    pub operations : (e op : ℕ) → Declares T e op → op < 4
    pub taken : (e op : ℕ) → Declares T e op → Listed T (takes T e op)
    pub given : (e op : ℕ) → Declares T e op → Listed T (gives T e op)
    pub instances : length T.instances ≤ 16
    pub instance_effects : (i e : ℕ) → Instance T i e → Effect T e
    pub types : (n : ℕ) → n < length T.types → InOrder (4 + n) (slice_index_or T.types n no_row)

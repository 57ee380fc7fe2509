-- What the types by number are.
use Rattle.std.specs.Prelude.{◌≡◌, ℕ, ◌+◌, ◌<◌, length, slice_index_or}
use Rattle.eff.specs.Types.{Ty, fun, instance, hand}
use Rattle.eff.specs.Types as t
use Rattle.eff.specs.Tables.{Tables, ListedType, no_row, Listed, type, argument}
use Rattle.eff.specs.Dirt.{Dirts}
use Rattle.eff.specs.Checked.{Checked, Declared}
use Rattle.eff.specs.Grounds.{number}
use Rattle.eff.specs.declared.ground.Ground.{Ground}

-- the n-th listed type
abbrev pub listed : Tables → ℕ → ListedType
listed T n = slice_index_or T.types n no_row

-- Ground types have their numbers, a listed type is what its row says of the types of the numbers there, every type is declared, and the argument
-- type of a function type goes by its row.
pub record ByNumber (T : Tables) (D : Dirts) : Type 0 where
  pub ground : (g : Ground) → type T (number g) ≡ t.ground g
  pub a_function : (n : ℕ) → n < length T.types → (listed T n).kind ≡ 4
      → type T (4 + n) ≡ fun (type T (listed T n).a) (type T (listed T n).b) (listed T n).e
  pub an_instance : (n : ℕ) → n < length T.types → (listed T n).kind ≡ 5 → type T (4 + n) ≡ instance (listed T n).a (listed T n).b
  pub a_handler : (n : ℕ) → n < length T.types → (listed T n).kind ≡ 6
      → type T (4 + n) ≡ hand (type T (listed T n).a) (listed T n).d (type T (listed T n).b) (listed T n).e
  pub declared : (n : ℕ) → Declared T D (type T n)
  pub argument_is : (a : ℕ) (A B : Ty) (d : ℕ) → Listed T a → type T a ≡ fun A B d → type T (argument T a) ≡ A

abbrev pub TypesGoByNumber : Type 0
TypesGoByNumber = (T : Tables) (D : Dirts) → Checked T D → ByNumber T D

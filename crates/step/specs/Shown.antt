-- A value is shown with the number of its type.
use Rattle.std.specs.Prelude.{◌≡◌, ℕ}
use Rattle.eff.specs.Sorts.{expr}
use Rattle.eff.specs.Syntax.{Term}
use Rattle.eff.specs.Types.{Ty}
use Rattle.eff.specs.Types as t
use Rattle.eff.specs.Tables.{Tables}
use Rattle.eff.specs.Dirt.{sets}
use Rattle.eff.specs.Checked.{Checked}
use Rattle.eff.specs.Claims.{HasType}
use Rattle.eff.specs.Grounds as grounds
use Rattle.eff.specs.Formers as formers
use Rattle.eff.specs.declared.former.Former.TheVariants.{Function, Instance, Handler}
use Rattle.step.specs.Values.{shown, kind_number}

-- the number of a ground type, or of a type's constructor
abbrev pub type_number : Ty → ℕ
type_number (t.ground g) = grounds.number g
type_number (t.fun A B d) = formers.number Function
type_number (t.instance e R) = formers.number Instance
type_number (t.hand A d B e) = formers.number Handler

-- a closed value whose claims follow is shown with the number of its type
abbrev pub ValuesAreShown : Type 0
ValuesAreShown = (T : Tables) → Checked T (sets T) → (v : Term expr) (A : Ty) → HasType T (sets T) expr v A → kind_number (shown v) ≡ type_number A

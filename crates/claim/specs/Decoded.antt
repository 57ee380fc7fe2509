-- The types that the code holds: a ground type, or one by the numbers of the types that it names.
use Rattle.std.specs.Prelude.{ℕ, ◌+◌, max}
use Rattle.eff.specs.Types.{Ty, ground, fun, instance, hand}
use Rattle.eff.specs.Types as t
use Rattle.eff.specs.Tables.{Tables, type}
use Rattle.sheet.specs.declared.dirty.Dirty.{Dirty}
use Rattle.claim.specs.declared.form.Form.{Form}
use Rattle.claim.specs.declared.form.Form.TheVariants.{Ground, Function, Instance, Handler}

module _ (T : Tables) where
  -- the dirty type meant
  abbrev pub dirty : Dirty → t.Dirty
  dirty C = (type T C.ty, C.dirt)

  -- the type meant
  abbrev pub decoded : Form → Ty
  decoded (Ground g) = ground g
  decoded (Function a C) = fun (type T a) (type T C.ty) C.dirt
  decoded (Instance e R) = instance e R
  decoded (Handler A C) = hand (type T A.ty) A.dirt (type T C.ty) C.dirt

-- above the numbers of the types that it names
abbrev pub rank : Form → ℕ
rank (Ground g) = 0
rank (Function a C) = 1 + max a C.ty
rank (Instance e R) = 0
rank (Handler A C) = 1 + max A.ty C.ty

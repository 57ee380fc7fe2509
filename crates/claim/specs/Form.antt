-- The form of a row of the types.
use Rattle.std.specs.Result.{result_unwrap_or}
use Rattle.eff.specs.Formers.{by_number}
use Rattle.eff.specs.declared.former.Former.{Former}
use Rattle.eff.specs.declared.former.Former.TheVariants as f
use Rattle.sheet.specs.declared.rows.TypeRow.{TypeRow}
use Rattle.claim.specs.declared.form.Form.{Form}
use Rattle.claim.specs.declared.form.Form.TheVariants.{Function, Instance, Handler}

-- by a type constructor
abbrev pub formed : TypeRow → Former → Form
formed r f.Function = Function r.a (record { ty = r.b; dirt = r.e })
formed r f.Instance = Instance r.a r.b
formed r f.Handler = Handler (record { ty = r.a; dirt = r.d }) (record { ty = r.b; dirt = r.e })

-- by its own, a handler's where it has none
abbrev pub form_of : TypeRow → Form
form_of r = formed r (result_unwrap_or (by_number r.kind) f.Handler)

-- The types of the names in scope, as the code holds them.
use Rattle.std.specs.Prelude.{List, [], ◌∷◌, map}
use Rattle.eff.specs.Tables.{Tables}
use Rattle.eff.specs.Rules.{Cxt}
use Rattle.claim.specs.Decoded.{decoded}
use Rattle.claim.specs.declared.form.Form.{Form}
use Rattle.claim.specs.declared.context.Context.{Context, Empty, Under'}

-- the latest name's first
abbrev pub forms : Context → List Form
forms Empty = []
forms (Under' f p c) = f ∷ forms c

-- the types meant
abbrev pub scope : Tables → Context → Cxt
scope T c = map (decoded T) (forms c)

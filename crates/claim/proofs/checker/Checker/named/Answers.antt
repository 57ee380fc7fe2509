use Rattle.std.proofs.Common.{sym, ap, ◌∙◌}
use Rattle.eff.specs.Tables.{type}
use Rattle.claim.specs.Checker as s
use Rattle.claim.specs.Context.{forms}
use Rattle.claim.specs.Below.{below}
use Rattle.claim.specs.Decoded.{decoded}
use Rattle.claim.proofs.Scopes.{name_found, name_missing}
use Rattle.claim.proofs.checker.Checker.named.Goals as goal

pub returns-in-Some : goal.returns-in-Some
returns-in-Some c =
    let x = c.args.self.now in
    c.lies.ensures ∙ ap (below (s.dirts x) (decoded (s.declared x) c.in-Some.own)) c.listed.ensures.value
    ∙ sym (name_found (s.declared x) (s.dirts x) (type (s.declared x) c.args.ty) (forms c.args.context.now) c.args.place c.in-Some.own (sym c.get.ensures ∙ c.in-Some.is))

pub returns-in-None : goal.returns-in-None
returns-in-None c =
    let x = c.args.self.now in
    sym (name_missing (s.declared x) (s.dirts x) (type (s.declared x) c.args.ty) (forms c.args.context.now) c.args.place (sym c.get.ensures ∙ c.in-None.is))

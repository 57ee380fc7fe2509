use Rattle.std.proofs.Common.{◌≡◌, ◌-◌, slice_get}
use Rattle.claim.specs.Context.{forms}
use Rattle.claim.proofs.context.Context.get.Given as goal

abbrev pub invariant-loop : goal.invariant-loop
invariant-loop l = slice_get (forms l.self) l.place ≡ slice_get (forms l.names) (l.place - l.counter)

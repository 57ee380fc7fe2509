use Rattle.std.proofs.Common.{◌≡◌, drop}
use Rattle.step.specs.Valued.{valued}
use Rattle.step.proofs.Valuing.{more}
use Rattle.step.proofs.value.worth.Given as goal

abbrev pub invariant-loop-part : goal.invariant-loop-part
invariant-loop-part l = (l.more ≡ l.part-index) × (valued l.parts ≡ more l.more (valued (drop l.part-index l.parts)))

use Rattle.std.proofs.Common.{◌+◌, ◌*◌, map, length, drop}
use Rattle.step.specs.Fill.{written}
use Rattle.step.specs.Copies.{Copied}
use Rattle.step.specs.Written.{Kept, in_order}
use Rattle.step.proofs.Skipping.{extra}
use Rattle.step.proofs.write.Writer.+copy.Given as goal

abbrev pub decreases-copy : goal.decreases-copy
decreases-copy l = length l.parts.now + 2 * length l.values.argument.now

abbrev pub invariant-loop-child : goal.invariant-loop-child
invariant-loop-child l = record {
  kept : Kept l.initial.self l.self;
  copied : Copied (written (in_order l.values.latest) l.values.argument.now) (map (λ b. l.depth + b) (map extra l.child-items))
      (map (λ b. l.depth + b) (drop l.child-index (map extra l.child-items))) l.initial.rest l.rest l.initial.self l.self;
}

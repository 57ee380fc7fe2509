use mathlib.Core.Logic.{∥∥₁_map}
use Rattle.std.proofs.Common.{Ok, subst}
use Rattle.sheet.specs.declared.tables.Tables.{Tables}
use Rattle.sheet.specs.Answer.{listing}
use Rattle.shape.specs.Faults.{Tidied}
use Rattle.shape.specs.Answer.{Answered}
use Rattle.shape.proofs.Tidying.{tidied}
use Rattle.shape.proofs.reading.read.Goals as goal

pub invariant_of-result : goal.invariant_of-result
invariant_of-result c =
    let means = subst (λ (t : Tables). Tidied (listing t) → Answered (listing t) (Ok tt)) c.tables.ensures c.in_ok-judge.ensures.means in
    record { whole = ∥∥₁_map c.in_ok-ranged.ranged.ranges (λ h. means (tidied (listing c.in_ok-ranged.ranged.tables) h)) }

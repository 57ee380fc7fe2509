-- What the code says of a term, from its first part on.
use Rattle.std.specs.Prelude.{◌≡◌, ℕ, ◌+◌, ◌<◌, ◌≤◌, true, false, length, Some, None, Option, Ok, Err, Result}
use Rattle.fault.specs.Search.{Verdict}
use Rattle.fault.specs.declared.at.At.{At}
use Rattle.fault.specs.declared.claim.ClaimFault.{ClaimFault}
use Rattle.fault.specs.declared.claim.ClaimFault.TheVariants.{Claim}
use Rattle.eff.specs.Sorts.{Sort}
use Rattle.eff.specs.Rules.{Cxt}
use Rattle.eff.specs.Labels.{Labelled}
use Rattle.sheet.specs.Faults.{count, row_line, parts}
use Rattle.claim.specs.Checker.{rows, declared, dirts}
use Rattle.claim.specs.Test.{claimed}
use Rattle.claim.specs.Node.{view, way, node_at, Ruled}
use Rattle.claim.specs.Placing.{Placed}
use Rattle.claim.specs.declared.checker.Checker.{Checker}
use Rattle.claim.specs.declared.node.Node.{Node}
use Rattle.claim.specs.declared.node.Way.{Way}

-- the line of the part r
abbrev pub line_of : Checker → ℕ → ℕ
line_of x r = row_line (count (rows x)) parts 0 + r

-- the node of the part r, whose rule holds
pub record Stands (x : Checker) (Γ : Cxt) (r : ℕ) (n : Node) : Type 0 where
  pub is : view n ≡ node_at (rows x) r
  pub rule : Ruled x Γ (view n) true
  pub inside : r < length (rows x).parts

-- the verdict on the rule at the part r
abbrev pub RuleVerdict : Checker → Cxt → ℕ → Result (Option Node) (At ClaimFault) → Type 0
RuleVerdict x Γ r (Ok None) = length (rows x).parts ≤ r
RuleVerdict x Γ r (Ok (Some n)) = Stands x Γ r n
RuleVerdict x Γ r (Err e) = Ruled x Γ (node_at (rows x) r) false × (e ≡ record { line = line_of x r; fault = Claim })

-- the way down from the part r, whose rule holds
pub record WayStands (x : Checker) (Γ : Cxt) (r : ℕ) (w : Way) : Type 0 where
  pub is : w ≡ way (node_at (rows x) r)
  pub rule : Ruled x Γ (node_at (rows x) r) true
  pub inside : r < length (rows x).parts
  pub beyond : r < w.second_at
  pub onward : w.second_at ≤ w.third_at

-- the same verdict, with the way down for the node
abbrev pub WayVerdict : Checker → Cxt → ℕ → Result (Option Way) (At ClaimFault) → Type 0
WayVerdict x Γ r (Ok None) = length (rows x).parts ≤ r
WayVerdict x Γ r (Ok (Some w)) = WayStands x Γ r w
WayVerdict x Γ r (Err e) = Ruled x Γ (node_at (rows x) r) false × (e ≡ record { line = line_of x r; fault = Claim })

-- the verdict on the term of a sort that begins at the part r
pub record Judged (x : Checker) (s : Sort) (Γ : Cxt) (r : ℕ) (v : Verdict ClaimFault) : Type 0 where
  pub says : (t : Labelled s) → Placed (rows x) s r t → v ≡ claimed (declared x) (dirts x) (line_of x r) Γ t

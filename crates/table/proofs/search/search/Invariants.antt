use Rattle.std.proofs.Common.{◌≡◌, ℕ, ◌+◌, ◌<◌, Bool, length}
use Rattle.fault.specs.Search.{search}
use Rattle.fault.proofs.Searching.{left}
use Rattle.table.proofs.search.search.Given as goal

abbrev pub invariant-loop-i : goal.invariant-loop-i
invariant-loop-i g l =
    (test : ℕ → _ → Bool) → ((n : ℕ) (row : _) (b : Bool) → n < l.first + length l.rows → goal.T-post g l.ok n row b → b ≡ test n row.now)
    → search l.fault test l.line l.first l.rows ≡ left l.fault test l.line l.first l.rows l.i

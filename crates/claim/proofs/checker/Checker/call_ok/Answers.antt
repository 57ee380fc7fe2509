use Rattle.std.proofs.Common.{rules}
use Rattle.claim.specs.Checker as s
use Rattle.claim.proofs.checker.Checker.call_ok.Goals as goal

pub returns-then-lies_dirty : goal.returns-then-lies_dirty
returns-then-lies_dirty c = let e = c.admits.ensures (s.declared c.args.self.now) in search rules

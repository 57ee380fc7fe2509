use Rattle.std.proofs.Common.{length}
use Rattle.step.proofs.Searching.{Searching}
use Rattle.step.proofs.cases.first_case.Given as goal

abbrev pub invariant-loop-rest : goal.invariant-loop-rest
invariant-loop-rest l = Searching l.instance l.op l.cases l.rest

abbrev pub decreases-loop-rest : goal.decreases-loop-rest
decreases-loop-rest l = length l.rest

use Rattle.runs.proofs.Conducted.{Led}
use Rattle.runs.proofs.conducting.conduct.Given as goal

abbrev pub invariant-loop-i : goal.invariant-loop-i
invariant-loop-i g l = Led g.H.Host.replies g.H.Host.known l.acts l.i l.initial.run l.run l.initial.host l.host l.initial.reports l.reports

use Rattle.recipe.specs.Readers.{rows}
use Rattle.runs.proofs.Between.{Comes}
use Rattle.runs.proofs.advancing.advance.Given as goal

abbrev pub invariant-loop-rest : goal.invariant-loop-rest
invariant-loop-rest g l =
    Comes (rows l.recipe)
    (record { first = l.initial.first; second = l.initial.second; size = l.initial.size; steps = l.initial.steps; asked = l.initial.asked; means = g.H.Host.replies l.initial.host; knows = g.H.Host.known l.initial.host })
    l.allowance
    (record { first = l.first; second = l.second; size = l.size; steps = l.steps; asked = l.asked; means = g.H.Host.replies l.host; knows = g.H.Host.known l.host })
    l.left

abbrev pub decreases-loop-rest : goal.decreases-loop-rest
decreases-loop-rest g l = l.left

use Rattle.std.proofs.Common.{◌≡◌, eqb}
use Rattle.fault.specs.declared.text.TextFault.TheVariants.{Turn}
use Rattle.fault.proofs.Searching.{left}
use Rattle.sheet.specs.Answer.{numbered}
use Rattle.sheet.proofs.turns.numbered.Given as goal

abbrev pub invariant-loop-i : goal.invariant-loop-i
invariant-loop-i g l =
    numbered g.R.Numbered.number_of l.line l.first l.rows ≡ left Turn (λ k r. eqb (g.R.Numbered.number_of r) k) l.line l.first l.rows l.i

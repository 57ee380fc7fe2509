use Rattle.sheet.proofs.law.lines_are_counted.Goals as goal
use Rattle.sheet.proofs.Lines.{counted}

pub returns : goal.returns
returns c = counted

use Rattle.sheet.specs.Answer.{listing}
use Rattle.table.proofs.Verdicts.{operations_in}
use Rattle.table.proofs.judging.ranged.Goals as goal

pub of-declared-requires : goal.of-declared-requires
of-declared-requires c = λ r h. (operations_in (listing c.args.tables.now) c.in_ok-operations_ranged.ensures r h).op

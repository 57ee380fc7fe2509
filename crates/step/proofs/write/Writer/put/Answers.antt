use Rattle.step.specs.Fill.{written}
use Rattle.step.specs.Written.{in_order}
use Rattle.step.proofs.Filling.{puts, reaches}
use Rattle.step.proofs.write.Writer.put.Goals as goal

pub returns-clause-reaches : goal.returns-clause-reaches
returns-clause-reaches c =
    reaches (written (in_order c.args.values.latest) c.args.values.argument.now) 0 c.args.parts.now c.args.self.now c.copy.new.self c.copy.result
    c.copy.ensures.copies

pub returns-clause-puts : goal.returns-clause-puts
returns-clause-puts c =
    puts (in_order c.args.values.latest) c.args.values.argument.now c.args.parts.now c.args.self.now c.copy.new.self c.copy.result
    c.copy.ensures.copies

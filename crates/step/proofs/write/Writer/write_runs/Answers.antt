use Rattle.std.proofs.Common.{◌≡◌, ◌++◌, Err, rules}
use Rattle.step.proofs.Writing.{then_holds, over_all}
use Rattle.step.proofs.write.Writer.write_runs.Goals as goal

pub returns-in_err-write-2-clause-holds : goal.returns-in_err-write-2-clause-holds
returns-in_err-write-2-clause-holds c =
    let q : c.from_residual-in_err-write-2.result ≡ Err c.in_err-write-2.field-0.0 = search rules in
    rw q
    (then_holds (c.args.runs.first.now ++ c.args.runs.second.now) c.write-2.new.self (Err c.in_err-write-2.field-0.0) c.write.ensures.kept c.in_ok-write.ensures.holds
    (over_all c.args.runs.first.now c.args.runs.second.now c.write.new.self c.write-2.new.self c.write-2.new.self c.in_err-write-2.field-0.0 c.in_err-write-2.ensures.holds))

pub returns-clause-holds : goal.returns-clause-holds
returns-clause-holds c =
    then_holds (c.args.runs.first.now ++ c.args.runs.second.now) c.write-3.new.self c.write-3.result c.write.ensures.kept c.in_ok-write.ensures.holds
    (then_holds c.args.runs.second.now c.write-3.new.self c.write-3.result c.write-2.ensures.kept c.in_ok-write-2.ensures.holds c.write-3.ensures.holds)

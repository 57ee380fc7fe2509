use Rattle.std.proofs.Common.{◌≡◌, true, false, rules}
use Rattle.std.specs.Result.{is_ok}
use Rattle.step.proofs.Resumption.{resumes}
use Rattle.step.proofs.resuming.resume.Goals as goal

pub returns-in_err-ok : goal.returns-in_err-ok
returns-in_err-ok c =
    let e : is_ok c.put_value.result ≡ false = search rules in
    rw (c.from_residual.ensures, ← c.new-writer.ensures.parts)
    ((resumes c.new-writer.result.to.now c.args.value c.put_value.result c.args.continuation.whole (search rules) c.new-writer.ensures.filled c.put_value.ensures.kept c.put_value.ensures.puts).1 e)

pub returns : goal.returns
returns c =
    let e : is_ok c.put_value.result ≡ true = search rules in
    rw (← c.new-writer.ensures.parts)
    ((resumes _ c.args.value c.put_value.result c.args.continuation.whole (search rules) c.new-writer.ensures.filled c.put_value.ensures.kept c.put_value.ensures.puts).0 e (search rules))

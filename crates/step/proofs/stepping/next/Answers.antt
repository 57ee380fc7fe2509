use Rattle.std.proofs.Common.{◌≡◌, true, false, length, Err, rules}
use Rattle.std.specs.Result.{is_err}
use Rattle.step.proofs.Writing.{no_room, had_room}
use Rattle.step.proofs.Answering.{next_halts, redex_over, front_over, next_over, written_first, next_done, next_behind}
use Rattle.step.proofs.stepping.next.Goals as goal

pub returns-in_err-rewrite : goal.returns-in_err-rewrite
returns-in_err-rewrite g c =
    let e : is_err c.write.result ≡ true = search rules in
    let q : c.from_residual.result ≡ Err c.in_err-rewrite.field-0.0 = search rules in
    rw q
    (next_halts c.in_err-rewrite.field-0.0 (length c.args.to.now) _
    (front_over c.args.before.now (search rules) c.new-writer.ensures.filled (no_room c.write.new.self c.write.result e c.write.ensures.holds))
    c.in_err-rewrite.ensures.rewrites)

pub returns-then-is_err : goal.returns-then-is_err
returns-then-is_err g c =
    let e : is_err c.write.result ≡ true = search rules in
    next_over (search rules) c.new-writer.ensures.filled (no_room c.write.new.self c.write.result e c.write.ensures.holds) c.in_ok-rewrite.ensures.rewrites

pub returns-in_err-behind : goal.returns-in_err-behind
returns-in_err-behind g c =
    let e : is_err c.write.result ≡ false = search rules in
    let q : c.from_residual-in_err-behind.result ≡ Err c.in_err-behind.field-0.0 = search rules in
    rw q
    (next_halts c.in_err-behind.field-0.0 (length c.args.to.now) _
    (redex_over c.args.before.now (search rules) (written_first c.args.before.now c.new-writer.ensures.filled (had_room c.write.result e c.write.ensures.holds)))
    c.in_err-behind.ensures.rewrites)

pub returns-in_err-write : goal.returns-in_err-write
returns-in_err-write g c =
    let e : is_err c.write.result ≡ false = search rules in
    let q : c.from_residual-in_err-write.result ≡ Err c.in_err-write.field-0.0 = search rules in
    rw q
    (next_behind c.write-2.new.self c.in_err-write.field-0.0 (search rules) (written_first c.args.before.now c.new-writer.ensures.filled (had_room c.write.result e c.write.ensures.holds))
    c.in_ok-behind.ensures.rewrites c.in_err-write.ensures.holds)

pub returns : goal.returns
returns g c =
    let e : is_err c.write.result ≡ false = search rules in
    next_done (search rules) (search rules) (written_first c.args.before.now c.new-writer.ensures.filled (had_room c.write.result e c.write.ensures.holds))
    c.in_ok-behind.ensures.rewrites c.in_ok-write.ensures.holds

use Rattle.std.proofs.Common.{◌≡◌, ◌+◌, ◌∷◌, map, Err, sym, ◌∙◌, subst, arith, rules}
use Rattle.std.proofs.lemmas.List.{length-map, get_or-map}
use Rattle.step.specs.Fill.{written}
use Rattle.step.specs.Copies.{Copies}
use Rattle.step.specs.Written.{in_order}
use Rattle.step.proofs.Skipping.{extra, extras, no_child, low_child}
use Rattle.step.proofs.Writing.{kept_on}
use Rattle.step.proofs.Copying.{copied_some, copied_more, copied_part, copied_all, short_some, short_child, short_copy, all_held, all_over, at_beyond, at_latest, at_other, name_leaf, beyond_leaf}
use Rattle.step.proofs.write.Writer.+copy.Goals as goal

pub returns-in_err-copy-clause-copies : goal.returns-in_err-copy-clause-copies
returns-in_err-copy-clause-copies t c =
    let q : c.from_residual.result ≡ Err c.in_err-copy.field-0.0 = search rules in
    let e : c.args.parts.now ≡ c.in-Some.part.now ∷ c.in-Some.rest.now = search rules in
    rw q
    (short_copy c.in_err-copy.field-0.0 c.copy.new.self c.copy.new.self
    (λ s. rw e
    (short_some
    (at_beyond (in_order c.args.values.latest) c.args.values.argument.now c.args.depth c.in-Some.part.now (sym c.names_argument.ensures ∙ c.if-names_argument.true))
    (all_over s)))
    c.in_err-copy.ensures.copies)

pub returns-then-names_argument-clause-copies : goal.returns-then-names_argument-clause-copies
returns-then-names_argument-clause-copies t c =
    let e : c.args.parts.now ≡ c.in-Some.part.now ∷ c.in-Some.rest.now = search rules in
    rw e
    (copied_some
    (at_beyond (in_order c.args.values.latest) c.args.values.argument.now c.args.depth c.in-Some.part.now (sym c.names_argument.ensures ∙ c.if-names_argument.true))
    (beyond_leaf c.args.values.argument.now c.args.depth c.in-Some.part.now (sym c.names_argument.ensures ∙ c.if-names_argument.true))
    (all_held c.in_ok-copy.ensures.copies))

pub returns-then-names-clause-copies : goal.returns-then-names-clause-copies
returns-then-names-clause-copies t c =
    let e : c.args.parts.now ≡ c.in-Some.part.now ∷ c.in-Some.rest.now = search rules in
    rw e
    (copied_some
    (at_latest (in_order c.args.values.latest) c.args.values.argument.now c.args.depth c.in-Some.part.now
    (sym c.names_argument.ensures ∙ c.if-names_argument.false) (sym c.names.ensures ∙ c.if-names.true))
    (name_leaf c.args.depth c.in-Some.part.now (sym c.names.ensures ∙ c.if-names.true))
    c.in_ok-write_runs.ensures.holds)

pub returns-in_err-rest-clause-copies : goal.returns-in_err-rest-clause-copies
returns-in_err-rest-clause-copies t c =
    let q : c.from_residual-in_err-rest.result ≡ Err c.in_err-rest.field-0.0 = search rules in
    let e : c.args.parts.now ≡ c.in-Some.part.now ∷ c.in-Some.rest.now = search rules in
    rw q
    (short_copy c.in_err-rest.field-0.0 c.copy-in-loop-child.new.self c.copy-in-loop-child.new.self
    (λ s. rw e
    (short_child (map extra c.children-child-items.result.now) c.args.depth c.loop-child.child-index (omega (arith, length-map c.children-child-items.result.now extra)) (kept_on c.write.ensures.kept c.loop-child.invariant.kept)
    (copied_part
    (at_other (in_order c.args.values.latest) c.args.values.argument.now c.args.depth c.in-Some.part.now
    (sym c.names_argument.ensures ∙ c.if-names_argument.false) (sym c.names.ensures ∙ c.if-names.false))
    (extras c.in-Some.part.now.kind c.children-child-items.result.now c.children-child-items.ensures) c.in_ok-write.ensures.holds c.loop-child.invariant.copied)
    s))
    (subst (λ n. Copies (written (in_order c.args.values.latest) c.args.values.argument.now) (c.args.depth + n) c.loop-child.rest.now c.loop-child.self c.copy-in-loop-child.new.self (Err c.in_err-rest.field-0.0))
    (sym (get_or-map extra c.children-child-items.result.now c.loop-child.child-index no_child 0 c.loop-child-test.true)) c.in_err-rest.ensures.copies))

pub copy-requires-in-loop-child : goal.copy-requires-in-loop-child
copy-requires-in-loop-child t c =
    let n = low_child c.in-Some.part.now.kind c.children-child-items.result.now c.loop-child.child-index c.loop-child-test.true c.children-child-items.ensures in
    search rules

pub loop-child-preserved : goal.loop-child-preserved
loop-child-preserved t c =
    record {
      kept = kept_on c.loop-child.invariant.kept c.copy-in-loop-child.ensures.kept;
      copied = copied_more (map extra c.children-child-items.result.now) c.args.depth c.loop-child.child-index (omega (arith, length-map c.children-child-items.result.now extra)) c.loop-child.invariant.copied
          (rw (get_or-map extra c.children-child-items.result.now c.loop-child.child-index no_child 0 c.loop-child-test.true) c.in_ok-rest.ensures.copies);
    }

pub returns-clause-copies : goal.returns-clause-copies
returns-clause-copies t c =
    let e : c.args.parts.now ≡ c.in-Some.part.now ∷ c.in-Some.rest.now = search rules in
    rw e
    (copied_part
    (at_other (in_order c.args.values.latest) c.args.values.argument.now c.args.depth c.in-Some.part.now
    (sym c.names_argument.ensures ∙ c.if-names_argument.false) (sym c.names.ensures ∙ c.if-names.false))
    (extras c.in-Some.part.now.kind c.children-child-items.result.now c.children-child-items.ensures) c.in_ok-write.ensures.holds
    (copied_all (map extra c.children-child-items.result.now) c.args.depth c.loop-child.child-index (omega (arith, length-map c.children-child-items.result.now extra, c.loop-child-test.false)) c.loop-child.invariant.copied))

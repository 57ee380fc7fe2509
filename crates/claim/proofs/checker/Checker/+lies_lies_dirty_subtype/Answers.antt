use Rattle.std.proofs.Common.{refl, sym, ◌∙◌, eq-eqb, ne_eqb}
use Rattle.claim.specs.Checker as s
use Rattle.claim.proofs.Forms.{both, neither, below_fun, below_hand, below_instance, below_ground, same_number, of_forms, not_ground, not_function, not_instance, not_handler}
use Rattle.claim.proofs.checker.Checker.+lies_lies_dirty_subtype.Goals as goal

pub lies-returns-in-Ground-Ground : goal.lies-returns-in-Ground-Ground
lies-returns-in-Ground-Ground t c =
    let x = c.args.self.now in
    of_forms x c.in-Ground-Ground.is-0 c.in-Ground-Ground.is-1 (c.eq.ensures ∙ same_number _ _ ∙ sym (below_ground (s.dirts x) _ _))

pub lies-returns-then-subtype : goal.lies-returns-then-subtype
lies-returns-then-subtype t c =
    let x = c.args.self.now in
    of_forms x c.in-Function-Function.is-0 c.in-Function-Function.is-1
    (both _ _ _ _ c.if-subtype.true c.subtype.ensures c.lies_dirty.ensures ∙ sym (below_fun (s.dirts x) _ _ _ _ _ _))

pub lies-returns-else-subtype : goal.lies-returns-else-subtype
lies-returns-else-subtype t c =
    let x = c.args.self.now in
    of_forms x c.in-Function-Function.is-0 c.in-Function-Function.is-1 (neither _ _ _ c.if-subtype.false c.subtype.ensures ∙ sym (below_fun (s.dirts x) _ _ _ _ _ _))

pub lies-returns-then-e-f : goal.lies-returns-then-e-f
lies-returns-then-e-f t c =
    let x = c.args.self.now in
    of_forms x c.in-Instance-Instance.is-0 c.in-Instance-Instance.is-1 (both _ _ _ _ (eq-eqb _ _ c.if-e-f.true) refl c.inside.ensures ∙ sym (below_instance (s.dirts x) _ _ _ _))

pub lies-returns-else-e-f : goal.lies-returns-else-e-f
lies-returns-else-e-f t c =
    let x = c.args.self.now in
    of_forms x c.in-Instance-Instance.is-0 c.in-Instance-Instance.is-1 (neither _ _ _ (ne_eqb _ _ c.if-e-f.false) refl ∙ sym (below_instance (s.dirts x) _ _ _ _))

pub lies-returns-then-lies_dirty : goal.lies-returns-then-lies_dirty
lies-returns-then-lies_dirty t c =
    let x = c.args.self.now in
    of_forms x c.in-Handler-Handler.is-0 c.in-Handler-Handler.is-1
    (both _ _ _ _ c.if-lies_dirty.true c.lies_dirty-in-Handler-Handler.ensures c.lies_dirty-then-lies_dirty.ensures ∙ sym (below_hand (s.dirts x) _ _ _ _ _ _ _ _))

pub lies-returns-else-lies_dirty : goal.lies-returns-else-lies_dirty
lies-returns-else-lies_dirty t c =
    let x = c.args.self.now in
    of_forms x c.in-Handler-Handler.is-0 c.in-Handler-Handler.is-1
    (neither _ _ _ c.if-lies_dirty.false c.lies_dirty-in-Handler-Handler.ensures ∙ sym (below_hand (s.dirts x) _ _ _ _ _ _ _ _))

pub lies-returns-in_default : goal.lies-returns-in_default
lies-returns-in_default t c = not_ground c.args.self.now c.in_default.is-0 c.in_default.not-Ground-1

pub lies-returns-in_default-2 : goal.lies-returns-in_default-2
lies-returns-in_default-2 t c = not_function c.args.self.now c.in_default.is-0 c.in_default.not-Function-1

pub lies-returns-in_default-3 : goal.lies-returns-in_default-3
lies-returns-in_default-3 t c = not_instance c.args.self.now c.in_default.is-0 c.in_default.not-Instance-1

pub lies-returns-in_default-4 : goal.lies-returns-in_default-4
lies-returns-in_default-4 t c = not_handler c.args.self.now c.in_default.is-0 c.in_default.not-Handler-1

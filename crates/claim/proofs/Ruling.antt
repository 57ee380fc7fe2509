-- The rule of a part by its node.
use Rattle.std.proofs.Common.{◌≡◌, ℕ, ◌+◌, ◌^◌, Bool, ◌&&◌, get_or, sym, ap, ◌∙◌, subst, ap₂}
use lib.Bits.{bit_or}
use Rattle.eff.specs.Sorts.{Sort, expr}
use Rattle.eff.specs.Types.{Ty, Dirty}
use Rattle.eff.specs.Types as t
use Rattle.eff.specs.Tables.{Tables, takes, type}
use Rattle.eff.specs.Dirt.{Dirts}
use Rattle.eff.specs.Rules.{Cxt}
use Rattle.eff.specs.Syntax.{head}
use Rattle.eff.specs.Handling.{cases_leave}
use Rattle.eff.specs.Labels.{Labelled, var, truth, num, succ, unit, inst, fn, handler, case, nil, if, match, absurd as absurd_at, apply, val, call, bind, rec, handle, erase, claim}
use Rattle.eff.specs.declared.kind.Kind.TheVariants as k
use Rattle.sheet.specs.declared.rows.PartRow.{PartRow}
use Rattle.sheet.specs.Rows.{Listing}
use Rattle.claim.specs.Checker as s
use Rattle.claim.specs.Below.{below, below_dirty}
use Rattle.claim.specs.Placing.{Entry, Placed, claim_of, end_of, row}
use Rattle.claim.specs.Test.{name_ok, handler_ok, case_ok, apply_ok, call_ok, rec_ok, handle_ok, choice_ok, holds}
use Rattle.claim.specs.Node.{node_at, RuledAs, Ruled}
use Rattle.claim.specs.declared.checker.Checker.{Checker}
use Rattle.eff.proofs.Paths.{ap₃, ap₄}
use Rattle.claim.proofs.Ranging.{columns_at}
use Rattle.claim.proofs.Laid.{own, placed_laid, placed_first, placed_a, placed_b, placed_kind, kind_is, one, two, three, expr_claim, comp_claim, list_claim}

module _ (x : Checker) (Γ : Cxt) (r : ℕ) where
  abbrev l : Listing
  l = s.rows x

  abbrev T : Tables
  T = s.declared x

  abbrev D : Dirts
  D = s.dirts x

  abbrev ty : PartRow → Ty
  ty p = type T p.ty

  abbrev C : PartRow → Dirty
  C p = claim_of l p

  abbrev n2 : ℕ
  n2 = end_of l (r + 1)

  abbrev n3 : ℕ
  n3 = end_of l n2

  abbrev p0 : PartRow
  p0 = row l r

  abbrev p1 : PartRow
  p1 = row l (r + 1)

  abbrev p2 : PartRow
  p2 = row l n2

  abbrev p3 : PartRow
  p3 = row l n3

  own_is : {s : Sort} (v : Labelled s) → Placed l s r v → C p0 ≡ own v
  own_is v h = ap (λ (e : Entry). e.claim) (placed_first l r v h).is

  ty_is : {s : Sort} (v : Labelled s) → Placed l s r v → ty p0 ≡ (own v).0
  ty_is v h = ap (λ (e : Entry). e.claim.0) (placed_first l r v h).is

  first_1 : (v : Labelled expr) → Placed l expr (r + 1) v → ty p1 ≡ claim v
  first_1 v h = expr_claim l (r + 1) v h

  ruled : {s : Sort} (v : Labelled s) → Placed l s r v → (b : Bool) → RuledAs x Γ (node_at l r) (head (erase v)).kind b → b ≡ holds T D Γ v
  ruled (var A n) h b q = q ∙ ap₂ (name_ok D Γ) (placed_a l r (var A n) h) (ty_is (var A n) h)
  ruled (truth A z) h b q = q ∙ ap (below D t.bool) (ty_is (truth A z) h)
  ruled (num A n) h b q = q ∙ ap (below D t.nat) (ty_is (num A n) h)
  ruled (succ A e) h b q =
      let c = one l r _ e (placed_laid l r (succ A e) h) in
      q ∙ ap₂ (λ X Y. below D X t.nat && below D t.nat Y) (first_1 e c.first) (ty_is (succ A e) h)
  ruled (unit A) h b q = q ∙ ap (below D t.unit) (ty_is (unit A) h)
  ruled (inst A i) h b q =
      let lt = (placed_first l r (inst A i) h).short in
      q (columns_at x.sheet.now r k.Instance lt (sym (placed_kind l r (inst A i) h))).0 ∙ ap₂ (λ n X. below D (t.instance (get_or T.instances n 0) (2 ^ n)) X) (placed_a l r (inst A i) h) (ty_is (inst A i) h)
  ruled (fn A a c) h b q =
      let k = one l r _ c (placed_laid l r (fn A a c) h) in
      q ∙ ap₃ (λ n (Y : Dirty) X. below D (t.fun (type T n) Y.0 Y.1) X) (placed_a l r (fn A a c) h) (comp_claim l (r + 1) c k.first) (ty_is (fn A a c) h)
  ruled (handler A a c cs) h b q =
      let k = two l r _ c cs (placed_laid l r (handler A a c cs) h) in
      q cs k.second ∙ ap₄ (λ X n Y Z. handler_ok D X (type T n) Y Z (cases_leave D cs)) (ty_is (handler A a c cs) h) (placed_a l r (handler A a c cs) h) (comp_claim l (r + 1) c k.first) (list_claim l n2 cs k.second)
  ruled (case e op i c cs) h b q =
      let k = three l r _ i c cs (placed_laid l r (case e op i c cs) h) in
      q ∙ ap₄ (case_ok D) (placed_a l r (case e op i c cs) h) (first_1 i k.first) (comp_claim l n2 c k.second) (list_claim l n3 cs k.third)
  ruled (nil X) h b q = q
  ruled (if X e c c') h b q =
      let k = three l r _ e c c' (placed_laid l r (if X e c c') h) in
      q ∙ ap₄ (choice_ok D t.bool) (own_is (if X e c c') h) (first_1 e k.first) (comp_claim l n2 c k.second) (comp_claim l n3 c' k.third)
  ruled (match X e c c') h b q =
      let k = three l r _ e c c' (placed_laid l r (match X e c c') h) in
      q ∙ ap₄ (choice_ok D t.nat) (own_is (match X e c c') h) (first_1 e k.first) (comp_claim l n2 c k.second) (comp_claim l n3 c' k.third)
  ruled (absurd_at X e) h b q =
      let k = one l r _ e (placed_laid l r (absurd_at X e) h) in
      q ∙ ap (λ X. below D X t.empty) (first_1 e k.first)
  ruled (apply X e f) h b q =
      let k = two l r _ e f (placed_laid l r (apply X e f) h) in
      q ∙ ap₃ (apply_ok D) (own_is (apply X e f) h) (first_1 e k.first) (expr_claim l n2 f k.second)
  ruled (val X e) h b q =
      let k = one l r _ e (placed_laid l r (val X e) h) in
      q ∙ ap₂ (λ Y Z. below_dirty D (Y, 0) Z) (first_1 e k.first) (own_is (val X e) h)
  ruled (call X e op i w c) h b q =
      let k = three l r _ i w c (placed_laid l r (call X e op i w c) h) in
      q ∙ ap₃ (λ Y n m. call_ok D Y n m (type T (takes T n m)) (ty p1) (ty p2) (C p3)) (own_is (call X e op i w c) h) (placed_a l r (call X e op i w c) h) (placed_b l r (call X e op i w c) h)
      ∙ ap₃ (call_ok D X e op (type T (takes T e op))) (first_1 i k.first) (expr_claim l n2 w k.second) (comp_claim l n3 c k.third)
  ruled (bind X c c') h b q =
      let k = two l r _ c c' (placed_laid l r (bind X c c') h) in
      q ∙ ap₃ (λ (Y Z : Dirty) W. below_dirty D (Z.0, bit_or Y.1 Z.1) W) (comp_claim l (r + 1) c k.first) (comp_claim l n2 c' k.second) (own_is (bind X c c') h)
  ruled (rec X a c c') h b q =
      let k = two l r _ c c' (placed_laid l r (rec X a c c') h) in
      q ∙ ap₄ (λ Y n Z W. rec_ok D Y (type T n) Z W) (own_is (rec X a c c') h) (placed_a l r (rec X a c c') h) (comp_claim l (r + 1) c k.first) (comp_claim l n2 c' k.second)
  ruled (handle X e c) h b q =
      let k = two l r _ e c (placed_laid l r (handle X e c) h) in
      q ∙ ap₃ (handle_ok D) (own_is (handle X e c) h) (first_1 e k.first) (comp_claim l n2 c k.second)

  pub rule_holds : {s : Sort} (v : Labelled s) → Placed l s r v → (b : Bool) → Ruled x Γ (node_at l r) b → b ≡ holds T D Γ v
  rule_holds v h b q = ruled v h b (subst (λ k. RuledAs x Γ (node_at l r) k b) (kind_is l r v h) q.by)

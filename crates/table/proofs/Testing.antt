-- The tests say which rows are in range.
use Rattle.std.proofs.Common.{◌≡◌, ℕ, zero, suc, ◌+◌, ◌^◌, ◌<◌, true, cond, eqb, ltb, leb, List, [], ◌∷◌, map, length, get_or, Some, None, Option, sym, refl, ap, ◌∙◌, subst, inl, inr, ⊎_elim, arith}
use Rattle.std.proofs.lemmas.List.{length-map}
use Rattle.std.proofs.lemmas.Bool.{eqb-true, eq-eqb, ne_eqb, ltb-true, lt-ltb, leb-true, le-leb, and_parts, and_from, cond_both, cond-true, cond-false, cases_Bool, true≢false}
use Rattle.eff.specs.Sets.{inside, Holds}
use Rattle.eff.specs.Tables.{Tables, declared, declares, Listed, type}
use Rattle.eff.specs.Dirt.{sets}
use Rattle.eff.specs.Checked.{Region, InOrder, a_function, an_instance, a_handler}
use Rattle.eff.specs.Kinds.{kinded, table, Column}
use Rattle.eff.specs.Kinds as k
use Rattle.eff.specs.declared.kind.Kind.{Kind}
use Rattle.eff.proofs.Sets.{bit_zero, holds_own, own_holds, within_true, true_within}
use Rattle.eff.proofs.CallSets.{holds_or, or_left, or_right}
use Rattle.sheet.specs.declared.rows.Operation.{Operation}
use Rattle.sheet.specs.declared.rows.Instance as row
use Rattle.sheet.specs.declared.rows.TypeRow.{TypeRow}
use Rattle.sheet.specs.declared.rows.PartRow.{PartRow}
use Rattle.sheet.specs.Rows.{Listing}
use Rattle.table.specs.Meant.{declaration, effect_of, listed_type, tables_of}
use Rattle.table.specs.Ranges.{height, OperationRange, Unused, TypeRange, FunctionType, InColumn, Columns, Claim, PartRange, Claims, claims}
use Rattle.table.specs.Ranges as u
use Rattle.table.specs.Tests.{operation_ok, has_effect, instances_of, dirt_ok, columns_ok, type_ok, listed_ok, function_type_ok, column_ok, use_ok, claim_ok, kind_ok, part_ok}

pub operation_range : (o : Operation) → operation_ok o ≡ true → OperationRange o
operation_range o h =
    let a = and_parts _ _ h in
    let b = and_parts _ _ a.1 in
    let c = and_parts _ _ b.1 in
    record { effect = ltb-true _ _ a.0; op = ltb-true _ _ b.0; takes = ltb-true _ _ c.0; gives = ltb-true _ _ c.1 }

pub range_operation : (o : Operation) → OperationRange o → operation_ok o ≡ true
range_operation o r = and_from _ _ (lt-ltb _ _ r.effect) (and_from _ _ (lt-ltb _ _ r.op) (and_from _ _ (lt-ltb _ _ r.takes) (lt-ltb _ _ r.gives)))

-- an effect has an operation just where some row is of it
pub effect_declared : (os : List Operation) (e : ℕ) → has_effect os e ≡ true → (op : ℕ) × (declared (map declaration os) e op ≡ true)
effect_declared [] e h = absurd (true≢false (sym h))
effect_declared (o ∷ os) e h =
    elim (cases_Bool (eqb o.effect e)) [
      | inl q ↦ (o.op, cond-true _ _ _ (and_from _ _ q (eq-eqb _ _ refl)))
      | inr q ↦
          let r = effect_declared os e (sym (cond-false _ _ _ q) ∙ h) in
          (r.0, later r.0 r.1)
    ]
  where
    later : (op : ℕ) → declared (map declaration os) e op ≡ true → declared (map declaration (o ∷ os)) e op ≡ true
    later op h = cond_both (declares (declaration o) e op) true (declared (map declaration os) e op) (λ b. b ≡ true) (λ _. refl) (λ _. h)

pub declared_effect : (os : List Operation) (e op : ℕ) → declared (map declaration os) e op ≡ true → has_effect os e ≡ true
declared_effect [] e op h = absurd (true≢false (sym h))
declared_effect (o ∷ os) e op h =
    elim (cases_Bool (declares (declaration o) e op)) [
      | inl q ↦ cond-true (eqb o.effect e) true (has_effect os e) (and_parts (eqb o.effect e) (eqb o.op op) q).0
      | inr q ↦ cond_both (eqb o.effect e) true (has_effect os e) (λ b. b ≡ true) (λ _. refl) (λ _. declared_effect os e op (sym (cond-false _ _ _ q) ∙ h))
    ]

-- an instance of the region is one whose row has the effect
record At (e k : ℕ) (xs : List row.Instance) (j : ℕ) : Type 0 where
  at : ℕ
  is : j ≡ k + at
  short : at < length xs
  effect : get_or (map effect_of xs) at 0 ≡ e

zero_holds : (k : ℕ) → Holds 0 k → ⊥
zero_holds k h = omega (arith, bit_zero k)

region_at : (e k : ℕ) (is : List row.Instance) (j : ℕ) → Holds (instances_of e k is) j → At e k is j
region_at e k [] j h = absurd (zero_holds j h)
region_at e k (x ∷ xs) j h =
    ⊎_elim
    (cond_both (eqb x.effect e) (2 ^ k) 0 (λ n. Holds n j → At e k (x ∷ xs) j)
    (λ q p. record { at = 0; is = own_holds k j p ∙ (let z : k ≡ k + 0 = omega arith in z); short = omega arith; effect = eqb-true _ _ q })
    (λ q p. absurd (zero_holds j p)))
    (λ p.
    let r = region_at e (suc k) xs j p in
    record { at = suc r.at; is = r.is ∙ (let z : suc k + r.at ≡ k + suc r.at = omega arith in z); short = omega (arith, r.short); effect = r.effect })
    (holds_or (cond (eqb x.effect e) (2 ^ k) 0) (instances_of e (suc k) xs) j h)

at_region : (e k : ℕ) (is : List row.Instance) (m : ℕ) → m < length is → get_or (map effect_of is) m 0 ≡ e → Holds (instances_of e k is) (k + m)
at_region e k [] m h q = absurd (omega arith)
at_region e k (x ∷ xs) zero h q =
    or_left (cond (eqb x.effect e) (2 ^ k) 0) (instances_of e (suc k) xs) (k + 0)
    (subst (λ n. Holds n (k + 0)) (sym (cond-true _ _ _ (eq-eqb _ _ q))) (subst (Holds (2 ^ k)) (let z : k ≡ k + 0 = omega arith in z) (holds_own k)))
at_region e k (x ∷ xs) (suc m) h q =
    or_right (cond (eqb x.effect e) (2 ^ k) 0) (instances_of e (suc k) xs) (k + suc m)
    (subst (Holds (instances_of e (suc k) xs)) (let z : suc k + m ≡ k + suc m = omega arith in z) (at_region e (suc k) xs m (omega arith) q))

module _ (l : Listing) where
  abbrev T : Tables
  T = tables_of l

  -- a region within the instances of an effect
  region : (e R : ℕ) → inside R (instances_of e 0 l.instances) ≡ true → Region T (sets T) e R
  region e R h i p =
      let r = region_at e 0 l.instances i (true_within R (instances_of e 0 l.instances) h i p) in
      let z : i ≡ r.at = r.is ∙ (let q : 0 + r.at ≡ r.at = omega arith in q) in
      record { declared = omega (arith, z, r.short, length-map l.instances effect_of); effect = ap (λ k. get_or (map effect_of l.instances) k 0) z ∙ r.effect }

  inside_region : (e R : ℕ) → Region T (sets T) e R → inside R (instances_of e 0 l.instances) ≡ true
  inside_region e R h =
      within_true R (instances_of e 0 l.instances) (λ i p.
      let r = h i p in
      subst (Holds (instances_of e 0 l.instances)) (let z : 0 + i ≡ i = omega arith in z) (at_region e 0 l.instances i (omega (arith, r.declared, length-map l.instances effect_of)) r.effect))

  -- the columns of a type by its kind
  in_order : (n : ℕ) (t : TypeRow) → columns_ok l n t ≡ true → InOrder T (sets T) n (listed_type t) × Unused t
  in_order n t h =
      elim (cases_Bool (eqb t.kind 4)) [
        | inl k ↦
            let kind : t.kind ≡ 4 = eqb-true _ _ k in
            let p = and_parts (ltb t.a n) _ (sym (cond-true _ _ _ k) ∙ h) in
            let q = and_parts (ltb t.b n) _ p.1 in
            let r = and_parts (eqb t.d 0) (dirt_ok l t.e) q.1 in
            (a_function kind (ltb-true _ _ p.0) (ltb-true _ _ q.0) r.1, record { function = λ _. eqb-true _ _ r.0; instance = λ five. absurd (omega (arith, kind, five)) })
        | inr k ↦
            let not4 = sym (cond-false _ _ _ k) ∙ h in
            elim (cases_Bool (eqb t.kind 5)) [
              | inl m ↦
                  let kind : t.kind ≡ 5 = eqb-true _ _ m in
                  let p = and_parts (has_effect l.operations t.a) _ (sym (cond-true _ _ _ m) ∙ not4) in
                  let q = and_parts (inside t.b (instances_of t.a 0 l.instances)) _ p.1 in
                  let r = and_parts (eqb t.d 0) (eqb t.e 0) q.1 in
                  (an_instance kind (effect_declared l.operations t.a p.0) (region t.a t.b q.0), record { function = λ four. absurd (omega (arith, kind, four)); instance = λ _. (eqb-true _ _ r.0, eqb-true _ _ r.1) })
              | inr m ↦
                  let not5 = sym (cond-false _ _ _ m) ∙ not4 in
                  elim (cases_Bool (eqb t.kind 6)) [
                    | inl w ↦
                        let kind : t.kind ≡ 6 = eqb-true _ _ w in
                        let p = and_parts (ltb t.a n) _ (sym (cond-true _ _ _ w) ∙ not5) in
                        let q = and_parts (ltb t.b n) _ p.1 in
                        let r = and_parts (dirt_ok l t.d) (dirt_ok l t.e) q.1 in
                        (a_handler kind (ltb-true _ _ p.0) (ltb-true _ _ q.0) r.0 r.1, record { function = λ four. absurd (omega (arith, kind, four)); instance = λ five. absurd (omega (arith, kind, five)) })
                    | inr w ↦ absurd (true≢false (sym (sym (cond-false _ _ _ w) ∙ not5)))
                  ]
            ]
      ]

  columns_in_order : (n : ℕ) (t : TypeRow) → InOrder T (sets T) n (listed_type t) → Unused t → columns_ok l n t ≡ true
  columns_in_order n t (a_function k a b e) u =
      cond-true _ _ _ (eq-eqb _ _ k) ∙ and_from _ _ (lt-ltb _ _ a) (and_from _ _ (lt-ltb _ _ b) (and_from _ _ (eq-eqb _ _ (u.function k)) e))
  columns_in_order n t (an_instance k e r) u =
      cond-false (eqb t.kind 4) _ _ (ne_eqb _ _ (λ q. omega (arith, k, q))) ∙ cond-true _ _ _ (eq-eqb _ _ k)
      ∙ and_from _ _ (declared_effect l.operations t.a e.0 e.1) (and_from _ _ (inside_region t.a t.b r) (and_from _ _ (eq-eqb _ _ (u.instance k).0) (eq-eqb _ _ (u.instance k).1)))
  columns_in_order n t (a_handler k a b d e) u =
      cond-false (eqb t.kind 4) _ _ (ne_eqb _ _ (λ q. omega (arith, k, q))) ∙ cond-false (eqb t.kind 5) _ _ (ne_eqb _ _ (λ q. omega (arith, k, q)))
      ∙ cond-true _ _ _ (eq-eqb _ _ k) ∙ and_from _ _ (lt-ltb _ _ a) (and_from _ _ (lt-ltb _ _ b) (and_from _ _ d e))

  pub type_range : (n : ℕ) (t : TypeRow) → type_ok l n t ≡ true → TypeRange l n t
  type_range n t h =
      let p = and_parts (columns_ok l n t) (leb (height (type T n)) 12) h in
      let o = in_order n t p.0 in
      record { order = o.0; unused = o.1; low = leb-true _ _ p.1 }

  pub range_type : (n : ℕ) (t : TypeRow) → TypeRange l n t → type_ok l n t ≡ true
  range_type n t r = and_from _ _ (columns_in_order n t r.order r.unused) (le-leb _ _ r.low)

  -- the number of a type
  listed_is : (n : ℕ) → listed_ok l n ≡ true → Listed T n
  listed_is n h = let k : n < 4 + length l.types = ltb-true _ _ h in omega (arith, length-map l.types listed_type)

  is_listed : (n : ℕ) → Listed T n → listed_ok l n ≡ true
  is_listed n h = lt-ltb n (4 + length l.types) (omega (arith, h, length-map l.types listed_type))

  function_is : (n : ℕ) → function_type_ok l n ≡ true → FunctionType l n
  function_is n h =
      let p = and_parts (leb 4 n) _ h in
      let q = and_parts (listed_ok l n) _ p.1 in
      (leb-true _ _ p.0, listed_is n q.0, eqb-true _ _ q.1)

  is_function : (n : ℕ) → FunctionType l n → function_type_ok l n ≡ true
  is_function n h = and_from _ _ (le-leb _ _ h.0) (and_from _ _ (is_listed n h.1) (eq-eqb _ _ h.2))

  column_is : (w : Column) (e v : ℕ) → column_ok l w e v ≡ true → InColumn l w e v
  column_is k.unused e v h = eqb-true _ _ h
  column_is k.place e v h = tt
  column_is k.truth e v h = ltb-true _ _ h
  column_is k.count e v h = ltb-true _ _ h
  column_is k.instance e v h = ltb-true _ _ h
  column_is k.type e v h = listed_is v h
  column_is k.function_type e v h = function_is v h
  column_is k.effect e v h = tt
  column_is k.operation e v h = h

  is_column : (w : Column) (e v : ℕ) → InColumn l w e v → column_ok l w e v ≡ true
  is_column k.unused e v h = eq-eqb _ _ h
  is_column k.place e v h = refl
  is_column k.truth e v h = lt-ltb _ _ h
  is_column k.count e v h = lt-ltb _ _ h
  is_column k.instance e v h = lt-ltb _ _ h
  is_column k.type e v h = is_listed v h
  is_column k.function_type e v h = is_function v h
  is_column k.effect e v h = refl
  is_column k.operation e v h = h

  use_columns : (kind : Kind) (a b : ℕ) → use_ok l kind a b ≡ true → Columns l kind a b
  use_columns kind a b h =
      let p = and_parts (column_ok l (table kind).a a a) (column_ok l (table kind).b a b) h in
      (column_is (table kind).a a a p.0, column_is (table kind).b a b p.1)

  columns_use : (kind : Kind) (a b : ℕ) → Columns l kind a b → use_ok l kind a b ≡ true
  columns_use kind a b h = and_from _ _ (is_column (table kind).a a a h.0) (is_column (table kind).b a b h.1)

  claim_is : (c : Claims) (n d : ℕ) → claim_ok l c n d ≡ true → Claim l c n d
  claim_is u.pure n d h = let p = and_parts (listed_ok l n) (eqb d 0) h in (listed_is n p.0, eqb-true _ _ p.1)
  claim_is u.dirty n d h = let p = and_parts (listed_ok l n) (dirt_ok l d) h in (listed_is n p.0, p.1)
  claim_is u.none n d h = let p = and_parts (eqb n 0) (eqb d 0) h in (eqb-true _ _ p.0, eqb-true _ _ p.1)

  is_claim : (c : Claims) (n d : ℕ) → Claim l c n d → claim_ok l c n d ≡ true
  is_claim u.pure n d h = and_from _ _ (is_listed n h.0) (eq-eqb _ _ h.1)
  is_claim u.dirty n d h = and_from _ _ (is_listed n h.0) h.1
  is_claim u.none n d h = and_from _ _ (eq-eqb _ _ h.0) (eq-eqb _ _ h.1)

  kind_range : (p : PartRow) (o : Option Kind) → kinded p.kind ≡ o → kind_ok l o p ≡ true → PartRange l p
  kind_range p None e h = absurd (true≢false (sym h))
  kind_range p (Some k) e h =
      let q = and_parts (use_ok l k p.a p.b) (claim_ok l (claims k) p.ty p.dirt) h in
      record { kind = k; numbered = e; columns = use_columns k p.a p.b q.0; claim = claim_is (claims k) p.ty p.dirt q.1 }

  pub part_range : (p : PartRow) → part_ok l p ≡ true → PartRange l p
  part_range p h = kind_range p (kinded p.kind) refl h

  pub range_part : (p : PartRow) → PartRange l p → part_ok l p ≡ true
  range_part p r = ap (λ o. kind_ok l o p) r.numbered ∙ and_from _ _ (columns_use r.kind p.a p.b r.columns) (is_claim (claims r.kind) p.ty p.dirt r.claim)

-- What a sheet in range supplies of its tables.
use Rattle.std.proofs.Common.{◌≡◌, ℕ, suc, ◌+◌, ◌<◌, ◌≤◌, true, eqb, List, [], ◌∷◌, map, length, get_or, Some, sym, ap, ◌∙◌, subst, inl, inr, arith}
use mathlib.Core.Bool.{Bool-set}
use mathlib.Core.Logic.{∥∥₁_elim}
use Rattle.std.proofs.lemmas.List.{length-map, get_or-map, length-take}
use Rattle.std.proofs.lemmas.Bool.{eqb-true, and_parts, cond-true, cond-false, cases_Bool}
use Rattle.eff.specs.Tables.{no_row, Declares, Listed, declared, declares, signature}
use Rattle.eff.specs.Dirt.{sets}
use Rattle.eff.specs.Checked.{Checked, InOrder}
use Rattle.sheet.specs.declared.rows.Operation.{Operation}
use Rattle.sheet.specs.Rows.{Listing, operation_of, instance_of, type_of, part_of}
use Rattle.table.specs.Meant.{declaration, effect_of, listed_type, tables_of}
use Rattle.table.specs.Ranges.{AllInRange, Columns}
use Rattle.eff.specs.Kinds.{number, kinded}
use Rattle.eff.specs.declared.kind.Kind.{Kind}
use Rattle.eff.specs.declared.kind.Kind.TheVariants as k
use Rattle.eff.proofs.KindNumbers.{numbers}
use Rattle.table.specs.declared.ranged.Ranged.{Ranged}
use Rattle.table.proofs.Testing.{operation_range, range_operation, effect_declared, declared_effect, type_range, range_type, part_range, range_part}
use Rattle.claim.specs.Sheets as s
use Rattle.claim.specs.Placing.{row}

-- the ranges are tests, so that they can be had again
pub in_range : (l : Listing) → ∥ AllInRange l ∥₁ → AllInRange l
in_range l x = record {
  operations = λ r h. operation_range _ (∥∥₁_elim x (Bool-set _ _) (λ a. range_operation _ (a.operations r h)));
  instances = λ r h. effect_declared l.operations _ (∥∥₁_elim x (Bool-set _ _) (λ a. declared_effect l.operations _ _ (a.instances r h).1));
  types = λ r h. type_range l _ _ (∥∥₁_elim x (Bool-set _ _) (λ a. range_type l _ _ (a.types r h)));
  parts = λ r h. part_range l _ (∥∥₁_elim x (Bool-set _ _) (λ a. range_part l _ (a.parts r h)));
}

-- the row that declares an operation
record Declaring (os : List Operation) (e op : ℕ) : Type 0 where
  row : ℕ
  short : row < length os
  is : signature (map declaration os) e op ≡ declaration (get_or os row (operation_of []))
  effect : (get_or os row (operation_of [])).effect ≡ e
  number : (get_or os row (operation_of [])).op ≡ op

declaring : (os : List Operation) (e op : ℕ) → declared (map declaration os) e op ≡ true → Declaring os e op
declaring [] e op h = let z : ◌≡◌ {A = ℕ} 0 1 = cc in absurd (omega arith)
declaring (o ∷ os) e op h =
    elim (cases_Bool (declares (declaration o) e op)) [
      | inl q ↦
          let p = and_parts (eqb o.effect e) (eqb o.op op) q in
          record { row = 0; short = omega arith; is = cond-true _ _ _ q; effect = eqb-true _ _ p.0; number = eqb-true _ _ p.1 }
      | inr q ↦
          let d = declaring os e op (sym (cond-false _ _ _ q) ∙ h) in
          record { row = suc d.row; short = omega (arith, d.short); is = cond-false _ _ _ q ∙ d.is; effect = d.effect; number = d.number }
    ]

-- the tables of rows in range are checked
pub checked : (l : Listing) → length l.instances ≤ 16 → AllInRange l → Checked (tables_of l) (sets (tables_of l))
checked l few a = record {
  effects = λ e op h. let d = declaring l.operations e op h in subst (λ x. x < 8) d.effect (a.operations d.row d.short).effect;
  operations = λ e op h. let d = declaring l.operations e op h in subst (λ x. x < 4) d.number (a.operations d.row d.short).op;
  taken = λ e op h.
      let d = declaring l.operations e op h in
      let k = (a.operations d.row d.short).takes in
      subst (λ o. Listed (tables_of l) o.takes) (sym d.is) (omega (arith, k));
  given = λ e op h.
      let d = declaring l.operations e op h in
      let k = (a.operations d.row d.short).gives in
      subst (λ o. Listed (tables_of l) o.gives) (sym d.is) (omega (arith, k));
  instances = omega (arith, length-map l.instances effect_of, few);
  instance_effects = λ i e h.
      let k : i < length l.instances = omega (arith, h.declared, length-map l.instances effect_of) in
      let x = a.instances i k in
      (x.0, subst (λ f. Declares (tables_of l) f x.0) (sym (get_or-map effect_of l.instances i (instance_of []) 0 k) ∙ h.effect) x.1);
  types = λ n h.
      let k : n < length l.types = omega (arith, h, length-map l.types listed_type) in
      subst (λ r. InOrder (tables_of l) (sets (tables_of l)) (4 + n) r) (sym (get_or-map listed_type l.types n (type_of []) no_row k)) (a.types n k).order;
}

-- what a ranged sheet supplies
pub ranges : (x : Ranged) → AllInRange (s.rows x)
ranges x = in_range (s.rows x) x.ranges

pub few_instances : (x : Ranged) → length (s.rows x).instances ≤ 16
few_instances x = omega (arith, length-take x.tables.instances.count x.tables.instances.rows, x.tables.instances.within)

pub checks : (x : Ranged) → Checked (s.declared x) (s.dirts x)
checks x = checked (s.rows x) (few_instances x) (ranges x)

-- kinds have numbers of their own
pub one_kind : (j k : Kind) → number j ≡ number k → j ≡ k
one_kind j k e = let q : Some j ≡ Some k = sym (numbers.kind j) ∙ ap kinded e ∙ numbers.kind k in cc

-- the columns of a part of a known kind
pub columns_at : (x : Ranged) (r : ℕ) (k : Kind) → r < length (s.rows x).parts → number k ≡ (get_or (s.rows x).parts r (part_of [])).kind
    → Columns (s.rows x) k (get_or (s.rows x).parts r (part_of [])).a (get_or (s.rows x).parts r (part_of [])).b
columns_at x r k h e =
    let p = (ranges x).parts r h in
    subst (λ j. Columns (s.rows x) j (get_or (s.rows x).parts r (part_of [])).a (get_or (s.rows x).parts r (part_of [])).b)
    (one_kind p.kind k (numbers.kind_number _ _ p.numbered ∙ sym e)) p.columns

-- a column b is unused or an operation
module _ (x : Ranged) (a b : ℕ) where
  small_column : (k : Kind) → Columns (s.rows x) k a b → b < 4
  small_column k.Variable h = omega arith
  small_column k.Truth h = omega arith
  small_column k.Numeral h = omega arith
  small_column k.Successor h = omega arith
  small_column k.Unit h = omega arith
  small_column k.Instance h = omega arith
  small_column k.Function h = omega arith
  small_column k.Handler h = omega arith
  small_column k.Case h = (checks x).operations _ _ h.1
  small_column k.Nil h = omega arith
  small_column k.If h = omega arith
  small_column k.Match h = omega arith
  small_column k.Absurd h = omega arith
  small_column k.Apply h = omega arith
  small_column k.Val h = omega arith
  small_column k.Call h = (checks x).operations _ _ h.1
  small_column k.Let h = omega arith
  small_column k.LetRec h = omega arith
  small_column k.With h = omega arith

pub small_operation : (x : Ranged) (r : ℕ) → r < length (s.rows x).parts → (row (s.rows x) r).b < 4
small_operation x r h = let p = (ranges x).parts r h in small_column x _ _ p.kind p.columns

-- The types that rows list.
use Rattle.std.proofs.Common.{◌≡◌, ℕ, zero, suc, ◌+◌, ◌-◌, ◌<◌, ◌≤◌, max, List, [], ◌∷◌, length, get_or, slice_get, Some, None, refl, sym, ap, ◌∙◌, subst, arith}
use Rattle.std.specs.Result.{result_unwrap_or}
use Rattle.std.specs.Option.{ok_or}
use lib.ListN.{get_or-eq_default}
use Rattle.std.proofs.lemmas.Bool.{ne_eqb, le-ltb, cond-false}
use Rattle.std.proofs.lemmas.List.{length-map, get_or-map}
use Rattle.std.proofs.lemmas.Option.{slice_get_within, get_or_from_slice_get}
use Rattle.eff.specs.Types.{Ty, ground, fun, instance, hand}
use Rattle.eff.specs.Types as t
use Rattle.eff.specs.Tables.{Tables, ListedType, no_row, type, numbered}
use Rattle.eff.specs.Tables as tables
use Rattle.eff.specs.Dirt.{Dirts}
use Rattle.eff.specs.Checked.{InOrder, a_function, an_instance, a_handler}
use Rattle.eff.specs.Grounds.{grounded}
use Rattle.eff.specs.Grounds as grounds
use Rattle.eff.specs.TypeNumbers.{listed}
use Rattle.eff.specs.declared.ground.Ground.{Ground}
use Rattle.eff.specs.declared.ground.Ground.TheVariants as g
use Rattle.eff.specs.Formers as formers
use Rattle.eff.specs.declared.former.Former.{Former}
use Rattle.eff.specs.declared.former.Former.TheVariants as f
use Rattle.eff.specs.declared.number.NoSuchNumber.{NoSuchNumber}
use Rattle.eff.proofs.TypeNumbers.{number_type, long, by_number}
use Rattle.sheet.specs.declared.rows.TypeRow.{TypeRow}
use Rattle.sheet.specs.Rows.{type_row}
use Rattle.table.specs.Meant.{listed_type}
use Rattle.table.specs.declared.ranged.Ranged.{Ranged}
use Rattle.claim.specs.declared.checker.Checker.{Checker}
use Rattle.claim.specs.Checker as s
use Rattle.claim.specs.Decoded.{decoded, rank}
use Rattle.claim.specs.Form.{formed, form_of}
use Rattle.claim.specs.declared.form.Form.{Form}
use Rattle.claim.proofs.Ranging.{checks}

-- a number that no row has
past : (T : Tables) (n : ℕ) → 4 + length T.types ≤ n → type T n ≡ t.unit
unfolding type
past T n h = get_or-eq_default (numbered tables.grounds T.types) t.unit {n = n} (omega (arith, long tables.grounds T.types, h))

not_ground : (n : ℕ) → 4 ≤ n → grounded n ≡ None
not_ground n h =
    cond-false _ _ _ (ne_eqb 0 n (λ e. omega (arith, h, e))) ∙ cond-false _ _ _ (ne_eqb 1 n (λ e. omega (arith, h, e)))
    ∙ cond-false _ _ _ (ne_eqb 2 n (λ e. omega (arith, h, e))) ∙ cond-false _ _ _ (ne_eqb 3 n (λ e. omega (arith, h, e)))

abbrev zero_row : TypeRow
zero_row = record { number = 0; kind = 0; a = 0; b = 0; d = 0; e = 0 }

-- a row names smaller numbers
smaller : (T : Tables) (D : Dirts) (n : ℕ) (r : ListedType) → InOrder T D n r → (r.kind ≡ 5 → ⊥) → 1 + max r.a r.b ≤ n
smaller T D n r (a_function k p q e) h = omega arith
smaller T D n r (an_instance k e s) h = absurd (h k)
smaller T D n r (a_handler k p q d e) h = omega arith

-- what the form of a row is
abbrev Shows : Checker → ℕ → Form → Type 0
Shows x n f = record { value : decoded (s.declared x) f ≡ type (s.declared x) n; low : rank f ≤ n }

past_rows : (ts : List TypeRow) (i : ℕ) → slice_get ts i ≡ None → length ts ≤ i
past_rows [] i e = omega arith
past_rows (t ∷ ts) zero e = cc
past_rows (t ∷ ts) (suc i) e = omega (arith, past_rows ts i e)

module _ (x : Checker) where
  abbrev ts : List TypeRow
  ts = (s.rows x).types

  module _ (n : ℕ) (lo : 4 ≤ n) (short : n - 4 < length ts) where
    abbrev y : Ranged
    y = x.sheet.now

    abbrev row : TypeRow
    row = get_or ts (n - 4) zero_row

    abbrev T : Tables
    T = s.declared x

    at : 4 + (n - 4) ≡ n
    at = omega arith

    is : listed T (n - 4) ≡ listed_type row
    is = get_or-map listed_type ts (n - 4) zero_row no_row short

    short_listed : n - 4 < length T.types
    short_listed = omega (arith, short, length-map ts listed_type)

    order : InOrder T (s.dirts x) n (listed_type row)
    order = subst (λ m. InOrder T (s.dirts x) m (listed_type row)) at (subst (λ r. InOrder T (s.dirts x) (4 + (n - 4)) r) is ((checks y).types (n - 4) short_listed))

    kind_is : (k : ℕ) → row.kind ≡ k → (listed T (n - 4)).kind ≡ k
    kind_is k e = ap (λ (r : ListedType). r.kind) is ∙ e

    a_function_row : row.kind ≡ 4 → Shows x n (formed row f.Function)
    a_function_row k = record {
      value = sym (subst (λ m. type T m ≡ fun (type T row.a) (type T row.b) row.e) at
          (subst (λ (r : ListedType). type T (4 + (n - 4)) ≡ fun (type T r.a) (type T r.b) r.e) is ((by_number T (s.dirts x) (checks y)).a_function (n - 4) short_listed (kind_is 4 k))));
      low = smaller T (s.dirts x) n (listed_type row) order (λ e. omega (arith, k, e));
    }

    an_instance_row : row.kind ≡ 5 → Shows x n (formed row f.Instance)
    an_instance_row k = record {
      value = sym (subst (λ m. type T m ≡ instance row.a row.b) at
          (subst (λ (r : ListedType). type T (4 + (n - 4)) ≡ instance r.a r.b) is ((by_number T (s.dirts x) (checks y)).an_instance (n - 4) short_listed (kind_is 5 k))));
      low = omega arith;
    }

    a_handler_row : row.kind ≡ 6 → Shows x n (formed row f.Handler)
    a_handler_row k = record {
      value = sym (subst (λ m. type T m ≡ hand (type T row.a) row.d (type T row.b) row.e) at
          (subst (λ (r : ListedType). type T (4 + (n - 4)) ≡ hand (type T r.a) r.d (type T r.b) r.e) is ((by_number T (s.dirts x) (checks y)).a_handler (n - 4) short_listed (kind_is 6 k))));
      low = smaller T (s.dirts x) n (listed_type row) order (λ e. omega (arith, k, e));
    }

    row_shows : (g : Form) → g ≡ form_of row → Shows x n g
    row_shows g e = subst (Shows x n) (sym e) (go order)
      where
        to : (m : Former) (k : ℕ) → row.kind ≡ k → result_unwrap_or (formers.by_number k) f.Handler ≡ m → Shows x n (formed row m) → Shows x n (form_of row)
        to m k i z h = subst (λ t. Shows x n (formed row t)) (sym (ap (λ j. result_unwrap_or (formers.by_number j) f.Handler) i ∙ z)) h

        go : InOrder T (s.dirts x) n (listed_type row) → Shows x n (form_of row)
        go (a_function k a b c) = to f.Function 4 k refl (a_function_row k)
        go (an_instance k a b) = to f.Instance 5 k refl (an_instance_row k)
        go (a_handler k a b c d) = to f.Handler 6 k refl (a_handler_row k)

  row_listed : (n : ℕ) → 4 ≤ n → type_row ts n ≡ slice_get ts (n - 4)
  row_listed n lo = cond-false _ _ _ (le-ltb n 4 lo)

  listed_row : (n : ℕ) (r : TypeRow) → type_row ts n ≡ Some r → 4 ≤ n
  listed_row zero r e = cc
  listed_row (suc zero) r e = cc
  listed_row (suc (suc zero)) r e = cc
  listed_row (suc (suc (suc zero))) r e = cc
  listed_row (suc (suc (suc (suc n)))) r e = omega arith

  -- the row of the number n, and no row: then a ground type, or none, which stands for unit
  pub row_is : (n : ℕ) (r : TypeRow) → type_row ts n ≡ Some r → (f : Form) → f ≡ form_of r → Shows x n f
  row_is n r e f q =
      let lo = listed_row n r e in
      let there : slice_get ts (n - 4) ≡ Some r = sym (row_listed n lo) ∙ e in
      row_shows n lo (slice_get_within ts (n - 4) r there) f (q ∙ ap form_of (sym (get_or_from_slice_get ts (n - 4) r zero_row there)))

  pub no_row_is : (n : ℕ) → type_row ts n ≡ None → (h : Ground) → h ≡ result_unwrap_or (grounds.by_number n) g.Unit → ground h ≡ type (s.declared x) n
  no_row_is zero e h q = ap ground q ∙ sym (number_type (s.declared x) g.Bool)
  no_row_is (suc zero) e h q = ap ground q ∙ sym (number_type (s.declared x) g.Nat)
  no_row_is (suc (suc zero)) e h q = ap ground q ∙ sym (number_type (s.declared x) g.Unit)
  no_row_is (suc (suc (suc zero))) e h q = ap ground q ∙ sym (number_type (s.declared x) g.Empty)
  no_row_is (suc (suc (suc (suc n)))) e h q =
      let m : ℕ = suc (suc (suc (suc n))) in
      let none : NoSuchNumber = record { number = m } in
      let end = past_rows ts (m - 4) (sym (row_listed m (omega arith)) ∙ e) in
      ap ground (q ∙ ap (λ o. result_unwrap_or (ok_or o none) g.Unit) (not_ground m (omega arith)))
      ∙ sym (past (s.declared x) m (omega (arith, end, length-map ts listed_type)))

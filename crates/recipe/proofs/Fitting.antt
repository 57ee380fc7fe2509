-- How large the columns of an admitted recipe's parts are.
use Rattle.std.proofs.Common.{◌≡◌, ℕ, suc, ◌+◌, ◌-◌, ◌*◌, ◌^◌, ◌<◌, ◌≤◌, [], ◌++◌, length, get_or, sym, refl, ap, ◌∙◌, subst, ⊎_elim, map, arith, length-append}
use lib.ListN.{length-map}
use Rattle.std.specs.List.{AllByRecursion}
use Rattle.std.proofs.lemmas.List.{get_or-map, get_or_past, length-take}
use Rattle.std.proofs.lemmas.Bool.{cases_lt}
use Rattle.std.proofs.ByRecursion.{All-append, All-get_or}
use Rattle.eff.specs.Sorts.{Sort}
use Rattle.eff.specs.Kinds.{number}
use Rattle.eff.specs.Tables.{ListedType, no_row, argument}
use Rattle.eff.specs.Dirt.{sets}
use Rattle.eff.specs.Checked.{Checked, InOrder, a_function, an_instance, a_handler}
use Rattle.eff.specs.Scope.{Scoped}
use Rattle.eff.specs.Syntax.{Term, var, truth, num, succ, unit, inst, fn, handler, case, nil, if, match, absurd as absurd_of, apply, val, call, bind, rec, handle, flatten, part}
use Rattle.eff.specs.Labels.{erase}
use Rattle.eff.specs.declared.part.Part.{Part}
use Rattle.eff.specs.declared.kind.Kind.{Kind}
use Rattle.eff.specs.declared.kind.Kind.TheVariants as k
use Rattle.sheet.specs.declared.rows.PartRow.{PartRow}
use Rattle.sheet.specs.Rows.{Listing, type_of}
use Rattle.sheet.specs.Rows as sheet
use Rattle.sheet.specs.Faults.{instances, types}
use Rattle.sheet.specs.Answer.{listing}
use Rattle.table.specs.Meant.{listed_type, tables_of}
use Rattle.table.specs.Ranges.{Columns, PartRange}
use Rattle.claim.specs.Recipes.{kind_or, row_part, parts_of}
use Rattle.claim.proofs.Recipes.{parts_are}
use Rattle.recipe.specs.declared.recipe.Recipe.{Recipe}
use Rattle.recipe.specs.Admitted.{Admitted}
use Rattle.recipe.proofs.Admitted.{roomy, checked, few_parts, admitted, ranges_of, checks_of}

-- a variable's place is below B
module _ (B : ℕ) where
  abbrev Fit : Part → Type 0
  Fit p = number p.kind ≡ 0 → p.a < B

  -- each part is under two names more than the part above it at most
  fit : {s : Sort} (n : ℕ) (t : Term s) → Scoped n t → n + 2 * length (flatten t) ≤ B → AllByRecursion Fit (flatten t)
  fit n (var m) u h = (λ _. omega (arith, u, h), tt)
  fit n (truth b) u h = (λ z. absurd (omega (arith, z)), tt)
  fit n (num m) u h = (λ z. absurd (omega (arith, z)), tt)
  fit n (succ e) u h = (λ z. absurd (omega (arith, z)), (fit n e u (omega (arith, h))))
  fit n unit u h = (λ z. absurd (omega (arith, z)), tt)
  fit n (inst i) u h = (λ z. absurd (omega (arith, z)), tt)
  fit n (fn a c) u h = (λ z. absurd (omega (arith, z)), (fit (suc n) c u (omega (arith, h))))
  fit n (handler a c cs) u h = (λ z. absurd (omega (arith, z)), (All-append Fit (flatten c) (flatten cs) (fit (suc n) c u.0 (omega (arith, h, length-append (flatten c) (flatten cs)))) (fit n cs u.1 (omega (arith, h, length-append (flatten c) (flatten cs))))))
  fit n (case e op i c cs) u h = (λ z. absurd (omega (arith, z)), (All-append Fit (flatten i) (flatten c ++ flatten cs) (fit n i u.0 (omega (arith, h, length-append (flatten i) (flatten c ++ flatten cs), length-append (flatten c) (flatten cs)))) (All-append Fit (flatten c) (flatten cs) (fit (suc (suc n)) c u.1 (omega (arith, h, length-append (flatten i) (flatten c ++ flatten cs), length-append (flatten c) (flatten cs)))) (fit n cs u.2 (omega (arith, h, length-append (flatten i) (flatten c ++ flatten cs), length-append (flatten c) (flatten cs)))))))
  fit n nil u h = (λ z. absurd (omega (arith, z)), tt)
  fit n (if e c d) u h = (λ z. absurd (omega (arith, z)), (All-append Fit (flatten e) (flatten c ++ flatten d) (fit n e u.0 (omega (arith, h, length-append (flatten e) (flatten c ++ flatten d), length-append (flatten c) (flatten d)))) (All-append Fit (flatten c) (flatten d) (fit n c u.1 (omega (arith, h, length-append (flatten e) (flatten c ++ flatten d), length-append (flatten c) (flatten d)))) (fit n d u.2 (omega (arith, h, length-append (flatten e) (flatten c ++ flatten d), length-append (flatten c) (flatten d)))))))
  fit n (match e c d) u h = (λ z. absurd (omega (arith, z)), (All-append Fit (flatten e) (flatten c ++ flatten d) (fit n e u.0 (omega (arith, h, length-append (flatten e) (flatten c ++ flatten d), length-append (flatten c) (flatten d)))) (All-append Fit (flatten c) (flatten d) (fit n c u.1 (omega (arith, h, length-append (flatten e) (flatten c ++ flatten d), length-append (flatten c) (flatten d)))) (fit (suc n) d u.2 (omega (arith, h, length-append (flatten e) (flatten c ++ flatten d), length-append (flatten c) (flatten d)))))))
  fit n (absurd_of e) u h = (λ z. absurd (omega (arith, z)), (fit n e u (omega (arith, h))))
  fit n (apply e f) u h = (λ z. absurd (omega (arith, z)), (All-append Fit (flatten e) (flatten f) (fit n e u.0 (omega (arith, h, length-append (flatten e) (flatten f)))) (fit n f u.1 (omega (arith, h, length-append (flatten e) (flatten f))))))
  fit n (val e) u h = (λ z. absurd (omega (arith, z)), (fit n e u (omega (arith, h))))
  fit n (call e op i w c) u h = (λ z. absurd (omega (arith, z)), (All-append Fit (flatten i) (flatten w ++ flatten c) (fit n i u.0 (omega (arith, h, length-append (flatten i) (flatten w ++ flatten c), length-append (flatten w) (flatten c)))) (All-append Fit (flatten w) (flatten c) (fit n w u.1 (omega (arith, h, length-append (flatten i) (flatten w ++ flatten c), length-append (flatten w) (flatten c)))) (fit (suc n) c u.2 (omega (arith, h, length-append (flatten i) (flatten w ++ flatten c), length-append (flatten w) (flatten c)))))))
  fit n (bind c d) u h = (λ z. absurd (omega (arith, z)), (All-append Fit (flatten c) (flatten d) (fit n c u.0 (omega (arith, h, length-append (flatten c) (flatten d)))) (fit (suc n) d u.1 (omega (arith, h, length-append (flatten c) (flatten d))))))
  fit n (rec a c d) u h = (λ z. absurd (omega (arith, z)), (All-append Fit (flatten c) (flatten d) (fit (suc (suc n)) c u.0 (omega (arith, h, length-append (flatten c) (flatten d)))) (fit (suc n) d u.1 (omega (arith, h, length-append (flatten c) (flatten d))))))
  fit n (handle e c) u h = (λ z. absurd (omega (arith, z)), (All-append Fit (flatten e) (flatten c) (fit n e u.0 (omega (arith, h, length-append (flatten e) (flatten c)))) (fit n c u.1 (omega (arith, h, length-append (flatten e) (flatten c))))))

-- the columns of a part in range, a variable's place being small
module _ (l : Listing) (K : Checked (tables_of l) (sets (tables_of l))) (few : length l.instances ≤ 16) (short : length l.types ≤ 252) where
  fits_a : (kind : Kind) (a b : ℕ) → Columns l kind a b → (number kind ≡ 0 → a < 2 ^ 32) → a < 2 ^ 32
  fits_a k.Variable a b h v = v refl
  fits_a k.Truth a b h v = omega (arith, h.0)
  fits_a k.Numeral a b h v = h.0
  fits_a k.Successor a b h v = omega (arith, h.0)
  fits_a k.Unit a b h v = omega (arith, h.0)
  fits_a k.Instance a b h v = omega (arith, h.0, few)
  fits_a k.Function a b h v = omega (arith, h.0, length-map l.types listed_type, short)
  fits_a k.Handler a b h v = omega (arith, h.0, length-map l.types listed_type, short)
  fits_a k.Case a b h v = omega (arith, K.effects a b h.1)
  fits_a k.Nil a b h v = omega (arith, h.0)
  fits_a k.If a b h v = omega (arith, h.0)
  fits_a k.Match a b h v = omega (arith, h.0)
  fits_a k.Absurd a b h v = omega (arith, h.0)
  fits_a k.Apply a b h v = omega (arith, h.0)
  fits_a k.Val a b h v = omega (arith, h.0)
  fits_a k.Call a b h v = omega (arith, K.effects a b h.1)
  fits_a k.Let a b h v = omega (arith, h.0)
  fits_a k.LetRec a b h v = omega (arith, h.0.1, length-map l.types listed_type, short)
  fits_a k.With a b h v = omega (arith, h.0)

  fits_b : (kind : Kind) (a b : ℕ) → Columns l kind a b → b < 256
  fits_b k.Variable a b h = omega (arith, h.1)
  fits_b k.Truth a b h = omega (arith, h.1)
  fits_b k.Numeral a b h = omega (arith, h.1)
  fits_b k.Successor a b h = omega (arith, h.1)
  fits_b k.Unit a b h = omega (arith, h.1)
  fits_b k.Instance a b h = omega (arith, h.1)
  fits_b k.Function a b h = omega (arith, h.1)
  fits_b k.Handler a b h = omega (arith, h.1)
  fits_b k.Case a b h = omega (arith, K.operations a b h.1)
  fits_b k.Nil a b h = omega (arith, h.1)
  fits_b k.If a b h = omega (arith, h.1)
  fits_b k.Match a b h = omega (arith, h.1)
  fits_b k.Absurd a b h = omega (arith, h.1)
  fits_b k.Apply a b h = omega (arith, h.1)
  fits_b k.Val a b h = omega (arith, h.1)
  fits_b k.Call a b h = omega (arith, K.operations a b h.1)
  fits_b k.Let a b h = omega (arith, h.1)
  fits_b k.LetRec a b h = omega (arith, h.1)
  fits_b k.With a b h = omega (arith, h.1)

-- the columns of an admitted part
module _ (l : Listing) (w : Admitted l) (i : ℕ) (lt : i < length l.parts) where
  abbrev row : PartRow
  row = get_or l.parts i (sheet.part_of [])

  range : PartRange l row
  range = w.ranges.parts i lt

  place : number range.kind ≡ 0 → row.a < 2 ^ 32
  place z =
      let same = parts_are l w.labels w.rows in
      let long : length (parts_of l) ≡ length l.parts = length-map l.parts row_part in
      let bound : 0 + 2 * length (flatten (erase w.labels)) ≤ 2 ^ 32 = omega (arith, ap length same, long, few_parts l w) in
      let all : AllByRecursion (Fit (2 ^ 32)) (parts_of l) = subst (AllByRecursion (Fit (2 ^ 32))) (sym same) (fit (2 ^ 32) 0 (erase w.labels) w.closed bound) in
      let at : Fit (2 ^ 32) (row_part row) = subst (Fit (2 ^ 32)) (get_or-map row_part l.parts i (sheet.part_of []) (part k.Nil 0 0) lt) (All-get_or (Fit (2 ^ 32)) (parts_of l) i (part k.Nil 0 0) (omega (arith, lt, long)) all) in
      at (ap (λ o. number (kind_or o)) range.numbered ∙ z)

  pub small_a : row.a < 2 ^ 32
  small_a = fits_a l (checked l w) (roomy l w.sizes instances) (roomy l w.sizes types) range.kind row.a row.b range.columns place

  pub small_b : row.b < 256
  small_b = fits_b l (checked l w) (roomy l w.sizes instances) (roomy l w.sizes types) range.kind row.a row.b range.columns

-- the columns of a recipe's parts and types
module _ (r : Recipe) where
  abbrev l : Listing
  l = listing r.tables

  pub part_a : (i : ℕ) → i < length l.parts → (get_or l.parts i (sheet.part_of [])).a < 2 ^ 32
  part_a i lt = small_a l (admitted r (λ e. omega (arith, lt, e))) i lt

  pub part_b : (i : ℕ) → i < length l.parts → (get_or l.parts i (sheet.part_of [])).b < 2 ^ 8
  part_b i lt = small_b l (admitted r (λ e. omega (arith, lt, e))) i lt

  type_a : (i : ℕ) → i < length l.types → (get_or l.types i (type_of [])).a < 2 ^ 8
  type_a i lt = by ((ranges_of r).types i lt).order
    where
      short : length l.types ≤ 252
      short = omega (arith, length-take r.tables.types.count r.tables.types.rows, r.tables.types.within)

      by : InOrder (tables_of l) (sets (tables_of l)) (4 + i) (listed_type (get_or l.types i (type_of []))) → (get_or l.types i (type_of [])).a < 2 ^ 8
      by (a_function q h j m) = omega (arith, h, lt, short)
      by (an_instance q h j) = omega (arith, (checks_of r).effects _ _ h.1)
      by (a_handler q h j m n) = omega (arith, h, lt, short)

  -- the argument type of a function type; 0 where there is no row
  pub argument_fits : (n : ℕ) → argument (tables_of l) n < 2 ^ 8
  argument_fits n =
      ⊎_elim
      (λ lt. subst (λ (t : ListedType). t.a < 2 ^ 8) (sym (get_or-map listed_type l.types (n - 4) (type_of []) no_row lt)) (type_a (n - 4) lt))
      (λ ge. subst (λ (t : ListedType). t.a < 2 ^ 8) (sym (get_or_past (map listed_type l.types) (n - 4) no_row (omega (arith, ge, length-map l.types listed_type)))) (omega arith))
      (cases_lt (n - 4) (length l.types))

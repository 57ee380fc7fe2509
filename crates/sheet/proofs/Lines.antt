-- The line feeds of rows and tables.
use Rattle.std.proofs.Common.{◌≡◌, ℕ, zero, suc, ◌+◌, ◌%◌, ◌^◌, ◌<◌, ◌≤◌, Bool, true, false, cond, eqb, List, [], ◌∷◌, ◌++◌, map, length, take, decimal, refl, ap, ◌∙◌, arith}
use Rattle.std.proofs.lemmas.Fmt.{decimal_by_steps}
use Rattle.std.proofs.lemmas.Bool.{cond-false, ne_eqb}
use Rattle.std.proofs.lemmas.List.{length-map}
use Rattle.sheet.specs.Text.{Row, Table, Form, row_text, rows_text, table_text, Small, Wide, Writes, feeds}
use Rattle.sheet.specs.Text as form
use Rattle.sheet.specs.Rows.{operation_values, instance_values, type_values, part_values}
use Rattle.sheet.specs.Faults.{operations, instances, types, parts}
use Rattle.sheet.specs.Lines.{opening, LinesAreCounted}

one_more : (b : Bool) (m n : ℕ) → cond b (m + n + 1) (m + n) ≡ cond b (m + 1) m + n
one_more true m n = omega arith
one_more false m n = refl

feeds_append : (a b : List ℕ) → feeds (a ++ b) ≡ feeds a + feeds b
feeds_append [] b = omega arith
feeds_append (x ∷ a) b = ap (λ k. cond (eqb x 10) (k + 1) k) (feeds_append a b) ∙ one_more (eqb x 10) (feeds a) (feeds b)

-- a digit is no line feed
feeds_digit : (d : ℕ) → d < 10 → feeds ((48 + d) ∷ []) ≡ 0
feeds_digit d h = cond-false _ _ _ (ne_eqb (48 + d) 10 (λ e. omega arith))

feeds_decimal : (n : ℕ) → n < 2 ^ 64 → feeds (decimal n) ≡ 0
feeds_decimal n h =
    decimal_by_steps (λ m ds. m < 2 ^ 64 → feeds ds ≡ 0) (λ m lt _. feeds_digit m lt)
    (λ m ds ge q small.
    let last = feeds_digit (m % 10) (omega arith) in
    let rest = q (omega arith) in
    feeds_append ds ((48 + m % 10) ∷ []) ∙ omega (arith, last, rest))
    n h h

feeds_row : (r : Row) → Small r → feeds (row_text r) ≡ 1
feeds_row [] h = refl
feeds_row (n ∷ []) h = feeds_append (decimal n) (10 ∷ []) ∙ ap (λ k. k + 1) (feeds_decimal n h.0)
feeds_row (n ∷ m ∷ r) h =
    let first = feeds_decimal n h.0 in
    let rest = feeds_row (m ∷ r) h.1 in
    feeds_append (decimal n) (32 ∷ row_text (m ∷ r)) ∙ omega (arith, first, rest)

feeds_some : (n : ℕ) (t : Table) → Wide n t → (r : ℕ) → r ≤ length t → feeds (rows_text (take r t)) ≡ r
feeds_some n [] w zero h = refl
feeds_some n [] w (suc r) h = absurd (omega arith)
feeds_some n (x ∷ t) w zero h = refl
feeds_some n (x ∷ t) w (suc r) h =
    let one = feeds_row x w.1 in
    let rest = feeds_some n t w.2 r (omega arith) in
    feeds_append (row_text x) (rows_text (take r t)) ∙ omega (arith, one, rest)

feeds_rows : (n : ℕ) (t : Table) → Wide n t → feeds (rows_text t) ≡ length t
feeds_rows n [] w = refl
feeds_rows n (x ∷ t) w =
    let one = feeds_row x w.1 in
    let rest = feeds_rows n t w.2 in
    feeds_append (row_text x) (rows_text t) ∙ omega (arith, one, rest)

-- a table takes a line of names, its rows and an empty line
feeds_table : (f : Form) → feeds f.names ≡ 1 → (n : ℕ) (t : Table) → Wide n t → feeds (table_text f t) ≡ length t + 2
feeds_table f e n t w =
    let rows = feeds_rows n t w in
    let first = feeds_append f.names (rows_text t) in
    let one : feeds (10 ∷ []) ≡ 1 = refl in
    feeds_append (f.names ++ rows_text t) (10 ∷ []) ∙ omega (arith, e, rows, first, one)

feeds_opening : (f : Form) → feeds f.names ≡ 1 → (n : ℕ) (t : Table) → Wide n t → (r : ℕ) → r ≤ length t → feeds (opening f t r) ≡ 1 + r
feeds_opening f e n t w r h = let rows = feeds_some n t w r h in feeds_append f.names (rows_text (take r t)) ∙ omega (arith, e, rows)

pub counted : LinesAreCounted
counted bs l h operations r k =
    let len = length-map l.operations operation_values in
    let here = feeds_opening form.operations refl 4 (map operation_values l.operations) h.fits.0 r (omega (arith, len)) in
    omega (arith, here)
counted bs l h instances r k =
    let os = feeds_table form.operations refl 4 (map operation_values l.operations) h.fits.0 in
    let olen = length-map l.operations operation_values in
    let len = length-map l.instances instance_values in
    let here = feeds_opening form.instances refl 2 (map instance_values l.instances) h.fits.1.0 r (omega (arith, len)) in
    let a = feeds_append (table_text form.operations (map operation_values l.operations)) (opening form.instances (map instance_values l.instances) r) in
    omega (arith, os, olen, here, a)
counted bs l h types r k =
    let os = feeds_table form.operations refl 4 (map operation_values l.operations) h.fits.0 in
    let is = feeds_table form.instances refl 2 (map instance_values l.instances) h.fits.1.0 in
    let olen = length-map l.operations operation_values in
    let ilen = length-map l.instances instance_values in
    let len = length-map l.types type_values in
    let here = feeds_opening form.types refl 6 (map type_values l.types) h.fits.1.1.0 r (omega (arith, len)) in
    let after = table_text form.instances (map instance_values l.instances) ++ opening form.types (map type_values l.types) r in
    let a = feeds_append (table_text form.operations (map operation_values l.operations)) after in
    let b = feeds_append (table_text form.instances (map instance_values l.instances)) (opening form.types (map type_values l.types) r) in
    omega (arith, os, is, olen, ilen, here, a, b)
counted bs l h parts r k =
    let os = feeds_table form.operations refl 4 (map operation_values l.operations) h.fits.0 in
    let is = feeds_table form.instances refl 2 (map instance_values l.instances) h.fits.1.0 in
    let ts = feeds_table form.types refl 6 (map type_values l.types) h.fits.1.1.0 in
    let olen = length-map l.operations operation_values in
    let ilen = length-map l.instances instance_values in
    let tlen = length-map l.types type_values in
    let len = length-map l.parts part_values in
    let here = feeds_opening form.parts refl 6 (map part_values l.parts) h.fits.1.1.1.0 r (omega (arith, len)) in
    let last = table_text form.types (map type_values l.types) ++ opening form.parts (map part_values l.parts) r in
    let a = feeds_append (table_text form.operations (map operation_values l.operations)) (table_text form.instances (map instance_values l.instances) ++ last) in
    let b = feeds_append (table_text form.instances (map instance_values l.instances)) last in
    let d = feeds_append (table_text form.types (map type_values l.types)) (opening form.parts (map part_values l.parts) r) in
    omega (arith, os, is, ts, olen, ilen, tlen, here, a, b, d)

-- The scan reads just the texts in form, and stops at the first wrong byte: over any forms with names and columns.
use Rattle.std.proofs.Common.{◌≡◌, ℕ, zero, suc, ◌+◌, ◌-◌, ◌*◌, ◌/◌, ◌%◌, ◌^◌, ◌<◌, ◌≤◌, Bool, true, false, cond, eqb, ltb, ◌⊎◌, List, [], ◌∷◌, ◌++◌, length, get_or, take, drop, Some, None, Ok, Err, decimal, Option, Result, sym, refl, ap, ◌∙◌, subst, inl, inr, ⊎_elim, append_assoc, append-nil, arith}
use Rattle.std.proofs.lemmas.Fmt.{decimal_digit, decimal_step, decimal_by_steps}
use Rattle.std.proofs.lemmas.List.{take_more, take_all, drop_more, drop_all, length_push}
use Rattle.std.proofs.lemmas.Bool.{eqb-true, eqb-false, ltb-true, ltb-false, leb-true, eq-eqb, ne_eqb, lt-ltb, le-ltb, cond_both, cond-true, cond-false, and_parts, cases_lt}
use Rattle.std.proofs.lemmas.Option.{none-some}
use Rattle.fault.specs.declared.at.At.{At}
use Rattle.fault.specs.declared.text.TextFault.{TextFault}
use Rattle.sheet.specs.Text.{Row, Table, Sheet, Form, row_text, rows_text, table_text, sheet_text, Small, Wide, Fitting, Writes, feeds, FirstWrong, line_after}
use Rattle.sheet.specs.Scan.{is_digit, State, title, line, begin, digit, end, Place, step, scan, wrong, closing, closed, titled, first, shut, onward, start, formed}
use Rattle.sheet.proofs.Steps.{digit_is}

-- the values of a row that is not yet whole, a space after each
abbrev cells : Row → List ℕ
cells [] = []
cells (n ∷ r) = decimal n ++ 32 ∷ cells r

abbrev pub Good : List Form → Type 0
Good [] = Unit {0}
Good (f ∷ fs) = (0 < length f.names) × (0 < f.cols) × Good fs

-- The following is over these forms.
module _ (forms : List Form) (all_good : Good forms) where
  record OkPlace (p : Place) : Type 0 where
    split : p.past ++ p.here ∷ p.next ≡ forms
    fits : Fitting p.past p.read
    names : 0 < length p.here.names
    cols : 0 < p.here.cols
    rest : Good p.next

  abbrev before : Place → List ℕ
  before p = sheet_text p.past p.read

  abbrev Valid : State → Type 0
  Valid (title p k) = OkPlace p × (k < length p.here.names)
  Valid (line p t) = OkPlace p × Wide p.here.cols t
  Valid (begin p t r) = OkPlace p × Wide p.here.cols t × Small r × (length r < p.here.cols)
  Valid (digit p t r n) = OkPlace p × Wide p.here.cols t × Small r × (length r < p.here.cols) × (n < 2 ^ 64)
  Valid (end s) = Fitting forms s

  abbrev written : State → List ℕ
  written (title p k) = before p ++ take k p.here.names
  written (line p t) = before p ++ (p.here.names ++ rows_text t)
  written (begin p t r) = before p ++ (p.here.names ++ (rows_text t ++ cells r))
  written (digit p t r n) = before p ++ (p.here.names ++ (rows_text t ++ (cells r ++ decimal n)))
  written (end s) = sheet_text forms s

  -- one more at the end
  cells_push : (r : Row) (n : ℕ) → cells (r ++ n ∷ []) ≡ cells r ++ (decimal n ++ 32 ∷ [])
  cells_push [] n = refl
  cells_push (m ∷ r) n = ap (λ l. decimal m ++ 32 ∷ l) (cells_push r n) ∙ sym (append_assoc (decimal m) (32 ∷ cells r) (decimal n ++ 32 ∷ []))

  row_push : (r : Row) (n : ℕ) → row_text (r ++ n ∷ []) ≡ cells r ++ (decimal n ++ 10 ∷ [])
  row_push [] n = refl
  row_push (m ∷ []) n = sym (append_assoc (decimal m) (32 ∷ []) (decimal n ++ 10 ∷ []))
  row_push (m ∷ k ∷ r) n = ap (λ l. decimal m ++ 32 ∷ l) (row_push (k ∷ r) n) ∙ sym (append_assoc (decimal m) (32 ∷ cells (k ∷ r)) (decimal n ++ 10 ∷ []))

  rows_push : (t : Table) (r : Row) → rows_text (t ++ r ∷ []) ≡ rows_text t ++ row_text r
  rows_push [] r = append-nil (row_text r)
  rows_push (q ∷ t) r = ap (λ l. row_text q ++ l) (rows_push t r) ∙ sym (append_assoc (row_text q) (rows_text t) (row_text r))

  small_push : (r : Row) (n : ℕ) → Small r → n < 2 ^ 64 → Small (r ++ n ∷ [])
  small_push [] n s h = (h, tt)
  small_push (m ∷ r) n s h = (s.0, small_push r n s.1 h)

  table_push : (c : ℕ) (t : Table) (r : Row) → Wide c t → length r ≡ c → Small r → Wide c (t ++ r ∷ [])
  table_push c [] r s h k = (h, k, tt)
  table_push c (q ∷ t) r s h k = (s.0, s.1, table_push c t r s.2 h k)

  sheet_push : (fs : List Form) (s : Sheet) (f : Form) (t : Table) → Fitting fs s → sheet_text (fs ++ f ∷ []) (s ++ t ∷ []) ≡ sheet_text fs s ++ table_text f t
  sheet_push [] [] f t h = append-nil (table_text f t)
  sheet_push [] (u ∷ s) f t h = absurd h
  sheet_push (g ∷ fs) [] f t h = absurd h
  sheet_push (g ∷ fs) (u ∷ s) f t h = ap (λ l. table_text g u ++ l) (sheet_push fs s f t h.1) ∙ sym (append_assoc (table_text g u) (sheet_text fs s) (table_text f t))

  fitting_push : (fs : List Form) (s : Sheet) (f : Form) (t : Table) → Fitting fs s → Wide f.cols t → Fitting (fs ++ f ∷ []) (s ++ t ∷ [])
  fitting_push [] [] f t h k = (k, tt)
  fitting_push [] (u ∷ s) f t h k = absurd h
  fitting_push (g ∷ fs) [] f t h k = absurd h
  fitting_push (g ∷ fs) (u ∷ s) f t h k = (h.0, fitting_push fs s f t h.1 k)

  -- one digit more
  grown : (n b : ℕ) → 48 ≤ b → b ≤ 57 → 0 < n → n * 10 + (b - 48) < 2 ^ 64 → decimal (n * 10 + (b - 48)) ≡ decimal n ++ b ∷ []
  grown n b lo hi nz small =
      let q : (n * 10 + (b - 48)) / 10 ≡ n = omega arith in
      let r : 48 + (n * 10 + (b - 48)) % 10 ≡ b = omega arith in
      decimal_step (n * 10 + (b - 48)) (omega arith) small ∙ ap (λ m. decimal m ++ (48 + (n * 10 + (b - 48)) % 10) ∷ []) q ∙ ap (λ x. decimal n ++ x ∷ []) r

  -- after a byte: the state is valid, and its text has that byte more
  abbrev Next : List ℕ → ℕ → State → Type 0
  Next w b n = Valid n × (written n ≡ w ++ b ∷ [])

  abbrev Next? : List ℕ → ℕ → Option State → Type 0
  Next? w b None = Unit {0}
  Next? w b (Some n) = Next w b n

  module _ (p : Place) (ok : OkPlace p) (t : Table) (rows : Wide p.here.cols t) where
    begun : (w : List ℕ) (r : Row) (b : ℕ) → w ≡ before p ++ (p.here.names ++ (rows_text t ++ cells r)) → Small r → length r < p.here.cols → Next? w b (first p t r b)
    begun w r b q s h =
        cond_both (is_digit b) (Some (digit p t r (b - 48))) None (Next? w b)
        (λ e.
        let lo : 48 ≤ b = leb-true 48 b (and_parts _ _ e).0 in
        let hi : b ≤ 57 = leb-true b 57 (and_parts _ _ e).1 in
        let one : decimal (b - 48) ≡ b ∷ [] = decimal_digit (b - 48) (omega arith) ∙ ap (λ n. n ∷ []) (let z : 48 + (b - 48) ≡ b = omega arith in z) in (
          (ok, rows, s, h, omega arith),
          ap (λ l. before p ++ (p.here.names ++ (rows_text t ++ (cells r ++ l)))) one ∙ (let z : before p ++ (p.here.names ++ (rows_text t ++ (cells r ++ b ∷ []))) ≡ (before p ++ (p.here.names ++ (rows_text t ++ cells r))) ++ b ∷ [] = simp append_assoc in z) ∙ ap (λ l. l ++ b ∷ []) (sym q),
        ))
        (λ _. tt)

    shuts : (fs : List Form) → p.next ≡ fs → Next (before p ++ (p.here.names ++ rows_text t)) 10 (onward (p.past ++ p.here ∷ []) (p.read ++ t ∷ []) fs)
    shuts [] e =
        let all : p.past ++ p.here ∷ [] ≡ forms = ap (λ l. p.past ++ p.here ∷ l) (sym e) ∙ ok.split in (
          subst (λ fs. Fitting fs (p.read ++ t ∷ [])) all (fitting_push p.past p.read p.here t ok.fits rows),
          ap (λ fs. sheet_text fs (p.read ++ t ∷ [])) (sym all) ∙ sheet_push p.past p.read p.here t ok.fits ∙ simp append_assoc,
        )
    shuts (f ∷ fs) e =
        let good : Good (f ∷ fs) = subst Good e ok.rest in (
          (
            record {
              split = append_assoc p.past (p.here ∷ []) (f ∷ fs) ∙ ap (λ l. p.past ++ p.here ∷ l) (sym e) ∙ ok.split;
              fits = fitting_push p.past p.read p.here t ok.fits rows;
              names = good.0;
              cols = good.1;
              rest = good.2;
            },
            good.0,
          ),
          append-nil _ ∙ sheet_push p.past p.read p.here t ok.fits ∙ simp append_assoc,
        )

    fills : (r : Row) (n : ℕ) → Small r → length r < p.here.cols → n < 2 ^ 64 → Next (before p ++ (p.here.names ++ (rows_text t ++ (cells r ++ decimal n)))) (closing p r) (closed p t r n)
    fills r n s h k =
        let more : length (r ++ n ∷ []) ≡ length r + 1 = length_push r n in
        ⊎_elim
        (λ lt.
        let c : closing p r ≡ 32 = cond-true _ _ _ (lt-ltb (length r + 1) p.here.cols lt) in
        let d : closed p t r n ≡ begin p t (r ++ n ∷ []) = cond-true _ _ _ (lt-ltb (length (r ++ n ∷ [])) p.here.cols (omega arith)) in
        subst (λ st. Next (before p ++ (p.here.names ++ (rows_text t ++ (cells r ++ decimal n)))) (closing p r) st) (sym d)
        (subst (λ b. Next (before p ++ (p.here.names ++ (rows_text t ++ (cells r ++ decimal n)))) b (begin p t (r ++ n ∷ []))) (sym c)
        ((ok, rows, small_push r n s k, omega arith), ap (λ l. before p ++ (p.here.names ++ (rows_text t ++ l))) (cells_push r n) ∙ simp append_assoc)))
        (λ ge.
        let c : closing p r ≡ 10 = cond-false _ _ _ (le-ltb (length r + 1) p.here.cols ge) in
        let d : closed p t r n ≡ line p (t ++ (r ++ n ∷ []) ∷ []) = cond-false _ _ _ (le-ltb (length (r ++ n ∷ [])) p.here.cols (omega arith)) in
        subst (λ st. Next (before p ++ (p.here.names ++ (rows_text t ++ (cells r ++ decimal n)))) (closing p r) st) (sym d)
        (subst (λ b. Next (before p ++ (p.here.names ++ (rows_text t ++ (cells r ++ decimal n)))) b (line p (t ++ (r ++ n ∷ []) ∷ []))) (sym c) (
          (ok, table_push p.here.cols t (r ++ n ∷ []) rows (omega arith) (small_push r n s k)),
          ap (λ l. before p ++ (p.here.names ++ l)) (rows_push t (r ++ n ∷ []) ∙ ap (λ l. rows_text t ++ l) (row_push r n)) ∙ simp append_assoc,
        )))
        (cases_lt (length r + 1) p.here.cols)

  names_next : (p : Place) (ok : OkPlace p) (k b : ℕ) → k < length p.here.names → b ≡ get_or p.here.names k 0 → Next (before p ++ take k p.here.names) b (titled p (k + 1))
  names_next p ok k b h e =
      let more : take (k + 1) p.here.names ≡ take k p.here.names ++ b ∷ [] = take_more p.here.names k 0 h ∙ ap (λ x. take k p.here.names ++ x ∷ []) (sym e) in
      cond_both (ltb (k + 1) (length p.here.names)) (title p (k + 1)) (line p []) (Next (before p ++ take k p.here.names) b)
      (λ lt. ((ok, ltb-true _ _ lt), ap (λ l. before p ++ l) more ∙ sym (append_assoc (before p) (take k p.here.names) (b ∷ []))))
      (λ ge.
      let all : take (k + 1) p.here.names ≡ p.here.names = take_all (k + 1) p.here.names (ltb-false _ _ ge) in
      ((ok, tt), ap (λ l. before p ++ l) (append-nil p.here.names ∙ sym all ∙ more) ∙ sym (append_assoc (before p) (take k p.here.names) (b ∷ []))))

  stepped : (st : State) (b : ℕ) → Valid st → Next? (written st) b (step st b)
  stepped (title p k) b v =
      cond_both (eqb b (get_or p.here.names k 0)) (Some (titled p (k + 1))) None (Next? (written (title p k)) b) (λ e. names_next p v.0 k b v.1 (eqb-true _ _ e)) (λ _. tt)
  stepped (line p t) b v =
      cond_both (eqb b 10) (Some (shut p t)) (first p t [] b) (Next? (written (line p t)) b)
      (λ e. subst (λ x. Next (written (line p t)) x (shut p t)) (sym (eqb-true b 10 e)) (shuts p v.0 t v.1 p.next refl))
      (λ _. begun p v.0 t v.1 (written (line p t)) [] b (ap (λ l. before p ++ (p.here.names ++ l)) (sym (append-nil (rows_text t)))) tt v.0.cols)
  stepped (begin p t r) b v = begun p v.0 t v.1 (written (begin p t r)) r b refl v.2 v.3
  stepped (digit p t r n) b v =
      cond_both (is_digit b)
      (cond (eqb n 0) None (cond (ltb (n * 10 + (b - 48)) (2 ^ 64)) (Some (digit p t r (n * 10 + (b - 48)))) None))
      (cond (eqb b (closing p r)) (Some (closed p t r n)) None)
      (Next? (written (digit p t r n)) b)
      (λ e.
      let lo : 48 ≤ b = leb-true 48 b (and_parts _ _ e).0 in
      let hi : b ≤ 57 = leb-true b 57 (and_parts _ _ e).1 in
      cond_both (eqb n 0) None (cond (ltb (n * 10 + (b - 48)) (2 ^ 64)) (Some (digit p t r (n * 10 + (b - 48)))) None) (Next? (written (digit p t r n)) b)
      (λ _. tt)
      (λ z.
      let nz : 0 < n = ⊎_elim (λ h. h) (λ h. absurd (eqb-false n 0 z (omega arith))) (cases_lt 0 n) in
      cond_both (ltb (n * 10 + (b - 48)) (2 ^ 64)) (Some (digit p t r (n * 10 + (b - 48)))) None (Next? (written (digit p t r n)) b)
      (λ f.
      let small : n * 10 + (b - 48) < 2 ^ 64 = ltb-true _ _ f in (
        (v.0, v.1, v.2, v.3, small),
        ap (λ l. before p ++ (p.here.names ++ (rows_text t ++ (cells r ++ l)))) (grown n b lo hi nz small) ∙ simp append_assoc,
      ))
      (λ _. tt)))
      (λ _.
      cond_both (eqb b (closing p r)) (Some (closed p t r n)) None (Next? (written (digit p t r n)) b)
      (λ e. subst (λ x. Next (written (digit p t r n)) x (closed p t r n)) (sym (eqb-true _ _ e)) (fills p v.0 t v.1 r n v.2 v.3 v.4))
      (λ _. tt))
  stepped (end s) b v = tt

  -- where the bytes lead, or None at a wrong one
  abbrev run : State → List ℕ → Option State
  run st [] = Some st
  run st (b ∷ bs) = elim (step st b) [ None ↦ None | Some n ↦ run n bs ]

  run_step : (st n : State) (b : ℕ) (bs : List ℕ) → step st b ≡ Some n → run st (b ∷ bs) ≡ run n bs
  run_step st n b bs e = ap (λ (o : Option State). elim o [ None ↦ None | Some m ↦ run m bs ]) e

  run_on : (st n : State) (xs ys : List ℕ) → run st xs ≡ Some n → run st (xs ++ ys) ≡ run n ys
  run_on st n [] ys h = ap (λ (o : Option State). elim o [ None ↦ None | Some m ↦ run m ys ]) h
  run_on st n (x ∷ xs) ys h =
      elim (step st x) as (λ (o : Option State). elim o [ None ↦ None | Some m ↦ run m xs ] ≡ Some n → elim o [ None ↦ None | Some m ↦ run m (xs ++ ys) ] ≡ run n ys) [
        | None ↦ λ e. absurd (none-some n e)
        | Some m ↦ λ e. run_on m n xs ys e
      ] h

  -- a front of bytes that lead somewhere leads somewhere
  run_front : (st n : State) (xs ys : List ℕ) → run st (xs ++ ys) ≡ Some n → (m : State) × (run st xs ≡ Some m)
  run_front st n [] ys h = (st, refl)
  run_front st n (x ∷ xs) ys h =
      elim (step st x) as (λ (o : Option State). elim o [ None ↦ None | Some m ↦ run m (xs ++ ys) ] ≡ Some n → (m : State) × (elim o [ None ↦ None | Some m ↦ run m xs ] ≡ Some m)) [
        | None ↦ λ e. absurd (none-some n e)
        | Some m ↦ λ e. run_front m n xs ys e
      ] h

  -- the text of a state is what led to it
  ran : (st n : State) (bs : List ℕ) → Valid st → run st bs ≡ Some n → Valid n × (written n ≡ written st ++ bs)
  ran st n [] v h =
      let e : st ≡ n = cc in
      (subst Valid e v, ap written (sym e) ∙ sym (append-nil (written st)))
  ran st n (b ∷ bs) v h =
      elim (step st b) as (λ (o : Option State). Next? (written st) b o → elim o [ None ↦ None | Some m ↦ run m bs ] ≡ Some n → Valid n × (written n ≡ written st ++ b ∷ bs)) [
        | None ↦ λ x e. absurd (none-some n e)
        | Some m ↦ λ x e.
            let r = ran m n bs x.0 e in
            (r.0, r.1 ∙ ap (λ l. l ++ bs) x.1 ∙ append_assoc (written st) (b ∷ []) bs)
      ] (stepped st b v) h

  -- each text is read
  module _ (p : Place) (t : Table) where
    digits_run : (r : Row) (st : State) → ((d : ℕ) → d < 10 → step st (48 + d) ≡ Some (digit p t r d)) → (n : ℕ) → n < 2 ^ 64 → run st (decimal n) ≡ Some (digit p t r n)
    digits_run r st h n k =
        decimal_by_steps (λ m ds. m < 2 ^ 64 → run st ds ≡ Some (digit p t r m))
        (λ m lt _. run_step st (digit p t r m) (48 + m) [] (h m lt))
        (λ m ds ge q small.
        let half : m / 10 < 2 ^ 64 = omega arith in
        let back : m / 10 * 10 + (48 + m % 10 - 48) ≡ m = omega arith in
        let z : m / 10 ≡ 0 → ⊥ = λ e. omega arith in
        run_on st (digit p t r (m / 10)) ds ((48 + m % 10) ∷ []) (q half)
        ∙ run_step (digit p t r (m / 10)) (digit p t r m) (48 + m % 10) []
        (cond-true _ _ _ (digit_is (48 + m % 10) (omega arith) (omega arith)) ∙ cond-false _ _ _ (ne_eqb (m / 10) 0 z) ∙ cond-true _ _ _ (lt-ltb (m / 10 * 10 + (48 + m % 10 - 48)) (2 ^ 64) (omega arith)) ∙ ap (λ x. Some (digit p t r x)) back))
        n k k

    first_step : (r : Row) (d : ℕ) → d < 10 → first p t r (48 + d) ≡ Some (digit p t r d)
    first_step r d h = cond-true _ _ _ (digit_is (48 + d) (omega arith) (omega arith)) ∙ ap (λ x. Some (digit p t r x)) (let z : 48 + d - 48 ≡ d = omega arith in z)

    line_step : (d : ℕ) → d < 10 → step (line p t) (48 + d) ≡ Some (digit p t [] d)
    line_step d h = cond-false _ _ _ (ne_eqb (48 + d) 10 (λ e. omega arith)) ∙ first_step [] d h

    close_step : (r : Row) (n b : ℕ) → is_digit b ≡ false → b ≡ closing p r → step (digit p t r n) b ≡ Some (closed p t r n)
    close_step r n b h e = cond-false _ _ _ h ∙ cond-true _ _ _ (eq-eqb _ _ e)

    -- the last value of a row, and one before it
    last_run : (r : Row) (n : ℕ) → length r + 1 ≡ p.here.cols → run (digit p t r n) (10 ∷ []) ≡ Some (line p (t ++ (r ++ n ∷ []) ∷ []))
    last_run r n h =
        let more : length (r ++ n ∷ []) ≡ length r + 1 = length_push r n in
        run_step (digit p t r n) (closed p t r n) 10 [] (close_step r n 10 refl (sym (cond-false _ _ _ (le-ltb (length r + 1) p.here.cols (omega arith)))))
        ∙ ap (λ x. Some x) (cond-false _ _ _ (le-ltb (length (r ++ n ∷ [])) p.here.cols (omega arith)))

    next_run : (r : Row) (n : ℕ) (bs : List ℕ) → length r + 1 < p.here.cols → run (digit p t r n) (32 ∷ bs) ≡ run (begin p t (r ++ n ∷ [])) bs
    next_run r n bs h =
        let more : length (r ++ n ∷ []) ≡ length r + 1 = length_push r n in
        run_step (digit p t r n) (closed p t r n) 32 bs (close_step r n 32 refl (sym (cond-true _ _ _ (lt-ltb (length r + 1) p.here.cols h))))
        ∙ ap (λ st. run st bs) (cond-true _ _ _ (lt-ltb (length (r ++ n ∷ [])) p.here.cols (omega arith)))

    -- what is left of a row
    row_run : (m : ℕ) (q r : Row) (st : State) → ((d : ℕ) → d < 10 → step st (48 + d) ≡ Some (digit p t r d)) → Small (m ∷ q) → length r + length (m ∷ q) ≡ p.here.cols → run st (row_text (m ∷ q)) ≡ Some (line p (t ++ (r ++ m ∷ q) ∷ []))
    row_run m [] r st h s e = run_on st (digit p t r m) (decimal m) (10 ∷ []) (digits_run r st h m s.0) ∙ last_run r m e
    row_run m (k ∷ q) r st h s e =
        let more : length (r ++ m ∷ []) ≡ length r + 1 = length_push r m in
        let long : length (m ∷ k ∷ q) ≡ length q + 2 = omega arith in
        run_on st (digit p t r m) (decimal m) (32 ∷ row_text (k ∷ q)) (digits_run r st h m s.0)
        ∙ next_run r m (row_text (k ∷ q)) (omega arith)
        ∙ row_run k q (r ++ m ∷ []) (begin p t (r ++ m ∷ [])) (first_step (r ++ m ∷ [])) s.1 (omega arith)
        ∙ ap (λ x. Some (line p (t ++ x ∷ []))) (append_assoc r (m ∷ []) (k ∷ q))

  rows_run : (p : Place) (t u : Table) → 0 < p.here.cols → Wide p.here.cols u → run (line p t) (rows_text u) ≡ Some (line p (t ++ u))
  rows_run p t [] c h = ap (λ x. Some (line p x)) (sym (append-nil t))
  rows_run p t ([] ∷ u) c h = absurd (omega (arith, h.0))
  rows_run p t ((m ∷ q) ∷ u) c h =
      run_on (line p t) (line p (t ++ (m ∷ q) ∷ [])) (row_text (m ∷ q)) (rows_text u) (row_run p t m q [] (line p t) (line_step p t) h.1 (omega (arith, h.0)))
      ∙ rows_run p (t ++ (m ∷ q) ∷ []) u c h.2
      ∙ ap (λ x. Some (line p x)) (append_assoc t ((m ∷ q) ∷ []) u)

  -- what is left of the names
  names_run : (p : Place) (n k : ℕ) → n + k ≡ length p.here.names → run (titled p k) (drop k p.here.names) ≡ Some (line p [])
  names_run p zero k e =
      ap (run (titled p k)) (drop_all k p.here.names (omega arith)) ∙ ap (λ x. Some x) (cond-false _ _ _ (le-ltb k (length p.here.names) (omega arith)))
  names_run p (suc n) k e =
      ap (run (titled p k)) (drop_more p.here.names k 0 (omega arith))
      ∙ ap (λ st. run st (get_or p.here.names k 0 ∷ drop (k + 1) p.here.names)) (cond-true _ _ _ (lt-ltb k (length p.here.names) (omega arith)))
      ∙ run_step (title p k) (titled p (k + 1)) (get_or p.here.names k 0) (drop (k + 1) p.here.names) (cond-true _ _ _ (eq-eqb (get_or p.here.names k 0) (get_or p.here.names k 0) refl))
      ∙ names_run p n (k + 1) (omega arith)

  title_run : (p : Place) (k : ℕ) → k < length p.here.names → run (title p k) (drop k p.here.names) ≡ Some (line p [])
  title_run p k h =
      ap (λ st. run st (drop k p.here.names)) (sym (cond-true _ _ _ (lt-ltb k (length p.here.names) h)))
      ∙ names_run p (length p.here.names - k) k (omega arith)

  table_run : (p : Place) (t : Table) → 0 < length p.here.names → 0 < p.here.cols → Wide p.here.cols t → run (title p 0) (table_text p.here t) ≡ Some (shut p t)
  table_run p t n c h =
      ap (run (title p 0)) (append_assoc p.here.names (rows_text t) (10 ∷ []))
      ∙ run_on (title p 0) (line p []) p.here.names (rows_text t ++ 10 ∷ []) (title_run p 0 n)
      ∙ run_on (line p []) (line p t) (rows_text t) (10 ∷ []) (rows_run p [] t c h)

  sheet_run : (fs : List Form) (past : List Form) (read s : Sheet) → Good fs → Fitting fs s → run (onward past read fs) (sheet_text fs s) ≡ Some (end (read ++ s))
  sheet_run [] past read [] g h = ap (λ x. Some (end x)) (sym (append-nil read))
  sheet_run [] past read (t ∷ s) g h = absurd h
  sheet_run (f ∷ fs) past read [] g h = absurd h
  sheet_run (f ∷ fs) past read (t ∷ s) g h =
      run_on (onward past read (f ∷ fs)) (onward (past ++ f ∷ []) (read ++ t ∷ []) fs) (table_text f t) (sheet_text fs s) (table_run (record { past = past; read = read; here = f; next = fs }) t g.0 g.1 h.0)
      ∙ sheet_run fs (past ++ f ∷ []) (read ++ t ∷ []) s g.2 h.1
      ∙ ap (λ x. Some (end x)) (append_assoc read (t ∷ []) s)

  -- from each valid state the bytes can go on to a sheet
  abbrev blank : List Form → Sheet
  blank [] = []
  blank (f ∷ fs) = [] ∷ blank fs

  blank_fits : (fs : List Form) → Fitting fs (blank fs)
  blank_fits [] = tt
  blank_fits (f ∷ fs) = (tt, blank_fits fs)

  abbrev Ends : State → Type 0
  Ends st = (more : List ℕ) × (s : Sheet) × (run st more ≡ Some (end s))

  ends_after : (st n : State) (bs : List ℕ) → run st bs ≡ Some n → Ends n → Ends st
  ends_after st n bs h e = (bs ++ e.0, e.1, run_on st n bs e.0 h ∙ e.2)

  line_ends : (p : Place) (t : Table) → OkPlace p → Ends (line p t)
  line_ends p t ok =
      (10 ∷ sheet_text p.next (blank p.next), (p.read ++ t ∷ []) ++ blank p.next, sheet_run p.next (p.past ++ p.here ∷ []) (p.read ++ t ∷ []) (blank p.next) ok.rest (blank_fits p.next))

  digit_lines : (p : Place) (t : Table) (k : ℕ) (r : Row) (n : ℕ) → length r + suc k ≡ p.here.cols → (more : List ℕ) × (u : Row) × (run (digit p t r n) more ≡ Some (line p (t ++ u ∷ [])))
  digit_lines p t zero r n e = (10 ∷ [], r ++ n ∷ [], last_run p t r n (omega arith))
  digit_lines p t (suc k) r n e =
      let more : length (r ++ n ∷ []) ≡ length r + 1 = length_push r n in
      let x = digit_lines p t k (r ++ n ∷ []) 0 (omega arith) in
      (32 ∷ 48 ∷ x.0, x.1, next_run p t r n (48 ∷ x.0) (omega arith) ∙ x.2)

  alive : (st : State) → Valid st → Ends st
  alive (title p k) v = ends_after (title p k) (line p []) (drop k p.here.names) (title_run p k v.1) (line_ends p [] v.0)
  alive (line p t) v = line_ends p t v.0
  alive (begin p t r) v =
      let x = digit_lines p t (p.here.cols - length r - 1) r 0 (omega (arith, v.3)) in
      ends_after (begin p t r) (line p (t ++ x.1 ∷ [])) (48 ∷ x.0) x.2 (line_ends p (t ++ x.1 ∷ []) v.0)
  alive (digit p t r n) v =
      let x = digit_lines p t (p.here.cols - length r - 1) r n (omega (arith, v.3)) in
      ends_after (digit p t r n) (line p (t ++ x.1 ∷ [])) x.0 x.2 (line_ends p (t ++ x.1 ∷ []) v.0)
  alive (end s) v = ([], s, refl)

  starts : (fs : List Form) → fs ≡ forms → Valid (onward [] [] fs)
  starts [] e = subst (λ (gs : List Form). Fitting gs []) e tt
  starts (f ∷ fs) e =
      let good : Good (f ∷ fs) = subst Good (sym e) all_good in
      (record { split = e; fits = tt; names = good.0; cols = good.1; rest = good.2 }, good.0)

  no_text : (fs : List Form) → sheet_text fs [] ≡ []
  no_text [] = refl
  no_text (f ∷ fs) = refl

  unwritten : (fs : List Form) → written (onward [] [] fs) ≡ []
  unwritten [] = no_text forms
  unwritten (f ∷ fs) = refl

  start_valid : Valid (start forms)
  start_valid = starts forms refl

  sound_run : (bs : List ℕ) (s : Sheet) → run (start forms) bs ≡ Some (end s) → Writes forms bs s
  sound_run bs s h = let r = ran (start forms) (end s) bs start_valid h in record { fits = r.0; text = sym (r.1 ∙ ap (λ l. l ++ bs) (unwritten forms)) }

  complete_run : (bs : List ℕ) (s : Sheet) → Writes forms bs s → run (start forms) bs ≡ Some (end s)
  complete_run bs s w = ap (run (start forms)) w.text ∙ sheet_run forms [] [] s all_good w.fits

  -- the scan is the run, with lines
  scan_run : (st : State) (l : ℕ) (bs : List ℕ) (s : Sheet) → run st bs ≡ Some (end s) → scan st l bs ≡ Ok s
  unfolding scan
  scan_run st l [] s h = let e : st ≡ end s = cc in ap (λ x. scan x l []) e
  scan_run st l (b ∷ bs) s h =
      elim (step st b) as (λ (o : Option State). elim o [ None ↦ None | Some n ↦ run n bs ] ≡ Some (end s) → ◌≡◌ {A = Result Sheet (At TextFault)} (elim o [ None ↦ Err (wrong l) | Some n ↦ scan n (cond (eqb b 10) (l + 1) l) bs ]) (Ok s)) [
        | None ↦ λ e. absurd (none-some (end s) e)
        | Some n ↦ λ e. scan_run n (cond (eqb b 10) (l + 1) l) bs s e
      ] h

  abbrev Stuck : State → List ℕ → ℕ → State → Type 0
  Stuck st bs p n = ((p < length bs) × (run st (take (p + 1) bs) ≡ None)) ⊎ ((p ≡ length bs) × ((s : Sheet) → n ≡ end s → ⊥))

  abbrev Outcome : State → ℕ → List ℕ → Result Sheet (At TextFault) → Type 0
  Outcome st l bs (Ok s) = run st bs ≡ Some (end s)
  Outcome st l bs (Err e) = (p : ℕ) × (n : State) × (p ≤ length bs) × (run st (take p bs) ≡ Some n) × (e ≡ wrong (l + feeds (take p bs))) × Stuck st bs p n

  lines_add : (c : Bool) (l f : ℕ) → cond c (l + 1) l + f ≡ l + cond c (f + 1) f
  lines_add true l f = omega arith
  lines_add false l f = refl

  lifted : (st n : State) (l b : ℕ) (bs : List ℕ) → step st b ≡ Some n → (x : Result Sheet (At TextFault)) → Outcome n (cond (eqb b 10) (l + 1) l) bs x → Outcome st l (b ∷ bs) x
  lifted st n l b bs e (Ok s) h = run_step st n b bs e ∙ h
  lifted st n l b bs e (Err x) h = (
    suc h.0,
    h.1,
    omega (arith, h.2),
    run_step st n b (take h.0 bs) e ∙ h.3,
    h.4 ∙ ap wrong (lines_add (eqb b 10) l (feeds (take h.0 bs))),
    ⊎_elim
        (λ d. inl (omega (arith, d.0), ap (λ k. run st (take k (b ∷ bs))) (let z : suc h.0 + 1 ≡ suc (h.0 + 1) = omega arith in z) ∙ run_step st n b (take (h.0 + 1) bs) e ∙ d.1))
        (λ d. inr (ap suc d.0, d.1)) h.5,
  )

  no_end : (st : State) (l : ℕ) → ((s : Sheet) → st ≡ end s → ⊥) → Outcome st l [] (Err (wrong l))
  no_end st l h = (0, st, omega arith, refl, ap wrong (let z : l ≡ l + 0 = omega arith in z), inr (refl, h))

  scanned : (st : State) (l : ℕ) (bs : List ℕ) → Outcome st l bs (scan st l bs)
  unfolding scan
  scanned (title p k) l [] = no_end (title p k) l (λ s e. let z : ◌≡◌ {A = ℕ} 0 1 = cc in omega arith)
  scanned (line p t) l [] = no_end (line p t) l (λ s e. let z : ◌≡◌ {A = ℕ} 0 1 = cc in omega arith)
  scanned (begin p t r) l [] = no_end (begin p t r) l (λ s e. let z : ◌≡◌ {A = ℕ} 0 1 = cc in omega arith)
  scanned (digit p t r n) l [] = no_end (digit p t r n) l (λ s e. let z : ◌≡◌ {A = ℕ} 0 1 = cc in omega arith)
  scanned (end s) l [] = refl
  scanned st l (b ∷ bs) =
      elim (step st b) as (λ (o : Option State). step st b ≡ o → Outcome st l (b ∷ bs) (elim o [ None ↦ Err (wrong l) | Some n ↦ scan n (cond (eqb b 10) (l + 1) l) bs ])) [
        | None ↦ λ e.
            (0, st, omega arith, refl, ap wrong (let z : l ≡ l + 0 = omega arith in z), inl (omega arith, ap (λ (o : Option State). elim o [ None ↦ None | Some m ↦ run m [] ]) e))
        | Some n ↦ λ e. lifted st n l b bs e (scan n (cond (eqb b 10) (l + 1) l) bs) (scanned n (cond (eqb b 10) (l + 1) l) bs)
      ] refl

  -- what the scan says of bytes
  abbrev pub Told : List ℕ → Result Sheet (At TextFault) → Type 0
  Told bs (Ok s) = Writes forms bs s
  Told bs (Err e) = (p : ℕ) × FirstWrong forms bs p × (e ≡ wrong (line_after p bs))

  told_by : (bs : List ℕ) (x : Result Sheet (At TextFault)) → Outcome (start forms) 1 bs x → Told bs x
  told_by bs (Ok s) h = sound_run bs s h
  told_by bs (Err e) h =
      let p = h.0 in
      let v = (ran (start forms) h.1 (take p bs) start_valid h.3).0 in
      let x = alive h.1 v in (
        p,
        record {
          within = h.2;
          alive = (x.0, (x.1, sound_run (take p bs ++ x.0) x.1 (run_on (start forms) h.1 (take p bs) x.0 h.3 ∙ x.2)));
          dead = ⊎_elim
              (λ d. inl (
                d.0,
                λ a.
                    let m = run_front (start forms) (end a.1.0) (take (p + 1) bs) a.0 (complete_run (take (p + 1) bs ++ a.0) a.1.0 a.1.1) in
                    none-some m.0 (sym d.1 ∙ m.1),
              ))
              (λ d. inr (
                d.0,
                λ f.
                    let c = complete_run bs f.0 f.1 in
                    let all : take p bs ≡ bs = take_all p bs (omega (arith, d.0)) in
                    let two : Some h.1 ≡ Some (end f.0) = sym h.3 ∙ ap (run (start forms)) all ∙ c in
                    let same : h.1 ≡ end f.0 = cc in
                    d.1 f.0 same,
              )) h.5;
        },
        h.4,
      )

  same_sheet : (s u : Sheet) → ◌≡◌ {A = Result Sheet (At TextFault)} (Ok s) (Ok u) → s ≡ u
  same_sheet s u e = cc

  pub completed : (bs : List ℕ) (s : Sheet) → Writes forms bs s → formed forms bs ≡ Ok s
  completed bs s w = scan_run (start forms) 1 bs s (complete_run bs s w)

  pub told : (bs : List ℕ) → Told bs (formed forms bs)
  told bs = told_by bs (formed forms bs) (scanned (start forms) 1 bs)

  pub one : (bs : List ℕ) (s u : Sheet) → Writes forms bs s → Writes forms bs u → s ≡ u
  one bs s u v w = same_sheet s u (sym (completed bs s v) ∙ completed bs u w)

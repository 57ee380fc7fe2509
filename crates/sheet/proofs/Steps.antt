-- What the reader's moves mean for what is left of the bytes, and what one byte does to a scan.
use Rattle.std.proofs.Common.{◌≡◌, ℕ, ◌+◌, ◌-◌, ◌*◌, ◌^◌, ◌<◌, ◌≤◌, true, false, cond, eqb, ◌⊎◌, List, [], ◌∷◌, ◌++◌, map, length, get_or, take, drop, replicate, set, Some, None, Ok, Err, Option, sym, refl, ap, ◌∙◌, subst, ⊎_elim, arith}
use Rattle.std.proofs.lemmas.List.{drop_all, take_all, length_push, take_more_set, map_push, take-append-le, length-set, drop-set-lt, drop-drop, drop-replicate}
use Rattle.std.proofs.lemmas.Bool.{eq-eqb, ne_eqb, lt-ltb, le-ltb, le-leb, and_from, cond-true, cond-false}
use Rattle.sheet.specs.declared.reader.Reader.{Reader}
use Rattle.fault.specs.declared.at.At.{At}
use Rattle.fault.specs.declared.text.TextFault.{TextFault}
use Rattle.sheet.specs.Text.{Row, Table, Sheet, operations, instances, types, parts, forms}
use Rattle.sheet.specs.Scan.{is_digit, State, title, line, begin, digit, end, Place, step, scan, wrong, closing, closed, titled, shut, start}
use Rattle.sheet.specs.Walk.{NoDigit, Misses, rest, reads, Took, Stays, Passed, Missed, Gathered, Between}

pub digit_is : (b : ℕ) → 48 ≤ b → b ≤ 57 → is_digit b ≡ true
digit_is b l h = and_from _ _ (le-leb 48 b l) (le-leb b 57 h)

pub scan_step : (st n : State) (l b : ℕ) (bs : List ℕ) → step st b ≡ Some n → scan st l (b ∷ bs) ≡ scan n (cond (eqb b 10) (l + 1) l) bs
unfolding scan
scan_step st n l b bs e = ap (λ (o : Option State). elim o [ None ↦ Err (wrong l) | Some m ↦ scan m (cond (eqb b 10) (l + 1) l) bs ]) e

pub scan_wrong : (st : State) (l b : ℕ) (bs : List ℕ) → step st b ≡ None → scan st l (b ∷ bs) ≡ Err (wrong l)
unfolding scan
scan_wrong st l b bs e = ap (λ (o : Option State). elim o [ None ↦ Err (wrong l) | Some m ↦ scan m (cond (eqb b 10) (l + 1) l) bs ]) e

-- a digit is no line feed
digit_step : (st n : State) (l d : ℕ) (bs : List ℕ) → step st (48 + d) ≡ Some n → scan st l ((48 + d) ∷ bs) ≡ scan n l bs
digit_step st n l d bs e =
    scan_step st n l (48 + d) bs e ∙ ap (λ m. scan n m bs) (cond-false _ _ _ (ne_eqb (48 + d) 10 (λ h. omega arith)))

plain : (d : ℕ) → d < 10 → is_digit (48 + d) ≡ true
plain d h = digit_is (48 + d) (omega arith) (omega arith)

back : (d : ℕ) → 48 + d - 48 ≡ d
back d = omega arith

module _ (p : Place) (t : Table) (r : Row) where
  pub begins : (l d : ℕ) (bs : List ℕ) → d < 10 → scan (begin p t r) l ((48 + d) ∷ bs) ≡ scan (digit p t r d) l bs
  begins l d bs h =
      digit_step (begin p t r) (digit p t r d) l d bs (cond-true _ _ _ (plain d h) ∙ ap (λ m. Some (digit p t r m)) (back d))

  pub goes_on : (l n d : ℕ) (bs : List ℕ) → d < 10 → (n ≡ 0 → ⊥) → n * 10 + d < 2 ^ 64 → scan (digit p t r n) l ((48 + d) ∷ bs) ≡ scan (digit p t r (n * 10 + d)) l bs
  goes_on l n d bs h z f =
      digit_step (digit p t r n) (digit p t r (n * 10 + d)) l d bs
      (cond-true _ _ _ (plain d h) ∙ cond-false _ _ _ (ne_eqb n 0 z) ∙ cond-true _ _ _ (lt-ltb (n * 10 + (48 + d - 48)) (2 ^ 64) (omega arith)) ∙ ap (λ m. Some (digit p t r (n * 10 + m))) (back d))

  pub leads : (l n d : ℕ) (bs : List ℕ) → d < 10 → n ≡ 0 → scan (digit p t r n) l ((48 + d) ∷ bs) ≡ Err (wrong l)
  leads l n d bs h z = scan_wrong (digit p t r n) l (48 + d) bs (cond-true _ _ _ (plain d h) ∙ cond-true _ _ _ (eq-eqb n 0 z))

  pub too_big : (l n d : ℕ) (bs : List ℕ) → d < 10 → (n ≡ 0 → ⊥) → 2 ^ 64 ≤ n * 10 + d → scan (digit p t r n) l ((48 + d) ∷ bs) ≡ Err (wrong l)
  too_big l n d bs h z f =
      scan_wrong (digit p t r n) l (48 + d) bs
      (cond-true _ _ _ (plain d h) ∙ cond-false _ _ _ (ne_eqb n 0 z) ∙ cond-false _ _ _ (le-ltb (n * 10 + (48 + d - 48)) (2 ^ 64) (omega arith)))

  pub no_begin : (l : ℕ) (bs : List ℕ) → NoDigit bs → scan (begin p t r) l bs ≡ Err (wrong l)
  unfolding scan
  no_begin l [] h = refl
  no_begin l (b ∷ bs) h = scan_wrong (begin p t r) l b bs (cond-false _ _ _ h)

  pub closes : (l n w : ℕ) (bs : List ℕ) → is_digit w ≡ false → w ≡ closing p r → scan (digit p t r n) l (w ∷ bs) ≡ scan (closed p t r n) (cond (eqb w 10) (l + 1) l) bs
  closes l n w bs h e =
      scan_step (digit p t r n) (closed p t r n) l w bs (cond-false _ _ _ h ∙ cond-true _ _ _ (eq-eqb _ _ e))

  pub misses : (l n w : ℕ) (bs : List ℕ) → NoDigit bs → Misses w bs → w ≡ closing p r → scan (digit p t r n) l bs ≡ Err (wrong l)
  unfolding scan
  misses l n w [] h m e = refl
  misses l n w (b ∷ bs) h m e =
      scan_wrong (digit p t r n) l b bs (cond-false _ _ _ h ∙ cond-false _ _ _ (ap (λ x. eqb b x) (sym e) ∙ m))

  -- the same, of readers
  pub no_begin_at : {a b : Reader} → Stays a b → reads (begin p t r) a ≡ Err (wrong b.line)
  no_begin_at {a} {b} h = no_begin a.line (rest a) h.none ∙ ap (λ (r : Reader). Err (wrong r.line)) (sym h.same)

  pub begins_at : {a b : Reader} {d : ℕ} → Took a b d → reads (begin p t r) a ≡ reads (digit p t r d) b
  begins_at {a} {b} {d} h =
      ap (scan (begin p t r) a.line) h.rest ∙ begins a.line d (rest b) h.small ∙ ap (λ l. scan (digit p t r d) l (rest b)) (sym h.line)

  pub goes_on_at : {a b : Reader} {d : ℕ} (n : ℕ) → Took a b d → (n ≡ 0 → ⊥) → n * 10 + d < 2 ^ 64 → reads (digit p t r n) a ≡ reads (digit p t r (n * 10 + d)) b
  goes_on_at {a} {b} {d} n h z f =
      ap (scan (digit p t r n) a.line) h.rest ∙ goes_on a.line n d (rest b) h.small z f ∙ ap (λ l. scan (digit p t r (n * 10 + d)) l (rest b)) (sym h.line)

  pub wrong_at : {a b : Reader} {d : ℕ} (n : ℕ) → Took a b d → (n ≡ 0) ⊎ ((n ≡ 0 → ⊥) × (2 ^ 64 ≤ n * 10 + d)) → reads (digit p t r n) a ≡ Err (wrong b.line)
  wrong_at {a} {b} {d} n h w =
      ap (scan (digit p t r n) a.line) h.rest
      ∙ ⊎_elim (λ z. leads a.line n d (rest b) h.small z) (λ f. too_big a.line n d (rest b) h.small f.0 f.1) w
      ∙ ap (λ l. Err (wrong l)) (sym h.line)

  pub closes_at : {a b c : Reader} {w : ℕ} (n : ℕ) → Stays a b → Passed w b c → w ≡ closing p r → reads (digit p t r n) a ≡ reads (closed p t r n) c
  closes_at {a} {b} {c} {w} n h x e =
      let from : rest a ≡ w ∷ rest c = ap rest (sym h.same) ∙ x.rest in
      ap (scan (digit p t r n) a.line) from
      ∙ closes a.line n w (rest c) (subst NoDigit from h.none) e
      ∙ ap (λ l. scan (closed p t r n) (cond (eqb w 10) (l + 1) l) (rest c)) (ap (λ (r : Reader). r.line) (sym h.same))
      ∙ ap (λ l. scan (closed p t r n) l (rest c)) (sym x.line)

  pub misses_at : {a b : Reader} {w : ℕ} {e : At TextFault} (n : ℕ) → Stays a b → Missed w b e → w ≡ closing p r → reads (digit p t r n) a ≡ Err e
  misses_at {a} {b} {w} {e} n h m q =
      misses a.line n w (rest a) h.none (subst (λ (r : Reader). Misses w (rest r)) h.same m.other) q
      ∙ ap (λ (r : Reader). Err (wrong r.line)) (sym h.same) ∙ ap (λ x. Err x) (sym m.fault)

module _ (p : Place) where
  is_titled : (k : ℕ) → k < length p.here.names → titled p k ≡ title p k
  is_titled k h = cond-true _ _ _ (lt-ltb k (length p.here.names) h)

  pub names_on : {a b : Reader} {w : ℕ} (k : ℕ) → Passed w a b → k < length p.here.names → w ≡ get_or p.here.names k 0 → reads (titled p k) a ≡ reads (titled p (k + 1)) b
  names_on {a} {b} {w} k h m e =
      ap (λ s. reads s a) (is_titled k m)
      ∙ ap (scan (title p k) a.line) h.rest
      ∙ scan_step (title p k) (titled p (k + 1)) a.line w (rest b) (cond-true _ _ _ (eq-eqb w (get_or p.here.names k 0) e))
      ∙ ap (λ l. scan (titled p (k + 1)) l (rest b)) (sym h.line)

  title_missed : (k w l : ℕ) (bs : List ℕ) → Misses w bs → w ≡ get_or p.here.names k 0 → scan (title p k) l bs ≡ Err (wrong l)
  unfolding scan
  title_missed k w l [] m e = refl
  title_missed k w l (b ∷ bs) m e = scan_wrong (title p k) l b bs (cond-false _ _ _ (ap (λ x. eqb b x) (sym e) ∙ m))

  pub names_missed : {a : Reader} {w : ℕ} {e : At TextFault} (k : ℕ) → Missed w a e → k < length p.here.names → w ≡ get_or p.here.names k 0 → reads (titled p k) a ≡ Err e
  names_missed {a} {w} {e} k h m q =
      ap (λ s. reads s a) (is_titled k m) ∙ title_missed k w a.line (rest a) h.other q ∙ ap (λ x. Err x) (sym h.fault)

module _ (p : Place) (t : Table) where
  pub row_ends : {a b : Reader} → Passed 10 a b → reads (line p t) a ≡ reads (shut p t) b
  row_ends {a} {b} h =
      ap (scan (line p t) a.line) h.rest
      ∙ scan_step (line p t) (shut p t) a.line 10 (rest b) refl
      ∙ ap (λ l. scan (shut p t) l (rest b)) (sym h.line)

  row_starts : (l : ℕ) (bs : List ℕ) → Misses 10 bs → scan (line p t) l bs ≡ scan (begin p t []) l bs
  unfolding scan
  row_starts l [] m = refl
  row_starts l (b ∷ bs) m = ap (λ (o : Option State). elim o [ None ↦ Err (wrong l) | Some n ↦ scan n (cond (eqb b 10) (l + 1) l) bs ]) (cond-false _ _ _ m)

  pub row_starts_at : (a b : Reader) → Misses 10 (rest a) → b ≡ a → reads (line p t) a ≡ reads (begin p t []) b
  row_starts_at a b m e = row_starts a.line (rest a) m ∙ ap (λ (r : Reader). reads (begin p t []) r) (sym e)

-- a row more
pub gathered_more : {R : Type 0} (made : Row → R) (room : ℕ) (zero : R) (rows : List R) (t : Table) (n : ℕ) (row : Row) → Gathered made room zero rows t n → n < room → Gathered made room zero (set rows n (made row)) (t ++ row ∷ []) (n + 1)
gathered_more made room zero rows t n row g h =
    let all : take room t ≡ t = take_all room t (omega (arith, g.count)) in
    let more : length (t ++ row ∷ []) ≡ length t + 1 = length_push t row in
    record {
      count = omega (arith, g.count, more);
      first =
          take_more_set rows n (made row) (omega (arith, g.long))
          ∙ ap (λ l. l ++ made row ∷ []) (g.first ∙ ap (map made) all)
          ∙ sym (map_push made t row)
          ∙ ap (map made) (sym (take_all room (t ++ row ∷ []) (omega (arith, more, g.count))));
      rest =
          drop-set-lt (n + 1) rows n (made row) (omega arith)
          ∙ sym (drop-drop 1 n rows)
          ∙ ap (drop 1) g.rest
          ∙ drop-replicate 1 (room - n) zero
          ∙ ap (λ k. replicate k zero) (let q : room - n - 1 ≡ room - (n + 1) = omega arith in q);
      long = length-set rows n (made row) ∙ g.long;
    }

-- a row for which there is no room
pub gathered_past : {R : Type 0} (made : Row → R) (room : ℕ) (zero : R) (rows : List R) (t : Table) (n : ℕ) (row : Row) → Gathered made room zero rows t n → room ≤ n → Gathered made room zero rows (t ++ row ∷ []) (n + 1)
gathered_past made room zero rows t n row g h =
    let more : length (t ++ row ∷ []) ≡ length t + 1 = length_push t row in
    record {
      count = omega (arith, g.count, more);
      first =
          take_all (n + 1) rows (omega (arith, g.long)) ∙ sym (take_all n rows (omega (arith, g.long, h)))
          ∙ g.first ∙ ap (map made) (sym (take-append-le room t (row ∷ []) (omega (arith, g.count))));
      rest = drop_all (n + 1) rows (omega (arith, g.long)) ∙ ap (λ k. replicate k zero) (let q : 0 ≡ room - (n + 1) = omega arith in q);
      long = g.long;
    }

-- after the last table
pub ends_at : (s : Sheet) (a : Reader) → rest a ≡ [] → reads (end s) a ≡ Ok s
unfolding scan
ends_at s a h = ap (scan (end s) a.line) h

trails : (s : Sheet) (l : ℕ) (bs : List ℕ) → 0 < length bs → scan (end s) l bs ≡ Err (wrong l)
trails s l [] h = absurd (omega arith)
trails s l (b ∷ bs) h = scan_wrong (end s) l b bs refl

pub trails_at : (s : Sheet) (a : Reader) → 0 < length (rest a) → reads (end s) a ≡ Err (wrong a.line)
trails_at s a h = trails s a.line (rest a) h

-- the four tables one after another
pub chained : {a b c d e : Reader} {t u v w : Table} → Between operations.names 4 a b t → Between instances.names 2 b c u → Between types.names 6 c d v → Between parts.names 6 d e w → reads (start forms) a ≡ reads (end (t ∷ u ∷ v ∷ w ∷ [])) e
chained f g h k =
    f.at _ (record { names = refl; cols = refl }) ∙ g.at _ (record { names = refl; cols = refl }) ∙ h.at _ (record { names = refl; cols = refl }) ∙ k.at _ (record { names = refl; cols = refl })

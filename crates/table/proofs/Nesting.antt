-- The heights of types, row by row.
use Rattle.std.proofs.Common.{◌≡◌, ℕ, zero, suc, ◌+◌, ◌<◌, ◌≤◌, max, eqb, List, [], ◌∷◌, map, length, get_or, take, replicate, sym, refl, ap, ◌∙◌, ⊎_elim, arith}
use Rattle.std.proofs.Math.ListN.{get_or-map}
use Rattle.std.proofs.lemmas.List.{get_or_past, length-map, get_or-take, length-take}
use Rattle.std.proofs.lemmas.Bool.{cond_both, eqb-true, cond-true, cond-false, cases_lt, ne_eqb}
use Rattle.eff.specs.Types.{Ty}
use Rattle.eff.specs.Types as t
use Rattle.eff.specs.Tables.{meant, numbered, grounds, type}
use Rattle.eff.proofs.TypeNumbers.{at_row, kept, long}
use Rattle.sheet.specs.declared.rows.TypeRow.{TypeRow}
use Rattle.sheet.specs.Rows.{type_of, Listing}
use Rattle.table.specs.Meant.{listed_type, tables_of}
use Rattle.table.specs.Ranges.{height}
use Rattle.table.specs.Heights.{height_above, height_at}

-- a row's type is as high as its height above the types that it names
row_height : (us : List Ty) (hs : List ℕ) → ((k : ℕ) → get_or hs k 1 ≡ height (get_or us k t.unit)) → (r : TypeRow) → height (meant us (listed_type r)) ≡ height_above hs r
row_height us hs e r =
    cond_both (eqb r.kind 4) _ _ (λ A. height A ≡ height_above hs r)
    (λ k. two ∙ sym (cond-false _ _ _ (ne_eqb r.kind 5 (λ q. let p : r.kind ≡ 4 = eqb-true r.kind 4 k in omega arith))))
    (λ _.
    cond_both (eqb r.kind 5) _ _ (λ A. height A ≡ height_above hs r)
    (λ k. sym (cond-true _ _ _ k)) (λ k. two ∙ sym (cond-false _ _ _ k)))
  where
    two : 1 + max (height (get_or us r.a t.unit)) (height (get_or us r.b t.unit)) ≡ 1 + max (get_or hs r.a 1) (get_or hs r.b 1)
    two = ap (λ x. 1 + max x (height (get_or us r.b t.unit))) (sym (e r.a)) ∙ ap (λ x. 1 + max (get_or hs r.a 1) x) (sym (e r.b))

next_height : (ts : List TypeRow) (i : ℕ) → i < length ts → (hs : List ℕ) → length hs ≤ 4 + i → ((k : ℕ) → k < 4 + i → get_or hs k 1 ≡ height_at ts k) → height_above hs (get_or ts i (type_of [])) ≡ height_at ts (4 + i)
unfolding height_at
next_height ts i h hs long e =
    let x = at_row grounds (map listed_type ts) i (omega (arith, length-map ts listed_type)) in
    let us = x.0 in
    let same : (k : ℕ) → get_or hs k 1 ≡ height (get_or us k t.unit) = λ k.
    ⊎_elim (λ lt. e k lt ∙ ap height (x.3 k (omega (arith, x.1))))
    (λ ge. get_or_past hs k 1 (omega arith) ∙ sym (ap height (get_or_past us k t.unit (omega (arith, x.1))))) (cases_lt k (4 + i)) in
    sym (ap height (x.2 ∙ ap (meant us) (get_or-map listed_type ts i (type_of []))) ∙ row_height us hs same (get_or ts i (type_of [])))

pub ground_height : (ts : List TypeRow) (k : ℕ) → k < 4 → height_at ts k ≡ 1
unfolding height_at
ground_height ts k h = ap height (kept grounds (map listed_type ts) k h) ∙ four k h
  where
    four : (k : ℕ) → k < 4 → height (get_or grounds k t.unit) ≡ 1
    four zero h = refl
    four (suc zero) h = refl
    four (suc (suc zero)) h = refl
    four (suc (suc (suc zero))) h = refl
    four (suc (suc (suc (suc k)))) h = absurd (omega arith)

short : (n : ℕ) (hs : List ℕ) → length (take n hs) ≤ n
short n hs = omega (arith, length-take n hs)

-- of some that are small with what stands for none, the first are small
pub first_small : (n m : ℕ) (hs : List ℕ) → 1 ≤ m → ((k : ℕ) → get_or hs k 1 ≤ m) → (k : ℕ) → get_or (take n hs) k 1 ≤ m
first_small zero m hs one h k = one
first_small (suc n) m [] one h k = one
first_small (suc n) m (x ∷ hs) one h zero = h zero
first_small (suc n) m (x ∷ hs) one h (suc k) = first_small n m hs one (λ j. h (suc j)) k

-- the heights so far, with one more
pub heights_more : (ts : List TypeRow) (i : ℕ) (hs more : List ℕ) (n : ℕ) → i < length ts → n ≡ 4 + i → ((k : ℕ) → k < 4 + i → get_or hs k 1 ≡ height_at ts k) → ((k : ℕ) → k < n → get_or more k 1 ≡ get_or hs k 1) → get_or more n 1 ≡ height_above (take n hs) (get_or ts i (type_of [])) → (k : ℕ) → k < 4 + (i + 1) → get_or more k 1 ≡ height_at ts k
heights_more ts i hs more n h at e same q k lt =
    ⊎_elim (λ less. same k less ∙ e k (omega (arith, less)))
    (λ ge.
    let z : k ≡ n = omega arith in
    let small : length (take n hs) ≤ 4 + i = omega (arith, short n hs) in
    ap (λ j. get_or more j 1) z ∙ q ∙ next_height ts i h (take n hs) small (λ j l. get_or-take n hs j 1 (omega (arith, l)) ∙ e j l) ∙ ap (height_at ts) (sym (z ∙ at))) (cases_lt k n)

-- an array of ones
pub ones : (n k : ℕ) → get_or {A = ℕ} (replicate n 1) k 1 ≡ 1
ones zero k = refl
ones (suc n) zero = refl
ones (suc n) (suc k) = ones n k

pub height_at-type : (l : Listing) (n : ℕ) → height_at l.types n ≡ height (type (tables_of l) n)
unfolding height_at type
height_at-type l n = refl

-- a number of no type is that of unit
past_height : (ts : List TypeRow) (k : ℕ) → 4 + length ts ≤ k → height_at ts k ≡ 1
unfolding height_at
past_height ts k h = ap height (get_or_past (numbered grounds (map listed_type ts)) k t.unit (omega (arith, long grounds (map listed_type ts), length-map ts listed_type)))

-- the heights of all numbers
pub all_heights : (ts : List TypeRow) (hs : List ℕ) (n : ℕ) → n ≡ 4 + length ts → ((k : ℕ) → k < n → get_or hs k 1 ≡ height_at ts k) → (k : ℕ) → get_or (take n hs) k 1 ≡ height_at ts k
all_heights ts hs n e same k =
    ⊎_elim (λ lt. get_or-take n hs k 1 lt ∙ same k lt) (λ ge. get_or_past (take n hs) k 1 (omega (arith, short n hs)) ∙ sym (past_height ts k (omega (arith, ge)))) (cases_lt k n)

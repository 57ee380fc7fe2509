-- A search through rows: what is left of it, and what its verdict means.
use Rattle.std.proofs.Common.{◌≡◌, ℕ, zero, suc, ◌+◌, ◌<◌, ◌≤◌, Bool, true, List, [], ◌∷◌, length, get_or, drop, Ok, Err, sym, refl, ap, ◌∙◌, ⊎_elim, arith}
use Rattle.std.proofs.lemmas.Bool.{cond_both, cases_lt}
use Rattle.fault.specs.Search.{Verdict, refused, search}

-- what is still to be searched after i rows
abbrev pub left : {F R : Type 0} → F → (ℕ → R → Bool) → (line n : ℕ) → List R → ℕ → Verdict F
left f ok line n rows i = search f ok (line + i) (n + i) (drop i rows)

-- Row r is the first of k that is not good.
pub record Found (k : ℕ) (Good : ℕ → Type 0) (r : ℕ) : Type 0 where
  pub within : r < k
  pub bad : Good r → ⊥
  pub before : (s : ℕ) → s < r → Good s

-- what a verdict on k rows says, the first at line b: all are good, or the first that is not is named
abbrev pub Told : {F : Type 0} → F → ℕ → ℕ → (ℕ → Type 0) → Verdict F → Type 0
Told f b k Good (Ok x) = (r : ℕ) → r < k → Good r
Told f b k Good (Err e) = (e.fault ≡ f) × ((r : ℕ) × Found k Good r × (e.line ≡ b + r))

-- a good row in front
pub more : {F : Type 0} (f : F) (b k : ℕ) (Good Later : ℕ → Type 0) → Good 0 → ((r : ℕ) → Later r → Good (suc r)) → ((r : ℕ) → Good (suc r) → Later r) → (v : Verdict F) → Told f (b + 1) k Later v → Told f b (suc k) Good v
more f b k Good Later z on off (Ok x) h = λ r. elim r as (λ r. r < suc k → Good r) [ zero ↦ λ _. z | suc s ↦ λ lt. on s (h s (omega arith)) ]
more f b k Good Later z on off (Err e) h =
    let g = h.1.1 in (
      h.0,
      (
        suc h.1.0,
        record {
          within = omega (arith, g.within);
          bad = λ x. g.bad (off h.1.0 x);
          before = λ s. elim s as (λ s. s < suc h.1.0 → Good s) [ zero ↦ λ _. z | suc t ↦ λ lt. on t (g.before t (omega arith)) ];
        },
        h.1.2 ∙ (let q : b + 1 + h.1.0 ≡ b + suc h.1.0 = omega arith in q),
      ),
    )

-- a bad row in front
pub stopped : {F : Type 0} (f : F) (b k : ℕ) (Good : ℕ → Type 0) → (Good 0 → ⊥) → Told f b (suc k) Good (refused b f)
stopped f b k Good bad = (refl, (0, record { within = omega arith; bad = bad; before = λ s lt. absurd (omega (arith, lt)) }, (let q : b ≡ b + 0 = omega arith in q)))

-- the same verdict by another word for a good row
pub same_told : {F : Type 0} (f : F) (b k : ℕ) (Good Other : ℕ → Type 0) → ((r : ℕ) → r < k → Good r → Other r) → ((r : ℕ) → r < k → Other r → Good r) → (v : Verdict F) → Told f b k Good v → Told f b k Other v
same_told f b k Good Other on off (Ok x) h = λ r lt. on r lt (h r lt)
same_told f b k Good Other on off (Err e) h =
    let g = h.1.1 in
    (h.0, (h.1.0, record { within = g.within; bad = λ x. g.bad (off h.1.0 g.within x); before = λ s lt. on s (omega (arith, g.within)) (g.before s lt) }, h.1.2))

-- of two bad rows, the first comes first
pub earlier : (Good : ℕ → Type 0) (r s : ℕ) → ((t : ℕ) → t < r → Good t) → (Good s → ⊥) → r ≤ s
earlier Good r s h bad = ⊎_elim (λ lt. absurd (bad (h s lt))) (λ le. le) (cases_lt s r)

-- a search tells the first row whose test fails
pub searched : {F R : Type 0} (f : F) (ok : ℕ → R → Bool) (d : R) (b n : ℕ) (rows : List R) → Told f b (length rows) (λ r. ok (n + r) (get_or rows r d) ≡ true) (search f ok b n rows)
searched f ok d b n [] = λ r lt. absurd (omega (arith, lt))
searched f ok d b n (x ∷ xs) =
    cond_both (ok n x) _ _ (Told f b (suc (length xs)) (λ r. ok (n + r) (get_or (x ∷ xs) r d) ≡ true))
    (λ e.
    more f b (length xs) (λ r. ok (n + r) (get_or (x ∷ xs) r d) ≡ true) (λ r. ok (n + 1 + r) (get_or xs r d) ≡ true)
    (ap (λ k. ok k x) (zero_is n) ∙ e)
    (λ r h. ap (λ k. ok k (get_or xs r d)) (suc_is n r) ∙ h)
    (λ r h. ap (λ k. ok k (get_or xs r d)) (sym (suc_is n r)) ∙ h)
    (search f ok (b + 1) (n + 1) xs) (searched f ok d (b + 1) (n + 1) xs))
    (λ e. stopped f b (length xs) (λ r. ok (n + r) (get_or (x ∷ xs) r d) ≡ true) (λ h. let p : ok n x ≡ true = ap (λ k. ok k x) (sym (zero_is n)) ∙ h in let z : ◌≡◌ {A = ℕ} 0 1 = cc in omega arith))
  where
    zero_is : (n : ℕ) → n + 0 ≡ n
    zero_is n = omega arith

    suc_is : (n r : ℕ) → n + suc r ≡ n + 1 + r
    suc_is n r = omega arith

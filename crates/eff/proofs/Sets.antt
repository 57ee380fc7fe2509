-- Sets of numbers as numbers: members, joins and inclusion.
use Rattle.std.proofs.Common.{◌≡◌, ℕ, zero, suc, ◌+◌, ◌-◌, ◌*◌, ◌/◌, ◌%◌, ◌^◌, ◌<◌, ◌≤◌, min, max, true, eqb, sym, refl, ap, ◌∙◌, pow-suc, arith, pow_pos, pow-add, eq-eqb, eqb-true}
use native.Mathlib.Nat.{zero-div, div_self, div-eq_of_lt, div-div-eq-div-mul}
use native.Mathlib.Decide.{dec_lt}
use lib.Bits.{bit_or, bit_and, bit_xor, or_step, or_shr, and_step, and_shr, xor_step, xor_shr, differ}
use lib.Pow.{shl-shr, pow-lt}
use Rattle.eff.specs.Sets.{bit, Holds, Within}

pub bit-or : (a b k : ℕ) → bit (bit_or a b) k ≡ max (bit a k) (bit b k)
bit-or a b k = rw or_shr (omega (arith, or_step (a / 2 ^ k) (b / 2 ^ k)))

pub bit_zero : (k : ℕ) → bit 0 k ≡ 0
bit_zero k = rw zero-div refl

-- 2 ^ m is the set of m alone
pub holds_own : (m : ℕ) → Holds (2 ^ m) m
holds_own m = rw (div_self (pow_pos m)) refl

pub own_holds : (m k : ℕ) → Holds (2 ^ m) k → k ≡ m
own_holds m k h = go (dec_lt k m) (dec_lt m k)
  where
    go : Dec (k < m) → Dec (m < k) → k ≡ m
    go (yes l) x =
        let e : 2 ^ m ≡ 2 ^ suc ((m - k) - 1) * 2 ^ k = ap (λ n. 2 ^ n) (omega arith) ∙ pow-add 2 (suc ((m - k) - 1)) k in
        absurd (omega (arith, rw (e, shl-shr, pow-suc) at h))
    go (no g) (yes l) = absurd (omega (arith, rw (div-eq_of_lt (pow-lt l)) at h))
    go (no g) (no l) = omega arith

-- a set without one number
digits : (x p : ℕ) → x < 2 → p < 2 → differ x (min x p) ≡ x - p
digits zero zero h k = refl
digits zero (suc p) h k = omega arith
digits (suc zero) zero h k = refl
digits (suc zero) (suc zero) h k = refl
digits (suc zero) (suc (suc p)) h k = absurd (omega arith)
digits (suc (suc x)) p h k = absurd (omega arith)

pub bit_without : (d p k : ℕ) → bit (bit_xor d (bit_and d p)) k ≡ bit d k - bit p k
bit_without d p k =
    let x = d / 2 ^ k in let y = p / 2 ^ k in
    let a : bit_and x y % 2 ≡ min (x % 2) (y % 2) = omega (arith, and_step x y) in
    let e : differ (x % 2) (bit_and x y % 2) ≡ x % 2 - y % 2 = rw a (digits (x % 2) (y % 2) (omega arith) (omega arith)) in
    rw (xor_shr, and_shr) (omega (arith, xor_step x (bit_and x y)))

-- sets of the same members are the same number
half : (n k : ℕ) → bit (n / 2) k ≡ bit n (suc k)
half n k = ap (λ m. m % 2) (div-div-eq-div-mul n 2 (2 ^ k) ∙ ap (λ m. n / m) (omega (arith, pow-suc 2 k)))

same_to : (f m n : ℕ) → m ≤ f → n ≤ f → ((k : ℕ) → bit m k ≡ bit n k) → m ≡ n
same_to zero m n p q h = omega arith
same_to (suc f) m n p q h =
    let e : m / 2 ≡ n / 2 = same_to f (m / 2) (n / 2) (omega arith) (omega arith) (λ k. half m k ∙ h (suc k) ∙ sym (half n k)) in
    omega (arith, h 0)

pub same_set : (m n : ℕ) → ((k : ℕ) → bit m k ≡ bit n k) → m ≡ n
same_set m n h = same_to (m + n) m n (omega arith) (omega arith) h

-- the test of inclusion
pub within_true : (d e : ℕ) → Within d e → eqb (bit_or d e) e ≡ true
within_true d e h = eq-eqb _ _ (same_set (bit_or d e) e (λ k. bit-or d e k ∙ go k (bit d k) refl))
  where
    go : (k x : ℕ) → bit d k ≡ x → max (bit d k) (bit e k) ≡ bit e k
    go k zero p = omega arith
    go k (suc zero) p = omega (arith, h k p)
    go k (suc (suc x)) p = absurd (omega arith)

pub true_within : (d e : ℕ) → eqb (bit_or d e) e ≡ true → Within d e
true_within d e h k p =
    let q : bit e k ≡ max (bit d k) (bit e k) = ap (λ m. bit m k) (sym (eqb-true _ _ h)) ∙ bit-or d e k in
    omega arith

-- A continuation with an answer written in.
use Rattle.std.proofs.Common.{◌≡◌, ℕ, suc, ◌<◌, min, Bool, true, false, cond, eqb, List, [], ◌∷◌, ◌++◌, length, take, drop, Some, None, Ok, Err, Result, sym, refl, ap, ◌∙◌, append-nil, arith, length-append}
use Rattle.std.specs.Borrow.{Bor}
use Rattle.eff.specs.Sorts.{Sort, expr, comp}
use Rattle.eff.specs.Spelling.{term_of, Whole}
use Rattle.eff.specs.Syntax.{head, Term, var, truth, num, succ, unit, inst, fn, handler, case, nil, if, match, absurd as none_of, apply, val, call, bind, rec, handle, flatten, size, put}
use Rattle.eff.specs.Questions.{term, cut, value_part}
use Rattle.eff.specs.declared.part.Part.{Part}
use Rattle.eff.specs.declared.question.Value.{Value}
use Rattle.eff.specs.declared.question.Value.TheVariants as v
use Rattle.step.specs.declared.halt.Halt.{Halt}
use Rattle.step.specs.declared.halt.Halt.TheVariants.{Stuck, Full}
use Rattle.step.specs.declared.write.Writer.{Writer}
use Rattle.step.specs.Written.{Kept, Holds}
use Rattle.step.specs.Puts.{Puts}
use Rattle.step.specs.Steps.{Resumes}
use Rattle.step.proofs.Writing.{many}
use Rattle.std.specs.Result.{is_ok}
use Rattle.eff.proofs.Spelling.{whole_parts}

-- a value of one part keeps the size
record Same (x x' : List Part) : Type 0 where
  lengths : length x ≡ length x'

same_1 : {x x' : List Part} (p : Part) → Same x x' → Same (p ∷ x) (p ∷ x')
same_1 p e = record { lengths = ap suc e.lengths }

same_2 : {x x' y y' : List Part} (p : Part) → Same x x' → Same y y' → Same (p ∷ (x ++ y)) (p ∷ (x' ++ y'))
same_2 {x} {x'} {y} {y'} p e f = record { lengths = omega (arith, e.lengths, f.lengths, length-append x y, length-append x' y') }

same_3 : {x x' y y' z z' : List Part} (p : Part) → Same x x' → Same y y' → Same z z' → Same (p ∷ (x ++ (y ++ z))) (p ∷ (x' ++ (y' ++ z')))
same_3 {x} {x'} {y} {y'} {z} {z'} p e f g =
    record { lengths = omega (arith, e.lengths, f.lengths, g.lengths, length-append x (y ++ z), length-append x' (y' ++ z'), length-append y z, length-append y' z') }

one_part : (v : Term expr) (a : ℕ) (b : Bool) → size v ≡ 1 → Same (flatten (cond b v (var a))) (flatten (var a))
one_part v a true e = record { lengths = e }
one_part v a false e = record { lengths = refl }

same_size : {s : Sort} (n : ℕ) (v : Term expr) → size v ≡ 1 → (t : Term s) → Same (flatten (put n v t)) (flatten t)
same_size n v e (var a) = one_part v a (eqb a n) e
same_size n v e (truth a) = record { lengths = refl }
same_size n v e (num a) = record { lengths = refl }
same_size n v e (succ x) = same_1 _ (same_size n v e x)
same_size n v e unit = record { lengths = refl }
same_size n v e (inst a) = record { lengths = refl }
same_size n v e (fn a x) = same_1 _ (same_size (suc n) v e x)
same_size n v e (handler a x y) = same_2 _ (same_size (suc n) v e x) (same_size n v e y)
same_size n v e (case a b x y z) = same_3 _ (same_size n v e x) (same_size (suc (suc n)) v e y) (same_size n v e z)
same_size n v e nil = record { lengths = refl }
same_size n v e (if x y z) = same_3 _ (same_size n v e x) (same_size n v e y) (same_size n v e z)
same_size n v e (match x y z) = same_3 _ (same_size n v e x) (same_size n v e y) (same_size (suc n) v e z)
same_size n v e (none_of x) = same_1 _ (same_size n v e x)
same_size n v e (apply x y) = same_2 _ (same_size n v e x) (same_size n v e y)
same_size n v e (val x) = same_1 _ (same_size n v e x)
same_size n v e (call a b x y z) = same_3 _ (same_size n v e x) (same_size n v e y) (same_size (suc n) v e z)
same_size n v e (bind x y) = same_2 _ (same_size n v e x) (same_size (suc n) v e y)
same_size n v e (rec a x y) = same_2 _ (same_size (suc (suc n)) v e x) (same_size (suc n) v e y)
same_size n v e (handle x y) = same_2 _ (same_size n v e x) (same_size n v e y)

-- the part of a value is its term's only one
pub one_part_of : (a : Value) → head (term a) ∷ [] ≡ flatten (term a)
one_part_of (v.Truth b) = refl
one_part_of (v.Count n) = refl
one_part_of v.Unit = refl

-- a continuation keeps its size
pub keeps_size : (a : Value) (c : Term comp) → size (put 0 (term a) c) ≡ size c
keeps_size a c = (same_size 0 (term a) (sym (ap length (one_part_of a))) c).lengths

-- what is written, if there was room
pub resumes : {p : Part} {ps : List Part} {was new : Writer} (slab : List Part) (a : Value) (r : Result (Bor (List Part)) Halt) → Whole ps → p ≡ value_part a → was.filled ≡ 0 → Kept was new
    → Puts (p ∷ []) [] (drop 0 ps) was new r
    → (is_ok r ≡ true → slab ≡ new.to.now → Resumes a (term_of ps) (length was.to.now) slab (Some new.filled))
    × (is_ok r ≡ false → Resumes a (term_of ps) (length was.to.now) slab None)
resumes {p} {ps} {was} {new} slab a r whole q e k w =
    go r (w.one (term_of ps) (term (cut a)) [] refl (whole_parts ps whole ∙ sym (append-nil (flatten (term_of ps)))) (ap (λ (z : Part). z ∷ []) q ∙ one_part_of (cut a)))
  where
    go : (r : Result (Bor (List Part)) Halt) → Holds (flatten (put 0 (term (cut a)) (term_of ps))) was new r
        → (is_ok r ≡ true → slab ≡ new.to.now → Resumes a (term_of ps) (length was.to.now) slab (Some new.filled))
        × (is_ok r ≡ false → Resumes a (term_of ps) (length was.to.now) slab None)
    go (Ok m) h = (
      λ y s. record {
        size_is = omega (arith, many h);
        fits = omega (arith, new.fits, k.size);
        parts = ap (take new.filled) s ∙ h.whole ∙ ap (λ n. take n was.to.now ++ flatten (put 0 (term (cut a)) (term_of ps))) e;
      },
      λ n. let z : ◌≡◌ {A = ℕ} 0 1 = cc in absurd (omega arith),
    )
    go (Err Full) h =
        (λ y s. let z : ◌≡◌ {A = ℕ} 0 1 = cc in absurd (omega arith), λ n. record { over = omega (arith, h.over, keeps_size (cut a) (term_of ps)) })
    go (Err Stuck) h = absurd h

-- a count that a numeral holds is not cut; for the crates above
pub uncut : (n : ℕ) → n < 4294967296 → cut (v.Count n) ≡ v.Count n
uncut n h = let z : min n 4294967295 ≡ n = omega arith in ap (λ m. v.Count m) z

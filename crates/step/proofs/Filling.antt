-- Terms with closed values written in, by their parts.
use Rattle.std.proofs.Common.{◌≡◌, ℕ, suc, ◌+◌, Bool, true, false, cond, eqb, List, [], ◌∷◌, ◌++◌, length, drop, Some, None, Ok, Err, Result, sym, refl, ap, ◌∙◌, subst, append_assoc, append-nil, add-zero, arith}
use Rattle.std.specs.Borrow.{Bor}
use Rattle.std.proofs.lemmas.List.{drop_at}
use Rattle.eff.specs.Sorts.{Sort, expr}
use Rattle.eff.specs.Syntax.{Term, var, truth, num, succ, unit, inst, fn, handler, case, nil, if, match, absurd as none_of, apply, val, call, bind, rec, handle, flatten, put}
use Rattle.eff.specs.declared.part.Part.{Part}
use Rattle.step.specs.declared.halt.Halt.{Halt}
use Rattle.step.specs.declared.halt.Halt.TheVariants.{Stuck, Full}
use Rattle.step.specs.declared.write.Writer.{Writer}
use Rattle.step.specs.Walk.{skip}
use Rattle.step.proofs.Skipping.{skip_flat}
use Rattle.step.specs.Written.{parts, Holds}
use Rattle.step.specs.Fill.{Writing, fill, one, written}
use Rattle.step.specs.Copies.{Copies}
use Rattle.step.specs.Puts.{Puts, Reaches}

-- parts that are one term under d names, and what they become
pub record Fills (w : Writing) (d : ℕ) (x x' : List Part) : Type 0 where
  pub fills : (ds : List ℕ) (rest : List Part) → fill w (d ∷ ds) (x ++ rest) ≡ x' ++ fill w ds rest

same : {w : Writing} {x x' : List Part} {d : ℕ} → Fills w d x x' → Fills w (d + 0) x x'
same {w} {x} {x'} {d} h = rw (add-zero d) h

more : {w : Writing} {x x' : List Part} {d : ℕ} → Fills w (suc d) x x' → Fills w (d + 1) x x'
more {w} {x} {x'} {d} h = let e : d + 1 ≡ suc d = omega arith in rw e h

twice : {w : Writing} {x x' : List Part} {d : ℕ} → Fills w (suc (suc d)) x x' → Fills w (d + 2) x x'
twice {w} {x} {x'} {d} h = let e : d + 2 ≡ suc (suc d) = omega arith in rw e h

fill_1 : (p : Part) {w : Writing} {x x' : List Part} {d : ℕ} → Fills w d x x' → (ds : List ℕ) (rest : List Part)
    → p ∷ fill w (d ∷ ds) (x ++ rest) ≡ p ∷ (x' ++ fill w ds rest)
fill_1 p h ds rest = ap (λ l. p ∷ l) (h.fills ds rest)

fill_2 : (p : Part) {w : Writing} {x x' y y' : List Part} {d e : ℕ} → Fills w d x x' → Fills w e y y' → (ds : List ℕ) (rest : List Part)
    → p ∷ fill w (d ∷ e ∷ ds) ((x ++ y) ++ rest) ≡ p ∷ ((x' ++ y') ++ fill w ds rest)
fill_2 p {w} {x} {x'} {y} {y'} {d} {e} h j ds rest =
    ap (λ l. p ∷ l) (rw (append_assoc x y rest, append_assoc x' y' (fill w ds rest), h.fills (e ∷ ds) (y ++ rest), j.fills ds rest) refl)

fill_3 : (p : Part) {w : Writing} {x x' y y' z z' : List Part} {d e f : ℕ} → Fills w d x x' → Fills w e y y' → Fills w f z z' → (ds : List ℕ) (rest : List Part)
    → p ∷ fill w (d ∷ e ∷ f ∷ ds) ((x ++ (y ++ z)) ++ rest) ≡ p ∷ ((x' ++ (y' ++ z')) ++ fill w ds rest)
fill_3 p h j k ds rest = ap (λ l. p ∷ l) (simp (append_assoc, h.fills, j.fills, k.fills))

-- v for the name of place d
on_var : (v : Term expr) (d a : ℕ) (b : Bool) (ds : List ℕ) (rest : List Part)
    → elim (cond b (Some (flatten v)) None) [ Some w ↦ w ++ fill (one (flatten v)) ds rest | None ↦ flatten (var a) ++ fill (one (flatten v)) ds rest ]
    ≡ flatten (cond b v (var a)) ++ fill (one (flatten v)) ds rest
on_var v d a true ds rest = refl
on_var v d a false ds rest = refl

pub fill_put : (v : Term expr) {s : Sort} (d : ℕ) (t : Term s) → Fills (one (flatten v)) d (flatten t) (flatten (put d v t))
fill_put v d (var a) = record { fills = λ ds rest. on_var v d a (eqb a d) ds rest }
fill_put v d (truth a) = record { fills = λ ds rest. refl }
fill_put v d (num a) = record { fills = λ ds rest. refl }
fill_put v d (succ x) = record { fills = fill_1 _ (same (fill_put v d x)) }
fill_put v d unit = record { fills = λ ds rest. refl }
fill_put v d (inst a) = record { fills = λ ds rest. refl }
fill_put v d (fn a x) = record { fills = fill_1 _ (more (fill_put v (suc d) x)) }
fill_put v d (handler a x y) = record { fills = fill_2 _ (more (fill_put v (suc d) x)) (same (fill_put v d y)) }
fill_put v d (case a b x y z) = record { fills = fill_3 _ (same (fill_put v d x)) (twice (fill_put v (suc (suc d)) y)) (same (fill_put v d z)) }
fill_put v d nil = record { fills = λ ds rest. refl }
fill_put v d (if x y z) = record { fills = fill_3 _ (same (fill_put v d x)) (same (fill_put v d y)) (same (fill_put v d z)) }
fill_put v d (match x y z) = record { fills = fill_3 _ (same (fill_put v d x)) (same (fill_put v d y)) (more (fill_put v (suc d) z)) }
fill_put v d (none_of x) = record { fills = fill_1 _ (same (fill_put v d x)) }
fill_put v d (apply x y) = record { fills = fill_2 _ (same (fill_put v d x)) (same (fill_put v d y)) }
fill_put v d (val x) = record { fills = fill_1 _ (same (fill_put v d x)) }
fill_put v d (call a b x y z) = record { fills = fill_3 _ (same (fill_put v d x)) (same (fill_put v d y)) (more (fill_put v (suc d) z)) }
fill_put v d (bind x y) = record { fills = fill_2 _ (same (fill_put v d x)) (more (fill_put v (suc d) y)) }
fill_put v d (rec a x y) = record { fills = fill_2 _ (twice (fill_put v (suc (suc d)) x)) (more (fill_put v (suc d) y)) }
fill_put v d (handle x y) = record { fills = fill_2 _ (same (fill_put v d x)) (same (fill_put v d y)) }

-- v for the name of place d and a, with v in it, for the name beyond
module _ (v a : Term expr) (q : Part) (qs : List Part) (e : q ∷ qs ≡ flatten a) where
  abbrev w : Writing
  w = written (flatten v) (q ∷ qs)

  argument_is : (d : ℕ) → fill (one (flatten v)) (d ∷ []) (q ∷ qs) ≡ flatten (put d v a)
  argument_is d =
      ap (λ l. fill (one (flatten v)) (d ∷ []) l) (e ∙ sym (append-nil (flatten a))) ∙ (fill_put v d a).fills [] [] ∙ append-nil (flatten (put d v a))

  on_var_two : (d m : ℕ) (b c : Bool) (ds : List ℕ) (rest : List Part) → b ≡ eqb m (suc d) → c ≡ eqb m d
      → elim (cond b (Some (fill (one (flatten v)) (d ∷ []) (q ∷ qs))) (cond c (Some (flatten v)) None))
      [ Some u ↦ u ++ fill w ds rest | None ↦ flatten (var m) ++ fill w ds rest ]
      ≡ flatten (put d v (put (suc d) a (var m))) ++ fill w ds rest
  on_var_two d m true c ds rest g h =
      ap (λ l. l ++ fill w ds rest) (argument_is d) ∙ ap (λ (b : Bool). flatten (put d v (cond b a (var m))) ++ fill w ds rest) g
  on_var_two d m false true ds rest g h =
      ap (λ (b : Bool). flatten (cond b v (var m)) ++ fill w ds rest) h ∙ ap (λ (b : Bool). flatten (put d v (cond b a (var m))) ++ fill w ds rest) g
  on_var_two d m false false ds rest g h =
      ap (λ (b : Bool). flatten (cond b v (var m)) ++ fill w ds rest) h ∙ ap (λ (b : Bool). flatten (put d v (cond b a (var m))) ++ fill w ds rest) g

  var_two : (d m : ℕ) → Fills w d (flatten (var m)) (flatten (put d v (put (suc d) a (var m))))
  var_two d m =
      let k : d + 1 ≡ suc d = omega arith in
      record { fills = λ ds rest. on_var_two d m (eqb m (d + 1)) (eqb m d) ds rest (ap (eqb m) k) refl }

  pub fill_put_two : {s : Sort} (d : ℕ) (t : Term s) → Fills w d (flatten t) (flatten (put d v (put (suc d) a t)))
  fill_put_two d (var a') = var_two d a'
  fill_put_two d (truth a) = record { fills = λ ds rest. refl }
  fill_put_two d (num a) = record { fills = λ ds rest. refl }
  fill_put_two d (succ x) = record { fills = fill_1 _ (same (fill_put_two d x)) }
  fill_put_two d unit = record { fills = λ ds rest. refl }
  fill_put_two d (inst a) = record { fills = λ ds rest. refl }
  fill_put_two d (fn a x) = record { fills = fill_1 _ (more (fill_put_two (suc d) x)) }
  fill_put_two d (handler a x y) = record { fills = fill_2 _ (more (fill_put_two (suc d) x)) (same (fill_put_two d y)) }
  fill_put_two d (case a b x y z) = record { fills = fill_3 _ (same (fill_put_two d x)) (twice (fill_put_two (suc (suc d)) y)) (same (fill_put_two d z)) }
  fill_put_two d nil = record { fills = λ ds rest. refl }
  fill_put_two d (if x y z) = record { fills = fill_3 _ (same (fill_put_two d x)) (same (fill_put_two d y)) (same (fill_put_two d z)) }
  fill_put_two d (match x y z) = record { fills = fill_3 _ (same (fill_put_two d x)) (same (fill_put_two d y)) (more (fill_put_two (suc d) z)) }
  fill_put_two d (none_of x) = record { fills = fill_1 _ (same (fill_put_two d x)) }
  fill_put_two d (apply x y) = record { fills = fill_2 _ (same (fill_put_two d x)) (same (fill_put_two d y)) }
  fill_put_two d (val x) = record { fills = fill_1 _ (same (fill_put_two d x)) }
  fill_put_two d (call a b x y z) = record { fills = fill_3 _ (same (fill_put_two d x)) (same (fill_put_two d y)) (more (fill_put_two (suc d) z)) }
  fill_put_two d (bind x y) = record { fills = fill_2 _ (same (fill_put_two d x)) (more (fill_put_two (suc d) y)) }
  fill_put_two d (rec a x y) = record { fills = fill_2 _ (twice (fill_put_two (suc (suc d)) x)) (more (fill_put_two (suc d) y)) }
  fill_put_two d (handle x y) = record { fills = fill_2 _ (same (fill_put_two d x)) (same (fill_put_two d y)) }

-- a term has a first part
nonempty : {s : Sort} (t : Term s) → (q : Part) × (qs : List Part) × (q ∷ qs ≡ flatten t)
nonempty (var a) = (_, _, refl)
nonempty (truth a) = (_, _, refl)
nonempty (num a) = (_, _, refl)
nonempty (succ x) = (_, _, refl)
nonempty unit = (_, _, refl)
nonempty (inst a) = (_, _, refl)
nonempty (fn a x) = (_, _, refl)
nonempty (handler a x y) = (_, _, refl)
nonempty (case a b x y z) = (_, _, refl)
nonempty nil = (_, _, refl)
nonempty (if x y z) = (_, _, refl)
nonempty (match x y z) = (_, _, refl)
nonempty (none_of x) = (_, _, refl)
nonempty (apply x y) = (_, _, refl)
nonempty (val x) = (_, _, refl)
nonempty (call a b x y z) = (_, _, refl)
nonempty (bind x y) = (_, _, refl)
nonempty (rec a x y) = (_, _, refl)
nonempty (handle x y) = (_, _, refl)

-- what a copy holds, of parts that become others
holds_of : (w : Writing) (ps x x' rest : List Part) (was new : Writer) (d : ℕ) (r : Result (Bor (List Part)) Halt) → Fills w d x x'
    → ps ≡ x ++ rest → Copies w d ps was new r → Holds x' was new r
holds_of w ps x x' rest was new d (Ok left) f e c =
    record {
      whole = sym (append-nil (parts new)) ∙ sym (c.fills [])
          ∙ ap (λ l. parts was ++ l) (ap (λ l. fill w (d ∷ []) l) e ∙ f.fills [] rest ∙ append-nil x');
    }
holds_of w ps x x' rest was new d (Err Full) f e c =
    record { over = omega (arith, c.over [], ap length (ap (λ l. fill w (d ∷ []) l) e ∙ f.fills [] rest ∙ append-nil x')) }
holds_of w ps x x' rest was new d (Err Stuck) f e c = absurd c

pub puts : (value argument ps : List Part) (was new : Writer) (r : Result (Bor (List Part)) Halt) → Copies (written value argument) 0 ps was new r
    → Puts value argument ps was new r
puts value argument ps was new r c =
    record {
      one = λ t v rest j e k. holds_of (one (flatten v)) ps (flatten t) (flatten (put 0 v t)) rest was new 0 r (fill_put v 0 t) e
          (subst (λ (z : List Part). Copies (written z []) 0 ps was new r) k (subst (λ (z : List Part). Copies (written value z) 0 ps was new r) j c));
      two = λ t v a rest j e k.
          let n = nonempty a in
          holds_of (written (flatten v) (n.0 ∷ n.1)) ps (flatten t) (flatten (put 0 v (put 1 a t))) rest was new 0 r
          (fill_put_two v a n.0 n.1 n.2 0 t) e
          (subst (λ (z : List Part). Copies (written z (n.0 ∷ n.1)) 0 ps was new r) k
          (subst (λ (z : List Part). Copies (written value z) 0 ps was new r) (j ∙ sym n.2) c));
    }

-- what stands behind a copy
pub reaches : (w : Writing) (d : ℕ) (ps : List Part) (was new : Writer) (r : Result (Bor (List Part)) Halt) → Copies w d ps was new r → Reaches ps r
reaches w d ps was new (Ok left) c = record {
  behind = λ t after e.
      let n : length (flatten t) ≡ skip 1 ps = omega (arith, ap (skip 1) e, skip_flat t 0 after) in
      sym (c.passes 0) ∙ ap (drop (skip 1 ps)) e ∙ drop_at (flatten t) after (skip 1 ps) n;
}
reaches w d ps was new (Err h) c = tt

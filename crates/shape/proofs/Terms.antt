-- Terms and the places that their parts fill.
use Rattle.std.proofs.Common.{◌≡◌, ℕ, suc, ◌+◌, cond, List, [], ◌∷◌, ◌++◌, map, length, Some, None, Option, sym, refl, ap, ◌∙◌, append_assoc, arith, length-append, lt-ltb}
use Rattle.std.proofs.lemmas.List.{map-append}
use Rattle.eff.specs.Sorts.{Sort}
use Rattle.eff.specs.Syntax.{Term, var, truth, num, succ, unit, inst, fn, handler, case, nil, if, match, absurd as absurd_of, apply, val, call, bind, rec, handle, flatten}
use Rattle.eff.specs.declared.part.Part.{Part}
use Rattle.eff.specs.Scope.{Scoped}
use Rattle.shape.specs.Names.{names}
use Rattle.shape.specs.Entries.{Entry, written}
use Rattle.fault.specs.declared.shape.ShapeFault.{ShapeFault}
use Rattle.fault.specs.Search.{Verdict}
use Rattle.shape.specs.Answer.{Want, want, standing, noted, next, shape}

-- the verdict after an entry at this line in the place w, with these places below it
abbrev pub after : Option ℕ → Want → List Want → ℕ → List Entry → List Want → Verdict ShapeFault
after crowd w ws line es vs = shape (noted crowd w.names line) (vs ++ ws) (line + 1) es

-- the first crowded line after parts that stand under these numbers of names, the first part at this line
abbrev pub notes : Option ℕ → ℕ → List ℕ → Option ℕ
notes crowd line [] = crowd
notes crowd line (n ∷ ns) = notes (noted crowd n line) (line + 1) ns

notes_append : (crowd : Option ℕ) (line : ℕ) (xs ys : List ℕ) → notes crowd line (xs ++ ys) ≡ notes (notes crowd line xs) (line + length xs) ys
notes_append crowd line [] ys = ap (λ k. notes crowd k ys) (let q : line ≡ line + 0 = omega arith in q)
notes_append crowd line (x ∷ xs) ys =
    notes_append (noted crowd x line) (line + 1) xs ys
    ∙ ap (λ k. notes (notes (noted crowd x line) (line + 1) xs) k ys) (let q : line + 1 + length xs ≡ line + suc (length xs) = omega arith in q)

-- Parts x, which stand under these numbers of names, fill these places.
pub record Fills (vs : List Want) (x : List Part) (ns : List ℕ) : Type 0 where
  pub long : length ns ≡ length x
  pub passed : (crowd : Option ℕ) (line : ℕ) (ws : List Want) (rest : List Entry)
      → shape crowd (vs ++ ws) line (map written x ++ rest) ≡ shape (notes crowd line ns) ws (line + length x) rest

none : Fills [] [] []
none = record { long = refl; passed = λ crowd line ws rest. ap (λ k. shape crowd ws k rest) (let q : line ≡ line + 0 = omega arith in q) }

also : {w : Want} {vs : List Want} {x y : List Part} {ms ns : List ℕ} → Fills (w ∷ []) x ms → Fills vs y ns → Fills (w ∷ vs) (x ++ y) (ms ++ ns)
also {w} {vs} {x} {y} {ms} {ns} f g =
    record {
      long = omega (arith, length-append ms ns, length-append x y, f.long, g.long);
      passed = λ crowd line ws rest.
          ap (λ es. shape crowd (w ∷ vs ++ ws) line es) (ap (λ es. es ++ rest) (map-append written x y) ∙ append_assoc (map written x) (map written y) rest)
          ∙ f.passed crowd line (vs ++ ws) (map written y ++ rest)
          ∙ g.passed (notes crowd line ms) (line + length x) ws rest
          ∙ ap (λ k. shape (notes (notes crowd line ms) k ns) ws (line + length x + length y) rest) (let q : line + length x ≡ line + length ms = omega (arith, f.long) in q)
          ∙ ap (λ o. shape o ws (line + length x + length y) rest) (sym (notes_append crowd line ms ns))
          ∙ ap (λ k. shape (notes crowd line (ms ++ ns)) ws k rest) (let q : line + length x + length y ≡ line + length (x ++ y) = omega (arith, length-append x y) in q);
    }

part : {w : Want} {p : Part} {vs : List Want} {x : List Part} {ns : List ℕ} → standing w (written p) ≡ Some vs → Fills vs x ns → Fills (w ∷ []) (p ∷ x) (w.names ∷ ns)
part {w} {p} {vs} {x} {ns} e f =
    record {
      long = ap suc f.long;
      passed = λ crowd line ws rest.
          ap (λ o. next o line (after crowd w ws line (map written x ++ rest))) e
          ∙ f.passed (noted crowd w.names line) (line + 1) ws rest
          ∙ ap (λ k. shape (notes (noted crowd w.names line) (line + 1) ns) ws k rest) (let q : line + 1 + length x ≡ line + suc (length x) = omega arith in q);
    }

-- the parts of a closed term fill its place
pub fills : {s : Sort} (n : ℕ) (t : Term s) → Scoped n t → Fills (want s n ∷ []) (flatten t) (names n t)
fills n (var place) u = part (ap (λ b. cond b (Some []) None) (lt-ltb place n u)) none
fills n (truth b) u = part refl none
fills n (num m) u = part refl none
fills n (succ e) u = part refl (fills n e u)
fills n unit u = part refl none
fills n (inst i) u = part refl none
fills n (fn a c) u = part refl (fills (suc n) c u)
fills n (handler a c cs) u = part refl (also (fills (suc n) c u.0) (fills n cs u.1))
fills n (case e op i c cs) u = part refl (also (fills n i u.0) (also (fills (suc (suc n)) c u.1) (fills n cs u.2)))
fills n nil u = part refl none
fills n (if e c d) u = part refl (also (fills n e u.0) (also (fills n c u.1) (fills n d u.2)))
fills n (match e c d) u = part refl (also (fills n e u.0) (also (fills n c u.1) (fills (suc n) d u.2)))
fills n (absurd_of e) u = part refl (fills n e u)
fills n (apply e f) u = part refl (also (fills n e u.0) (fills n f u.1))
fills n (val e) u = part refl (fills n e u)
fills n (call e op i w c) u = part refl (also (fills n i u.0) (also (fills n w u.1) (fills (suc n) c u.2)))
fills n (bind c d) u = part refl (also (fills n c u.0) (fills (suc n) d u.1))
fills n (rec a c d) u = part refl (also (fills (suc (suc n)) c u.0) (fills (suc n) d u.1))
fills n (handle e c) u = part refl (also (fills n e u.0) (fills n c u.1))

-- A copy with parts written in goes on part by part.
use Rattle.std.proofs.Common.{◌≡◌, ℕ, suc, ◌+◌, ◌<◌, ◌≤◌, Bool, true, false, cond, ◌&&◌, eqb, List, [], ◌∷◌, ◌++◌, map, length, get_or, drop, Some, None, Option, Err, sym, refl, ap, ◌∙◌, subst, append_assoc, append-nil, arith, length-append}
use Rattle.std.proofs.lemmas.List.{length-map, drop_more, drop_all}
use Rattle.eff.specs.Kinds.{number}
use Rattle.eff.specs.declared.part.Part.{Part}
use Rattle.eff.specs.declared.kind.Kind.{Kind}
use Rattle.eff.specs.declared.kind.Kind.TheVariants as k
use Rattle.eff.specs.Kinds.{names}
use Rattle.step.specs.Walk.{skip}
use Rattle.step.specs.declared.halt.Halt.{Halt}
use Rattle.step.specs.declared.halt.Halt.TheVariants.{Stuck, Full}
use Rattle.step.specs.declared.write.Writer.{Writer}
use Rattle.step.specs.Written.{parts, Kept, Held, Over}
use Rattle.step.specs.Fill.{Writing, fill, is_name, is_beyond, one, written}
use Rattle.step.specs.Copies.{Copied, Short, Copies}
use Rattle.step.proofs.Writing.{size}

-- what stands behind the first terms, a part on
skip_part : (p : Part) (ps : List Part) (us : List ℕ) (n : ℕ) → us ≡ names p.kind → drop (skip (1 + n) (p ∷ ps)) (p ∷ ps) ≡ drop (skip (length us + n) ps) ps
skip_part p ps us n e =
    let k : 1 + n ≡ suc n = omega arith in
    let m : 1 + skip (length (names p.kind) + n) ps ≡ suc (skip (length (names p.kind) + n) ps) = omega arith in
    ap (λ i. drop (skip i (p ∷ ps)) (p ∷ ps)) k ∙ ap (λ i. drop i (p ∷ ps)) m ∙ ap (λ (l : List ℕ). drop (skip (length l + n) ps) ps) (sym e)

-- one part: what is written in for it, or itself and its children
abbrev step_on : Writing → ℕ → List ℕ → Part → List Part → Option (List Part) → List Part
step_on w d fs p ps (Some v) = v ++ fill w fs ps
step_on w d fs p ps None = p ∷ fill w (map (λ b. d + b) (names p.kind) ++ fs) ps

fill_on : (w : Writing) (p : Part) (ps : List Part) (d : ℕ) (fs : List ℕ) → fill w (d ∷ fs) (p ∷ ps) ≡ step_on w d fs p ps (w d p)
fill_on w p ps d fs = on (w d p)
  where
    on : (o : Option (List Part)) → elim o [ Some v ↦ v ++ fill w fs ps | None ↦ p ∷ fill w (map (λ b. d + b) (names p.kind) ++ fs) ps ] ≡ step_on w d fs p ps o
    on (Some v) = refl
    on None = refl

fill_some : (w : Writing) (p : Part) (ps v : List Part) (d : ℕ) (fs : List ℕ) → w d p ≡ Some v → fill w (d ∷ fs) (p ∷ ps) ≡ v ++ fill w fs ps
fill_some w p ps v d fs e = fill_on w p ps d fs ∙ ap (λ o. step_on w d fs p ps o) e

fill_none : (w : Writing) (p : Part) (ps : List Part) (us : List ℕ) (d : ℕ) (fs : List ℕ) → w d p ≡ None → us ≡ names p.kind
    → fill w (d ∷ fs) (p ∷ ps) ≡ p ∷ fill w (map (λ b. d + b) us ++ fs) ps
fill_none w p ps us d fs e u = rw u (fill_on w p ps d fs ∙ ap (λ o. step_on w d fs p ps o) e)

-- a part for which v is written
pub copied_some : {w : Writing} {p : Part} {ps v : List Part} {was new : Writer} {d : ℕ} → w d p ≡ Some v → [] ≡ names p.kind → Held v was new
    → Copied w (d ∷ []) [] (p ∷ ps) ps was new
copied_some {w} {p} {ps} {v} {was} {new} {d} e leaf g = record {
  inside = omega arith;
  passes = λ j. skip_part p ps [] j leaf;
  fills = λ fs. ap (λ l. parts was ++ l) (fill_some w p ps v d fs e) ∙ sym (append_assoc (parts was) v (fill w fs ps)) ∙ ap (λ l. l ++ fill w fs ps) (sym g.whole);
}

pub short_some : {w : Writing} {p : Part} {ps v : List Part} {was : Writer} {d : ℕ} → w d p ≡ Some v → Over v was → Short w d (p ∷ ps) was
short_some {w} {p} {ps} {v} {was} {d} e g = record { over = λ fs. rw (fill_some w p ps v d fs e, length-append) (omega (arith, g.over)) }

-- one more child
pub copied_more : (items : List ℕ) (d i : ℕ) {w : Writing} {ps mid rest : List Part} {was on new : Writer} {us : List ℕ} → i < length items
    → Copied w us (map (λ b. d + b) (drop i items)) ps mid was on
    → Copied w ((d + get_or items i 0) ∷ []) [] mid rest on new
    → Copied w us (map (λ b. d + b) (drop (i + 1) items)) ps rest was new
copied_more items d i {w} {ps} {mid} {rest} {was} {on} {new} {us} h a b =
    record {
      inside = omega (arith, a.inside, b.inside);
      passes = λ j.
          let l : ℕ = length (map (λ b. d + b) (drop (i + 1) items)) in
          let z : length (map (λ b. d + b) (drop i items)) + j ≡ 1 + (l + j) =
          omega (arith, ap (λ (x : List ℕ). length (map (λ b. d + b) x)) (drop_more items i 0 h)) in
          let y : 0 + (l + j) ≡ l + j = omega arith in
          a.passes j ∙ ap (λ i. drop (skip i mid) mid) z ∙ b.passes (l + j) ∙ ap (λ i. drop (skip i rest) rest) y;
      fills = λ fs.
          a.fills fs
          ∙ ap (λ l. parts on ++ fill w (map (λ b. d + b) l ++ fs) mid) (drop_more items i 0 h)
          ∙ b.fills (map (λ b. d + b) (drop (i + 1) items) ++ fs);
    }

-- the part itself, before its children
pub copied_part : {w : Writing} {p : Part} {ps rest : List Part} {was mid new : Writer} {us es : List ℕ} {d : ℕ} → w d p ≡ None → us ≡ names p.kind
    → Held (p ∷ []) was mid → Copied w (map (λ b. d + b) us) es ps rest mid new → Copied w (d ∷ []) es (p ∷ ps) rest was new
copied_part {w} {p} {ps} {rest} {was} {mid} {new} {us} {es} {d} e u g a = record {
  inside = omega (arith, a.inside);
  passes = λ j.
      let z : length us + j ≡ length (map (λ b. d + b) us) + j = omega (arith, length-map us (λ b. d + b)) in
      skip_part p ps us j u ∙ ap (λ i. drop (skip i ps) ps) z ∙ a.passes j;
  fills = λ fs.
      ap (λ l. parts was ++ l) (fill_none w p ps us d fs e u)
      ∙ sym (append_assoc (parts was) (p ∷ []) (fill w (map (λ b. d + b) us ++ fs) ps))
      ∙ ap (λ l. l ++ fill w (map (λ b. d + b) us ++ fs) ps) (sym g.whole)
      ∙ a.fills fs;
}

-- where a child has no room, the whole has none
pub short_child : (items : List ℕ) (e i : ℕ) {w : Writing} {ps rest : List Part} {was mid : Writer} {d : ℕ} → i < length items → Kept was mid
    → Copied w (d ∷ []) (map (λ b. e + b) (drop i items)) ps rest was mid
    → Short w (e + get_or items i 0) rest mid
    → Short w d ps was
short_child items e i {w} {ps} {rest} {was} {mid} {d} h kept a f = record {
  over = λ fs.
      let es : List ℕ = map (λ b. e + b) (drop (i + 1) items) ++ fs in
      let q = a.fills fs ∙ ap (λ l. parts mid ++ fill w (map (λ b. e + b) l ++ fs) rest) (drop_more items i 0 h) in
      omega (
        arith,
        f.over es,
        length-append (parts was) (fill w (d ∷ fs) ps),
        length-append (parts mid) (fill w ((e + get_or items i 0) ∷ es) rest),
        ap length q,
        size was,
        size mid,
        kept.size,
      );
}

-- after the last child
pub copied_all : (items : List ℕ) (d i : ℕ) {w : Writing} {ps rest : List Part} {was new : Writer} {us : List ℕ} → length items ≤ i
    → Copied w us (map (λ b. d + b) (drop i items)) ps rest was new → Copied w us [] ps rest was new
copied_all items d i {w} {ps} {rest} {was} {new} {us} h a =
    subst (λ (l : List ℕ). Copied w us (map (λ b. d + b) l) ps rest was new) (drop_all i items h) a

-- the copy of a whole list of parts
pub all_held : {w : Writing} {ps rest : List Part} {was new : Writer} {d : ℕ} → Copied w (d ∷ []) [] ps rest was new → Held (fill w (d ∷ []) ps) was new
all_held {w} {ps} {rest} {was} {new} c = record { whole = sym (append-nil (parts new)) ∙ sym (c.fills []) }

pub all_over : {w : Writing} {ps : List Part} {was : Writer} {d : ℕ} → Short w d ps was → Over (fill w (d ∷ []) ps) was
all_over s = record { over = s.over [] }

-- where what is copied first has no room
pub short_copy : (e : Halt) {w w' : Writing} {ps ps' : List Part} {was was' : Writer} {d d' : ℕ} (mid new : Writer) → (Short w' d' ps' was' → Short w d ps was)
    → Copies w' d' ps' was' mid (Err e) → Copies w d ps was new (Err e)
short_copy Full mid new f h = f h
short_copy Stuck mid new f h = absurd h

-- what is written in for a part
pub at_beyond : (v arg : List Part) (d : ℕ) (p : Part) → is_beyond arg d p ≡ true → written v arg d p ≡ Some (fill (written v []) (d ∷ []) arg)
at_beyond v arg d p e = ap (λ b. cond b (Some (fill (one v) (d ∷ []) arg)) (one v d p)) e

pub at_latest : (v arg : List Part) (d : ℕ) (p : Part) → is_beyond arg d p ≡ false → is_name d p ≡ true → written v arg d p ≡ Some v
at_latest v arg d p f e = ap (λ b. cond b (Some (fill (one v) (d ∷ []) arg)) (one v d p)) f ∙ ap (λ b. cond b (Some v) None) e

pub at_other : (v arg : List Part) (d : ℕ) (p : Part) → is_beyond arg d p ≡ false → is_name d p ≡ false → written v arg d p ≡ None
at_other v arg d p f e = ap (λ b. cond b (Some (fill (one v) (d ∷ []) arg)) (one v d p)) f ∙ ap (λ b. cond b (Some v) None) e

-- a name has no children
kind_leaf : (j : Kind) (b : Bool) → (eqb (number j) 0 && b) ≡ true → [] ≡ names j
kind_leaf k.Variable b e = refl
kind_leaf k.Truth b e = let z : ◌≡◌ {A = ℕ} 0 1 = cc in absurd (omega arith)
kind_leaf k.Numeral b e = let z : ◌≡◌ {A = ℕ} 0 1 = cc in absurd (omega arith)
kind_leaf k.Successor b e = let z : ◌≡◌ {A = ℕ} 0 1 = cc in absurd (omega arith)
kind_leaf k.Unit b e = let z : ◌≡◌ {A = ℕ} 0 1 = cc in absurd (omega arith)
kind_leaf k.Instance b e = let z : ◌≡◌ {A = ℕ} 0 1 = cc in absurd (omega arith)
kind_leaf k.Function b e = let z : ◌≡◌ {A = ℕ} 0 1 = cc in absurd (omega arith)
kind_leaf k.Handler b e = let z : ◌≡◌ {A = ℕ} 0 1 = cc in absurd (omega arith)
kind_leaf k.Case b e = let z : ◌≡◌ {A = ℕ} 0 1 = cc in absurd (omega arith)
kind_leaf k.Nil b e = let z : ◌≡◌ {A = ℕ} 0 1 = cc in absurd (omega arith)
kind_leaf k.If b e = let z : ◌≡◌ {A = ℕ} 0 1 = cc in absurd (omega arith)
kind_leaf k.Match b e = let z : ◌≡◌ {A = ℕ} 0 1 = cc in absurd (omega arith)
kind_leaf k.Absurd b e = let z : ◌≡◌ {A = ℕ} 0 1 = cc in absurd (omega arith)
kind_leaf k.Apply b e = let z : ◌≡◌ {A = ℕ} 0 1 = cc in absurd (omega arith)
kind_leaf k.Val b e = let z : ◌≡◌ {A = ℕ} 0 1 = cc in absurd (omega arith)
kind_leaf k.Call b e = let z : ◌≡◌ {A = ℕ} 0 1 = cc in absurd (omega arith)
kind_leaf k.Let b e = let z : ◌≡◌ {A = ℕ} 0 1 = cc in absurd (omega arith)
kind_leaf k.LetRec b e = let z : ◌≡◌ {A = ℕ} 0 1 = cc in absurd (omega arith)
kind_leaf k.With b e = let z : ◌≡◌ {A = ℕ} 0 1 = cc in absurd (omega arith)

pub name_leaf : (d : ℕ) (p : Part) → is_name d p ≡ true → [] ≡ names p.kind
name_leaf d p e = kind_leaf p.kind (eqb p.a d) e

pub beyond_leaf : (arg : List Part) (d : ℕ) (p : Part) → is_beyond arg d p ≡ true → [] ≡ names p.kind
beyond_leaf [] d p e = let z : ◌≡◌ {A = ℕ} 0 1 = cc in absurd (omega arith)
beyond_leaf (q ∷ qs) d p e = name_leaf (d + 1) p e

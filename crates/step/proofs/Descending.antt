-- The way down to the redex, let by let and with by with.
use Rattle.std.proofs.Common.{◌≡◌, ◌⊎◌, inl, inr, ◌-◌, ◌≤◌, List, [], ◌∷◌, ◌++◌, length, get_or, take, drop, Some, None, sym, refl, ap, ◌∙◌, subst, append_assoc, append-nil, arith, length-append}
use Rattle.std.specs.Borrow.{Bor}
use Rattle.std.proofs.lemmas.List.{take_at, drop_at}
use Rattle.eff.specs.Sorts.{expr, comp}
use Rattle.eff.specs.Syntax.{head, Term, var, truth, num, succ, unit, inst, fn, handler, if, match, absurd as none_of, apply, val, call, bind, rec, handle, flatten, part}
use Rattle.eff.specs.Tables.{Tables}
use Rattle.eff.specs.Outcome.{next, in_let, in_with}
use Rattle.eff.specs.declared.kind.Kind.{Kind}
use Rattle.eff.specs.declared.kind.Kind.TheVariants as k
use Rattle.eff.specs.declared.part.Part.{Part}
use Rattle.step.specs.Walk.{Behind}
use Rattle.step.specs.Rewrites.{Rests, ready}
use Rattle.step.specs.Spine.{Busy, Carries, Within, Inside, Deeper, Redex, Leads}
use Rattle.step.proofs.Skipping.{blank}
use Rattle.step.proofs.Shapes.{Computation, computation, here, alike, is_computation, kind_at, inside as there_is, bind_in, handle_in}
use Rattle.step.proofs.Rules.{with_stuck}

-- a let, and a with, around a computation
let_carries : (c d : Term comp) → Carries (bind c d) c (part k.Let 0 0 ∷ []) (flatten d)
let_carries c d = record {
  next_on = λ T b e. (bind b d, ap (in_let d) e, refl);
  stuck_on = λ T e. ap (in_let d) e;
}

with_next : (T : Tables) (h : Term expr) (b : Term comp) → in_with T h (next b) ≡ next (handle h b)
with_next T (truth x) b = refl
with_next T (var x) b = refl
with_next T (num x) b = refl
with_next T (succ x) b = refl
with_next T unit b = refl
with_next T (inst j) b = refl
with_next T (fn a x) b = refl
with_next T (handler a x cs) b = refl

with_carries : (h : Term expr) (c : Term comp) → Carries (handle h c) c (part k.With 0 0 ∷ flatten h) []
with_carries h c = record {
  next_on = λ T b e. (handle h b, ap (in_with T h) e ∙ with_next T h b, ap (λ l. part k.With 0 0 ∷ (flatten h ++ l)) (sym (append-nil (flatten b))));
  stuck_on = λ T e. ap (in_with T h) e ∙ with_stuck T h;
}

pub let_inside : {ps : List Part} {inner : Bor (List Part)} → (get_or ps 0 blank).kind ≡ k.Let → inner.now ≡ drop 1 ps → Inside ps (Some inner)
let_inside {ps} {inner} kind q = record {
  inside = λ u rest e.
      let i = is_computation (here ps 0 u rest e) kind in
      let t = alike i.2 (here ps 0 u rest e) in
      let c = q ∙ (bind_in t).there in
      subst (λ (z : Term comp). Within ps inner.now z rest) (sym i.2) (record {
        w = i.0;
        before = part k.Let 0 0 ∷ [];
        behind = flatten i.1;
        there = c;
        first = t.there ∙ ap (λ l. part k.Let 0 0 ∷ l) (append_assoc (flatten i.0) (flatten i.1) rest ∙ sym c);
        carries = let_carries i.0 i.1;
        rests = λ T p. p;
      });
}

pub with_inside : {ps one : List Part} {inner : Bor (List Part)} → (get_or ps 0 blank).kind ≡ k.With → one ≡ drop 1 ps → Behind one inner.now → Inside ps (Some inner)
with_inside {ps} {one} {inner} kind q f = record {
  inside = λ u rest e.
      let i = is_computation (here ps 0 u rest e) kind in
      let t = alike i.2 (here ps 0 u rest e) in
      let c = f.behind i.0 (flatten i.1 ++ rest) (q ∙ (handle_in t).there) in
      subst (λ (z : Term comp). Within ps inner.now z rest) (sym i.2) (record {
        w = i.1;
        before = part k.With 0 0 ∷ flatten i.0;
        behind = [];
        there = c;
        first = t.there ∙ ap (λ l. part k.With 0 0 ∷ l) (append_assoc (flatten i.0) (flatten i.1) rest ∙ ap (λ l. flatten i.0 ++ l) (sym c));
        carries = with_carries i.0 i.1;
        rests = λ T p. p;
      });
}

pub in_none : {ps : List Part} → ((get_or ps 0 blank).kind ≡ k.Let → ⊥) → ((get_or ps 0 blank).kind ≡ k.With → ⊥) → Inside ps None
in_none {ps} n m = record {
  inside = λ u rest e T.
      let q = kind_at (here ps 0 u rest e) in
      no u T (λ z. n (q ∙ z)) (λ z. m (q ∙ z));
}
  where
    no : (u : Term comp) (T : Tables) → ((head u).kind ≡ k.Let → ⊥) → ((head u).kind ≡ k.With → ⊥) → ready T u
    no (if e c d) T n m = tt
    no (match e c d) T n m = tt
    no (none_of e) T n m = tt
    no (apply e f) T n m = tt
    no (val v) T n m = tt
    no (call e op x v c) T n m = tt
    no (bind c d) T n m = absurd (n refl)
    no (rec a c d) T n m = tt
    no (handle h c) T n m = absurd (m refl)

-- a computation that is no val and no call
pub busy : (c : Term comp) → ((head c).kind ≡ k.Val → ⊥) → ((head c).kind ≡ k.Call → ⊥) → Busy c
busy (if e c d) n m p = p
busy (match e c d) n m p = p
busy (none_of e) n m p = p
busy (apply e f) n m p = p
busy (val v) n m p = n refl
busy (call e op x v c) n m p = m refl
busy (bind c d) n m p = p
busy (rec a c d) n m p = p
busy (handle h c) n m p = p

val_rests : (c : Term comp) → (head c).kind ≡ k.Val → Rests c
val_rests c e =
    let i = subst (λ (k : Kind). Computation k c) e (computation c) in
    subst (λ (z : Term comp). Rests z) (sym i.1) tt

call_rests : (c : Term comp) → (head c).kind ≡ k.Call → Rests c
call_rests c e =
    let i = subst (λ (k : Kind). Computation k c) e (computation c) in
    subst (λ (z : Term comp). Rests z) (sym i.5) tt

-- where the computation inside rests, or takes a step of its own
pub in_past : {ps : List Part} → length ps ≤ 0 → Inside ps None
in_past {ps} l = record { inside = λ u rest e T. absurd (omega (arith, there_is (here ps 0 u rest e))) }

pub deep_past : {ps : List Part} {inner : Bor (List Part)} → Inside ps (Some inner) → length inner.now ≤ 0 → Deeper ps None
deep_past {ps} {inner} f l = record {
  deeper = λ u rest e T.
      let d = f.inside u rest e in
      absurd (omega (arith, there_is (here inner.now 0 d.w (d.behind ++ rest) d.there)));
}

pub deep_rests : {ps : List Part} {inner : Bor (List Part)} → Inside ps (Some inner) → ((get_or inner.now 0 blank).kind ≡ k.Val) ⊎ ((get_or inner.now 0 blank).kind ≡ k.Call)
    → Deeper ps None
deep_rests {ps} {inner} f kind = record {
  deeper = λ u rest e T.
      let d = f.inside u rest e in
      let q = sym (kind_at (here inner.now 0 d.w (d.behind ++ rest) d.there)) in
      d.rests T (elim kind [ inl v ↦ val_rests d.w (q ∙ v) | inr c ↦ call_rests d.w (q ∙ c) ]);
}

pub deep_some : {ps : List Part} {inner : Bor (List Part)} → Inside ps (Some inner) → ((get_or inner.now 0 blank).kind ≡ k.Val → ⊥)
    → ((get_or inner.now 0 blank).kind ≡ k.Call → ⊥) → Deeper ps (Some inner)
deep_some {ps} {inner} f l m = record {
  deeper = λ u rest e.
      let d = f.inside u rest e in
      let q = kind_at (here inner.now 0 d.w (d.behind ++ rest) d.there) in
      (d, busy d.w (λ z. l (q ∙ z)) (λ z. m (q ∙ z)));
}

-- the way so far: what stands before the rest, and the redex that opens it or stands further inside
pub record Reaches (ps rest : List Part) : Type 0 where
  pub reaches : (t : Term comp) → ps ≡ flatten t → Busy t → (before : List Part) × (ps ≡ before ++ rest) × Redex before rest t

carries_on : (front before behind rest : List Part) (t u w : Term comp) → Carries t u front rest → Carries u w before behind → Carries t w (front ++ before) (behind ++ rest)
carries_on front before behind rest t u w c d = record {
  next_on = λ T b q.
      let x = d.next_on T b q in
      let y = c.next_on T x.0 x.1 in
      (y.0, y.1, y.2 ∙ ap (λ l. front ++ (l ++ rest)) x.2 ∙ regroup (flatten b));
  stuck_on = λ T q. c.stuck_on T (d.stuck_on T q);
}
  where
    regroup : (b : List Part) → front ++ ((before ++ (b ++ behind)) ++ rest) ≡ (front ++ before) ++ (b ++ (behind ++ rest))
    regroup b = simp append_assoc

pub goes_on : {ps rest : List Part} {inner : Bor (List Part)} → Deeper rest (Some inner) → Reaches ps rest → Reaches ps inner.now
goes_on {ps} {rest} {inner} f r = record {
  reaches = λ t e b.
      let d = r.reaches t e b in
      let x = f.deeper d.2.u d.2.behind d.2.there in (
        d.0 ++ x.0.before,
        d.1 ∙ ap (λ l. d.0 ++ l) x.0.first ∙ sym (append_assoc d.0 x.0.before inner.now),
        record {
          u = x.0.w;
          behind = x.0.behind ++ d.2.behind;
          there = x.0.there;
          busy = x.1;
          carries = carries_on d.0 x.0.before x.0.behind d.2.behind t d.2.u x.0.w d.2.carries x.0.carries;
        },
      );
}

pub arrives : {ps rest front back : List Part} → Deeper rest None → Reaches ps rest → front ≡ take (length ps - length rest) ps → back ≡ drop (length ps - length rest) ps
    → Leads ps front back
arrives {ps} {rest} {front} {back} f r p q = record {
  leads = λ t e b.
      let d = r.reaches t e b in
      let n : length ps - length rest ≡ length d.0 = omega (arith, ap length d.1, length-append d.0 rest) in
      let front_is : front ≡ d.0 = p ∙ ap (take (length ps - length rest)) d.1 ∙ take_at d.0 rest (length ps - length rest) (sym n) in
      let back_is : back ≡ rest = q ∙ ap (drop (length ps - length rest)) d.1 ∙ drop_at d.0 rest (length ps - length rest) (sym n) in (
        record {
          u = d.2.u;
          behind = d.2.behind;
          there = back_is ∙ d.2.there;
          busy = d.2.busy;
          carries = subst (λ (l : List Part). Carries t d.2.u l d.2.behind) (sym front_is) d.2.carries;
        },
        f.deeper d.2.u d.2.behind d.2.there,
      );
}

-- The rules, by the parts of their redexes.
use Rattle.std.proofs.Common.{◌≡◌, ℕ, zero, suc, ◌-◌, ◌<◌, Bool, true, false, cond, List, [], ◌∷◌, ◌++◌, length, get_or, take, drop, Some, None, Option, Ok, Err, Result, sym, refl, ap, ap₂, ◌∙◌, subst, append_assoc, append-nil, arith, length-append}
use Rattle.std.specs.Borrow.{Bor}
use Rattle.std.proofs.lemmas.List.{take_at}
use Rattle.eff.specs.Sorts.{Sort, expr, list, comp}
use Rattle.eff.specs.Syntax.{head, Term, var, truth, num, succ, unit, inst, fn, handler, if, match, absurd as none_of, apply, val, call, bind, rec, handle, flatten, put, digit, part}
use Rattle.eff.specs.Tables.{Tables, gives, argument}
use Rattle.eff.specs.Outcome.{Outcome, next, stuck, step, on_if, on_match, on_apply, on_call, in_let, off, in_with, first, answer}
use Rattle.eff.specs.declared.kind.Kind.{Kind}
use Rattle.eff.specs.declared.kind.Kind.TheVariants as k
use Rattle.eff.specs.declared.part.Part.{Part}
use Rattle.step.specs.declared.halt.Halt.{Halt}
use Rattle.step.specs.declared.halt.Halt.TheVariants.{Stuck, Full}
use Rattle.step.specs.declared.write.Writer.{Writer}
use Rattle.step.specs.Walk.{Behind, Splits}
use Rattle.step.specs.Written.{parts, Holds}
use Rattle.step.specs.Puts.{Puts, Reaches}
use Rattle.step.specs.Cases.{Found, Finds}
use Rattle.step.specs.Rewrites.{Rewrites, Asked, any, Rests, ready, under, prepared, Rewriting, Passes, WithCall, WithCase, opening, RewritingAll}
use Rattle.step.proofs.Skipping.{blank}
use Rattle.step.proofs.Shapes.{Computation, computation, Here, here, alike, is_computation, is_expression, first_at, kind_at, behind_leaf, two_on, inside, inside_two, succ_in, fn_in, handler_in, if_in, match_in, apply_in, val_in, call_in, bind_in, rec_in, handle_in}

-- what is told is what stands behind the redex, and what stands for it is written, or has no room
abbrev pub settled : {A : Type 0} → Bor (List Part) → Result A Halt → Result (Bor (List Part)) Halt
settled left (Ok a) = Ok left
settled left (Err h) = Err h

-- what is written, and what stands behind the redex, are the next computation and what stood behind it
settle_next : {A : Type 0} (b : Term comp) (out rest : List Part) (was new : Writer) (left : Bor (List Part)) (r : Result A Halt) → out ++ left.now ≡ flatten b ++ rest
    → Holds out was new r → Rewrites (next b) rest was new (settled left r)
settle_next b out rest was new left (Ok a) e h =
    record {
      whole = ap (λ l. l ++ left.now) h.whole ∙ append_assoc (parts was) out left.now ∙ ap (λ l. parts was ++ l) e;
    }
settle_next b out rest was new left (Err Full) e h =
    record { over = omega (arith, h.over, ap length e, length-append out left.now, length-append (flatten b) rest) }
settle_next b out rest was new left (Err Stuck) e h = absurd h

-- what is written is the next computation
settle_put : {A : Type 0} (b : Term comp) (rest : List Part) (was new : Writer) (left : Bor (List Part)) (r : Result A Halt) → left.now ≡ rest
    → Holds (flatten b) was new r → Rewrites (next b) rest was new (settled left r)
settle_put b rest was new left r e h = settle_next b (flatten b) rest was new left r (ap (λ l. flatten b ++ l) e) h

-- the same where the body d that is written stands last in the redex
settle_body : {s : Sort} (b : Term comp) (d : Term s) (rest : List Part) (was new : Writer) (r : Result (Bor (List Part)) Halt) {source : List Part} → Reaches source r
    → source ≡ flatten d ++ rest → Holds (flatten b) was new r → Rewrites (next b) rest was new r
settle_body b d rest was new (Ok left) e q h = settle_put b rest was new left (Ok left) (e.behind d rest q) h
settle_body b d rest was new (Err Full) e q h = record { over = omega (arith, h.over, length-append (flatten b) rest) }
settle_body b d rest was new (Err Stuck) e q h = absurd h

-- a redex of the kind k, by its rule
of_kind : (k : Kind) {P : Asked} {ps : List Part} {was new : Writer} {r : Result (Bor (List Part)) Halt}
    → ((T : Tables) (u : Term comp) (rest : List Part) → Computation k u → Here ps 0 u rest → P T u → Rewrites (step T u) rest was new r)
    → Rewriting k P ps was new r
of_kind k {P} {ps} {was} {new} f =
    record { rule = λ T u rest h e p. f T u rest (subst (λ (k : Kind). Computation k u) h (computation u)) (here ps 0 u rest e) p }

-- the same outcome for an equal computation
same_step : {u u' : Term comp} (T : Tables) (rest : List Part) (was new : Writer) (r : Result (Bor (List Part)) Halt) → u ≡ u' → Rewrites (step T u') rest was new r
    → Rewrites (step T u) rest was new r
same_step T rest was new r e h = subst (λ (z : Term comp). Rewrites (step T z) rest was new r) (sym e) h

-- if
pub no_if : {ps : List Part} {was new : Writer} → ((get_or ps 1 blank).kind ≡ k.Truth → ⊥) → Rewriting k.If any ps was new (Err Stuck)
no_if {ps} {was} {new} n =
    of_kind k.If (λ T u rest i h p.
    let e = if_in (alike i.3 h) in
    same_step T rest was new (Err Stuck) i.3 (no i.0 i.1 i.2 rest (λ z. n (kind_at e ∙ z))))
  where
    no : (e : Term expr) (c d : Term comp) (rest : List Part) → ((head e).kind ≡ k.Truth → ⊥) → Rewrites (on_if e c d) rest was new (Err Stuck)
    no (truth b) c d rest n = absurd (n refl)
    no (var x) c d rest n = tt
    no (num x) c d rest n = tt
    no (succ x) c d rest n = tt
    no unit c d rest n = tt
    no (inst i) c d rest n = tt
    no (fn a x) c d rest n = tt
    no (handler a x cs) c d rest n = tt

pub is_false : (b : Bool) → digit b ≡ 0 → b ≡ false
is_false true h = absurd (omega arith)
is_false false h = refl

pub is_true : (b : Bool) → (digit b ≡ 0 → ⊥) → b ≡ true
is_true true h = refl
is_true false h = absurd (h refl)

pub a_at : {s : Sort} {ps rest : List Part} {at : ℕ} {t : Term s} → Here ps at t rest → (get_or ps at blank).a ≡ (head t).a
a_at h = ap (λ (p : Part). p.a) (first_at h)

pub b_at : {s : Sort} {ps rest : List Part} {at : ℕ} {t : Term s} → Here ps at t rest → (get_or ps at blank).b ≡ (head t).b
b_at h = ap (λ (p : Part). p.b) (first_at h)

-- b is the truth that is tested
pub if_truth : {ps two first left second out : List Part} {was new : Writer} (behind : Bor (List Part)) (r : Result (Unit {0}) Halt) (b : Bool) → (get_or ps 1 blank).kind ≡ k.Truth
    → ((j : Bool) → (get_or ps 1 blank).a ≡ digit j → j ≡ b) → two ≡ drop 2 ps → Splits two first left → Splits left second behind.now
    → out ≡ cond b first second → Holds out was new r → Rewriting k.If any ps was new (settled behind r)
if_truth {ps} {two} {first} {left} {second} {out} {was} {new} behind r b kind n q f g o held =
    of_kind k.If (λ T u rest i h p.
    let e = if_in (alike i.3 h) in
    let j = is_expression e kind in
    let t = alike j.1 e in
    let c = f.splits i.1 _ (q ∙ (two_on 0 (behind_leaf i.1 (flatten i.2 ++ rest) t refl)).there) in
    let d = g.splits i.2 rest c.1 in
    same_step T rest was new (settled behind r) (i.3 ∙ ap (λ (z : Term expr). if z i.1 i.2) (j.1 ∙ ap truth (n j.0 (a_at t))))
    (branch b i.1 i.2 rest c.0 d.0 d.1 (subst (λ l. Holds l was new r) o held)))
  where
    branch : (b : Bool) (c d : Term comp) (rest : List Part) → first ≡ flatten c → second ≡ flatten d → behind.now ≡ rest → Holds (cond b first second) was new r
        → Rewrites (on_if (truth b) c d) rest was new (settled behind r)
    branch true c d rest e f l held = settle_next c first rest was new behind r (ap₂ (λ x y. x ++ y) e l) held
    branch false c d rest e f l held = settle_next d second rest was new behind r (ap₂ (λ x y. x ++ y) f l) held

-- match
pub no_match : {ps : List Part} {was new : Writer} → ((get_or ps 1 blank).kind ≡ k.Numeral → ⊥) → ((get_or ps 1 blank).kind ≡ k.Successor → ⊥)
    → Rewriting k.Match any ps was new (Err Stuck)
no_match {ps} {was} {new} n m =
    of_kind k.Match (λ T u rest i h p.
    let e = match_in (alike i.3 h) in
    same_step T rest was new (Err Stuck) i.3 (no i.0 i.1 i.2 rest (λ z. n (kind_at e ∙ z)) (λ z. m (kind_at e ∙ z))))
  where
    no : (e : Term expr) (c d : Term comp) (rest : List Part) → ((head e).kind ≡ k.Numeral → ⊥) → ((head e).kind ≡ k.Successor → ⊥)
        → Rewrites (on_match e c d) rest was new (Err Stuck)
    no (truth b) c d rest n m = tt
    no (var x) c d rest n m = tt
    no (num x) c d rest n m = absurd (n refl)
    no (succ x) c d rest n m = absurd (m refl)
    no unit c d rest n m = tt
    no (inst i) c d rest n m = tt
    no (fn a x) c d rest n m = tt
    no (handler a x cs) c d rest n m = tt

pub match_zero : {ps two first left : List Part} {was new : Writer} (behind : Bor (List Part)) (r : Result (Unit {0}) Halt) → (get_or ps 1 blank).kind ≡ k.Numeral
    → (get_or ps 1 blank).a ≡ 0 → two ≡ drop 2 ps → Splits two first left → Behind left behind.now → Holds first was new r
    → Rewriting k.Match any ps was new (settled behind r)
match_zero {ps} {two} {first} {left} {was} {new} behind r kind n q f g held =
    of_kind k.Match (λ T u rest i h p.
    let e = match_in (alike i.3 h) in
    let j = is_expression e kind in
    let t = alike j.1 e in
    let c = f.splits i.1 _ (q ∙ (two_on 0 (behind_leaf i.1 (flatten i.2 ++ rest) t refl)).there) in
    same_step T rest was new (settled behind r) (i.3 ∙ ap (λ (z : Term expr). match z i.1 i.2) (j.1 ∙ ap num (sym (a_at t) ∙ n)))
    (settle_next i.1 first rest was new behind r (ap (λ l. l ++ behind.now) c.0 ∙ ap (λ l. flatten i.1 ++ l) (g.behind i.2 rest c.1)) held))

pub match_more : {ps two first left : List Part} {was new : Writer} (r : Result (Bor (List Part)) Halt) → (get_or ps 1 blank).kind ≡ k.Numeral
    → ((get_or ps 1 blank).a ≡ 0 → ⊥) → two ≡ drop 2 ps → Splits two first left → Reaches left r
    → Puts (part k.Numeral ((get_or ps 1 blank).a - 1) 0 ∷ []) [] left was new r → Rewriting k.Match any ps was new r
match_more {ps} {two} {first} {left} {was} {new} r kind n q f g w =
    of_kind k.Match (λ T u rest i h p.
    let e = match_in (alike i.3 h) in
    let j = is_expression e kind in
    let t = alike j.1 e in
    let c = f.splits i.1 _ (q ∙ (two_on 0 (behind_leaf i.1 (flatten i.2 ++ rest) t refl)).there) in
    let a : (get_or ps 1 blank).a ≡ j.0 = a_at t in
    let m : j.0 ≡ suc (j.0 - 1) = lowered j.0 (λ z. n (a ∙ z)) in
    same_step T rest was new r (i.3 ∙ ap (λ (z : Term expr). match z i.1 i.2) (j.1 ∙ ap num m))
    (settle_body (put 0 (num (j.0 - 1)) i.2) i.2 rest was new r g c.1
    (w.one i.2 (num (j.0 - 1)) rest refl c.1 (ap (λ m. part k.Numeral (m - 1) 0 ∷ []) a))))
  where
    lowered : (n : ℕ) → (n ≡ 0 → ⊥) → n ≡ suc (n - 1)
    lowered zero h = absurd (h refl)
    lowered (suc n) h = omega arith

pub match_succ : {ps two number left body : List Part} {was new : Writer} (r : Result (Bor (List Part)) Halt) → (get_or ps 1 blank).kind ≡ k.Successor
    → two ≡ drop 2 ps → Splits two number left → Behind left body → Reaches body r → Puts number [] body was new r → Rewriting k.Match any ps was new r
match_succ {ps} {two} {number} {left} {body} {was} {new} r kind q f g l w =
    of_kind k.Match (λ T u rest i h p.
    let e = match_in (alike i.3 h) in
    let j = is_expression e kind in
    let c = f.splits j.0 _ (q ∙ (two_on 0 (succ_in (alike j.1 e))).there) in
    let d = g.behind i.1 (flatten i.2 ++ rest) c.1 in
    same_step T rest was new r (i.3 ∙ ap (λ (z : Term expr). match z i.1 i.2) j.1)
    (settle_body (put 0 j.0 i.2) i.2 rest was new r l d (w.one i.2 j.0 rest refl d c.0)))

-- apply
pub no_apply : {ps : List Part} {was new : Writer} → ((get_or ps 1 blank).kind ≡ k.Function → ⊥) → Rewriting k.Apply any ps was new (Err Stuck)
no_apply {ps} {was} {new} n =
    of_kind k.Apply (λ T u rest i h p.
    let e = apply_in (alike i.2 h) in
    same_step T rest was new (Err Stuck) i.2 (no i.0 i.1 rest (λ z. n (kind_at e ∙ z))))
  where
    no : (e v : Term expr) (rest : List Part) → ((head e).kind ≡ k.Function → ⊥) → Rewrites (on_apply e v) rest was new (Err Stuck)
    no (truth b) v rest n = tt
    no (var x) v rest n = tt
    no (num x) v rest n = tt
    no (succ x) v rest n = tt
    no unit v rest n = tt
    no (inst i) v rest n = tt
    no (fn a x) v rest n = absurd (n refl)
    no (handler a x cs) v rest n = tt

pub apply_fn : {ps body left argument : List Part} {was new : Writer} (behind : Bor (List Part)) (r : Result (Bor (List Part)) Halt) → (get_or ps 1 blank).kind ≡ k.Function
    → body ≡ drop 2 ps → Behind body left → Splits left argument behind.now → Puts argument [] body was new r
    → Rewriting k.Apply any ps was new (settled behind r)
apply_fn {ps} {body} {left} {argument} {was} {new} behind r kind q f g w =
    of_kind k.Apply (λ T u rest i h p.
    let e = apply_in (alike i.2 h) in
    let j = is_expression e kind in
    let c = q ∙ (two_on 0 (fn_in (alike j.2 e))).there in
    let v = g.splits i.1 rest (f.behind j.1 _ c) in
    same_step T rest was new (settled behind r) (i.2 ∙ ap (λ (z : Term expr). apply z i.1) j.2)
    (settle_put (put 0 i.1 j.1) rest was new behind r v.1 (w.one j.1 i.1 (flatten i.1 ++ rest) refl c v.0)))

-- let rec
pub let_rec : {S : Tables} {ps one body left : List Part} {was new : Writer} {p : Part} {n : ℕ} (r : Result (Bor (List Part)) Halt) → p ≡ part k.Function n 0 → n ≡ argument S (get_or ps 0 blank).a → one ≡ drop 1 ps → Splits one body left → Reaches left r
    → Puts ((p ∷ get_or ps 0 blank ∷ []) ++ (body ++ body)) [] left was new r → Rewriting k.LetRec (under S) ps was new r
let_rec {S} {ps} {one} {body} {left} {was} {new} {p} {n} r d m o f g w =
    of_kind k.LetRec (λ T u rest i h e.
    let t = alike i.3 h in
    let c = f.splits i.1 (flatten i.2 ++ rest) (o ∙ (rec_in t).there) in
    let q : n ≡ argument T i.0 = m ∙ ap (argument S) (a_at t) ∙ ap (λ (T : Tables). argument T i.0) (sym e) in
    let v : (p ∷ get_or ps 0 blank ∷ []) ++ (body ++ body) ≡ flatten (fn (argument T i.0) (rec i.0 i.1 i.1)) =
    ap (λ (z : Part). z ∷ get_or ps 0 blank ∷ (body ++ body)) (d ∙ ap (λ m. part k.Function m 0) q)
    ∙ ap (λ (z : Part). part k.Function (argument T i.0) 0 ∷ z ∷ (body ++ body)) (first_at t)
    ∙ ap (λ (z : List Part). part k.Function (argument T i.0) 0 ∷ part k.LetRec i.0 0 ∷ (z ++ z)) c.0
    in
    same_step T rest was new r i.3
    (settle_body (put 0 (fn (argument T i.0) (rec i.0 i.1 i.1)) i.2) i.2 rest was new r g c.1
    (w.one i.2 (fn (argument T i.0) (rec i.0 i.1 i.1)) rest refl c.1 v)))

-- a call passes out
pub call_passes : {before inner two : List Part} {was new : Writer} (behind : Bor (List Part)) (r : Result (Unit {0}) Halt) → two ≡ drop 2 inner
    → Behind two behind.now → Holds (take (length inner - length behind.now) inner ++ (before ++ [])) was new r → Passes before inner was new (settled behind r)
call_passes {before} {inner} {two} {was} {new} behind r o f held = record {
  passes = λ p q v rest after b e eq.
      let c = f.behind v rest (o ∙ ap (drop 2) e) in
      let opens : take (length inner - length behind.now) inner ≡ p ∷ q ∷ flatten v =
      ap (take (length inner - length behind.now)) e
      ∙ take_at (p ∷ q ∷ flatten v) rest (length inner - length behind.now) (omega (arith, ap length e, ap length c, length-append (flatten v) rest))
      in
      settle_next b (take (length inner - length behind.now) inner ++ (before ++ [])) after was new behind r
      (ap₂ (λ y z. (y ++ (before ++ [])) ++ z) opens c ∙ ap (λ z. ((p ∷ q ∷ flatten v) ++ z) ++ rest) (append-nil before)
      ∙ append_assoc (p ∷ q ∷ flatten v) before rest ∙ eq) held;
}

-- a call on what is no instance is stuck
pub no_call : (x : Term expr) (e op : ℕ) (v : Term expr) (c : Term comp) → ((head x).kind ≡ k.Instance → ⊥) → on_call x e op v c ≡ stuck
no_call (inst i) e op v c n = absurd (n refl)
no_call (var x) e op v c n = refl
no_call (truth b) e op v c n = refl
no_call (num x) e op v c n = refl
no_call (succ x) e op v c n = refl
no_call unit e op v c n = refl
no_call (fn a x) e op v c n = refl
no_call (handler a x cs) e op v c n = refl

-- a val or a call rests, and nothing else
rests : (c : Term comp) → Rests c → ((head c).kind ≡ k.Val → ⊥) → ((head c).kind ≡ k.Call → ⊥) → ⊥
rests (val v) p n m = n refl
rests (call e op x v c) p n m = m refl
rests (if e c d) p n m = p
rests (match e c d) p n m = p
rests (none_of e) p n m = p
rests (apply e f) p n m = p
rests (bind c d) p n m = p
rests (rec a c d) p n m = p
rests (handle e c) p n m = p

-- let
pub let_val : {ps two value left : List Part} {was new : Writer} (r : Result (Bor (List Part)) Halt) → (get_or ps 1 blank).kind ≡ k.Val
    → two ≡ drop 2 ps → Splits two value left → Reaches left r → Puts value [] left was new r → Rewriting k.Let ready ps was new r
let_val {ps} {two} {value} {left} {was} {new} r kind q f g w =
    of_kind k.Let (λ T u rest i h p.
    let e = bind_in (alike i.2 h) in
    let j = is_computation e kind in
    let c = f.splits j.0 (flatten i.1 ++ rest) (q ∙ (two_on 0 (val_in (alike j.1 e))).there) in
    same_step T rest was new r (i.2 ∙ ap (λ (z : Term comp). bind z i.1) j.1)
    (settle_body (put 0 j.0 i.1) i.1 rest was new r g c.1 (w.one i.1 j.0 rest refl c.1 c.0)))

-- the let of a call, its instance expression being at 2
let_of_call : {ps rest : List Part} (c d : Term comp) → Here ps 0 (bind c d) rest → (get_or ps 1 blank).kind ≡ k.Call
    → (e : ℕ) × (op : ℕ) × (x : Term expr) × (v : Term expr) × (b : Term comp) × (c ≡ call e op x v b)
    × Here ps 2 x (flatten v ++ (flatten b ++ (flatten d ++ rest)))
let_of_call {ps} {rest} c d h kind =
    let e = bind_in h in
    let j = is_computation e kind in
    (j.0, j.1, j.2, j.3, j.4, j.5, two_on 0 (call_in (alike j.5 e)))

pub let_call : {ps before inner : List Part} {was new : Writer} {r : Result (Bor (List Part)) Halt} → (get_or ps 1 blank).kind ≡ k.Call → (get_or ps 2 blank).kind ≡ k.Instance
    → before ≡ take 1 ps → inner ≡ drop 1 ps → Passes before inner was new r → Rewriting k.Let ready ps was new r
let_call {ps} {before} {inner} {was} {new} {r} kind kind2 l m w =
    of_kind k.Let (λ T u rest i h p.
    let j = let_of_call i.0 i.1 (alike i.2 h) kind in
    let x = is_expression j.6 kind2 in
    let q : u ≡ bind (call j.0 j.1 (inst x.0) j.3 j.4) i.1 = i.2 ∙ ap (λ (z : Term comp). bind z i.1) (j.5 ∙ ap (λ (z : Term expr). call j.0 j.1 z j.3 j.4) x.1) in
    let t = alike q h in
    same_step T rest was new r q
    (w.passes (part k.Call j.0 j.1) (part k.Instance x.0 0) j.3 (flatten j.4 ++ (flatten i.1 ++ rest)) rest
    (call j.0 j.1 (inst x.0) j.3 (bind j.4 i.1))
    (m ∙ (bind_in t).there ∙ simp append_assoc)
    (ap (λ z. (part k.Call j.0 j.1 ∷ part k.Instance x.0 0 ∷ flatten j.3) ++ (z ++ (flatten j.4 ++ (flatten i.1 ++ rest)))) (l ∙ ap (take 1) t.there) ∙ simp append_assoc)))

pub let_stuck : {ps : List Part} {was new : Writer} → (get_or ps 1 blank).kind ≡ k.Call → ((get_or ps 2 blank).kind ≡ k.Instance → ⊥)
    → Rewriting k.Let ready ps was new (Err Stuck)
let_stuck {ps} {was} {new} kind n =
    of_kind k.Let (λ T u rest i h p.
    let j = let_of_call i.0 i.1 (alike i.2 h) kind in
    same_step T rest was new (Err Stuck) (i.2 ∙ ap (λ (z : Term comp). bind z i.1) j.5)
    (subst (λ (o : Outcome). Rewrites (in_let i.1 o) rest was new (Err Stuck)) (sym (no_call j.2 j.0 j.1 j.3 j.4 (λ z. n (kind_at j.6 ∙ z)))) tt))

pub let_short : {ps : List Part} {was new : Writer} → (get_or ps 1 blank).kind ≡ k.Call → length ps < 3
    → Rewriting k.Let ready ps was new (Err Stuck)
let_short {ps} {was} {new} kind l =
    of_kind k.Let (λ T u rest i h p. absurd (omega (arith, inside (let_of_call i.0 i.1 (alike i.2 h) kind).6)))

pub let_no : {ps : List Part} {was new : Writer} → ((get_or ps 1 blank).kind ≡ k.Val → ⊥) → ((get_or ps 1 blank).kind ≡ k.Call → ⊥)
    → Rewriting k.Let ready ps was new (Err Stuck)
let_no {ps} {was} {new} n m =
    of_kind k.Let (λ T u rest i h p.
    let e = bind_in (alike i.2 h) in
    absurd (rests i.0 (subst (λ (z : Term comp). ready T z) i.2 p) (λ z. n (kind_at e ∙ z)) (λ z. m (kind_at e ∙ z))))

-- with over a call, by a case
pub with_case : {before more inner two argument left continuation body : List Part} {was new : Writer} {p : Part} {n : ℕ} (behind : Bor (List Part)) (r : Result (Bor (List Part)) Halt)
    → p ≡ part k.Function n 0 → more ≡ drop 1 before → two ≡ drop 2 inner → Splits two argument left → Splits left continuation behind.now
    → Puts ((p ∷ get_or before 0 blank ∷ []) ++ (more ++ continuation)) argument body was new r → WithCase before inner body n was new (settled behind r)
with_case {before} {more} {inner} {two} {argument} {left} {continuation} {body} {was} {new} {p} {n} behind r d a o f g w = record {
  rule = λ h e op i v c b rest after q there at_body.
      let y = f.splits v _ (o ∙ (two_on 0 (behind_leaf v (flatten c ++ rest) (call_in (here inner 0 (call e op (inst i) v c) rest there)) refl)).there) in
      let z = g.splits c rest y.1 in
      let value : (p ∷ get_or before 0 blank ∷ []) ++ (more ++ continuation) ≡ flatten (fn n (handle h c)) =
      ap (λ (z : Part). z ∷ get_or before 0 blank ∷ (more ++ continuation)) d
      ∙ ap (λ (l : List Part). part k.Function n 0 ∷ get_or l 0 blank ∷ (more ++ continuation)) q
      ∙ ap (λ l. part k.Function n 0 ∷ part k.With 0 0 ∷ (l ++ continuation)) (a ∙ ap (drop 1) q) ∙ ap (λ l. part k.Function n 0 ∷ (opening h ++ l)) z.0
      in
      settle_put (put 0 (fn n (handle h c)) (put 1 v b)) rest was new behind r z.1
      (w.two b (fn n (handle h c)) v after y.0 at_body value);
}

-- with over a call
pub with_stuck : (T : Tables) (h : Term expr) → in_with T h stuck ≡ stuck
with_stuck T (truth b) = refl
with_stuck T (var x) = refl
with_stuck T (num x) = refl
with_stuck T (succ x) = refl
with_stuck T unit = refl
with_stuck T (inst j) = refl
with_stuck T (fn a x) = refl
with_stuck T (handler a x cs) = refl

-- an outcome that is stuck
is_stuck : (o : Outcome) (rest : List Part) (was new : Writer) → o ≡ stuck → Rewrites o rest was new (Err Stuck)
is_stuck o rest was new e = subst (λ (o : Outcome). Rewrites o rest was new (Err Stuck)) (sym e) tt

pub with_no_call : {T : Tables} {before inner cases : List Part} {was new : Writer} → ((get_or inner 1 blank).kind ≡ k.Instance → ⊥) → WithCall T before inner cases was new (Err Stuck)
with_no_call {T} {before} {inner} {cases} {was} {new} m = record {
  rule = λ a b cs e op x v c after rest q there at.
      let t = call_in (here inner 0 (call e op x v c) rest there) in
      is_stuck (in_with T (handler a b cs) (on_call x e op v c)) rest was new
      (ap (in_with T (handler a b cs)) (no_call x e op v c (λ z. m (kind_at t ∙ z))));
}

-- what is found among the cases of a handler over a call of an instance
record Called (inner : List Part) (cs : Term list) (body : Option (Bor (List Part))) (e op : ℕ) (x v : Term expr) (c : Term comp) (rest : List Part) : Type 0 where
  i : ℕ
  is : x ≡ inst i
  there : inner ≡ flatten (call e op (inst i) v c) ++ rest
  found : Found (first i op cs) body
  gives : (T : Tables) → gives T (get_or inner 0 blank).a (get_or inner 0 blank).b ≡ gives T e op

called : {inner cases rest : List Part} {body : Option (Bor (List Part))} {e op : ℕ} {x v : Term expr} {c : Term comp} (cs : Term list) (after : List Part)
    → (get_or inner 1 blank).kind ≡ k.Instance → Finds (get_or inner 1 blank).a (get_or inner 0 blank).b cases body
    → Here inner 0 (call e op x v c) rest → cases ≡ flatten cs ++ after → Called inner cs body e op x v c rest
called {inner} {cases} {rest} {body} {e} {op} {x} {v} {c} cs after kind finds t at =
    let l = is_expression (call_in t) kind in
    record {
      i = l.0;
      is = l.1;
      there = t.there ∙ ap (λ (z : Term expr). flatten (call e op z v c) ++ rest) l.1;
      found = subst (λ m. Found (first m op cs) body) (a_at (alike l.1 (call_in t)))
          (subst (λ m. Found (first (get_or inner 1 blank).a m cs) body) (b_at t) (finds.found cs after at));
      gives = λ T. ap (λ x. gives T x (get_or inner 0 blank).b) (a_at t) ∙ ap (gives T e) (b_at t);
    }

-- by the case that is found
pub with_found : {T : Tables} {before inner cases : List Part} {was new : Writer} {n : ℕ} {body : Bor (List Part)} {r : Result (Bor (List Part)) Halt}
    → (get_or inner 1 blank).kind ≡ k.Instance → Finds (get_or inner 1 blank).a (get_or inner 0 blank).b cases (Some body)
    → n ≡ gives T (get_or inner 0 blank).a (get_or inner 0 blank).b → WithCase before inner body.now n was new r → WithCall T before inner cases was new r
with_found {T} {before} {inner} {cases} {was} {new} {n} {body} {r} kind finds m w = record {
  rule = λ a b cs e op x v c after rest q there at.
      let d = called cs after kind finds (here inner 0 (call e op x v c) rest there) at in
      same_step T rest was new r (ap (λ (z : Term expr). handle (handler a b cs) (call e op z v c)) d.is)
      (pick (handler a b cs) e op d.i v c rest (m ∙ d.gives T) q d.there (first d.i op cs) d.found);
}
  where
    pick : (h : Term expr) (e op i : ℕ) (v : Term expr) (c : Term comp) (rest : List Part) → n ≡ gives T e op
        → before ≡ opening h → inner ≡ flatten (call e op (inst i) v c) ++ rest
        → (o : Option (Term comp)) → Found o (Some body) → Rewrites (next (answer T o h e op i v c)) rest was new r
    pick h e op i v c rest g q there (Some b) found =
        subst (λ m. Rewrites (next (put 0 (fn m (handle h c)) (put 1 v b))) rest was new r) g
        (w.rule h e op i v c b rest found.0 q there found.1)
    pick h e op i v c rest g q there None found = absurd found

-- passed on, where there is none
pub with_none : {T : Tables} {before inner cases : List Part} {was new : Writer} {r : Result (Bor (List Part)) Halt}
    → (get_or inner 1 blank).kind ≡ k.Instance → Finds (get_or inner 1 blank).a (get_or inner 0 blank).b cases None
    → Passes before inner was new r → WithCall T before inner cases was new r
with_none {T} {before} {inner} {cases} {was} {new} {r} kind finds w = record {
  rule = λ a b cs e op x v c after rest q there at.
      let d = called cs after kind finds (here inner 0 (call e op x v c) rest there) at in
      same_step T rest was new r (ap (λ (z : Term expr). handle (handler a b cs) (call e op z v c)) d.is)
      (pick (handler a b cs) e op d.i v c rest q d.there (first d.i op cs) d.found);
}
  where
    pick : (h : Term expr) (e op i : ℕ) (v : Term expr) (c : Term comp) (rest : List Part)
        → before ≡ opening h → inner ≡ flatten (call e op (inst i) v c) ++ rest
        → (o : Option (Term comp)) → Found o None → Rewrites (next (answer T o h e op i v c)) rest was new r
    pick h e op i v c rest q there (Some b) found = absurd found
    pick h e op i v c rest q there None found =
        w.passes (part k.Call e op) (part k.Instance i 0) v (flatten c ++ rest) rest (call e op (inst i) v (handle h c))
        (there ∙ simp append_assoc)
        (ap (λ z. (part k.Call e op ∷ part k.Instance i 0 ∷ flatten v) ++ (z ++ (flatten c ++ rest))) q ∙ simp append_assoc)

-- with over what is no handler
off_call : (h x : Term expr) (e op : ℕ) (v : Term expr) (c : Term comp) → off h (on_call x e op v c) ≡ stuck
off_call h (inst i) e op v c = refl
off_call h (var x) e op v c = refl
off_call h (truth b) e op v c = refl
off_call h (num x) e op v c = refl
off_call h (succ x) e op v c = refl
off_call h unit e op v c = refl
off_call h (fn a x) e op v c = refl
off_call h (handler a x cs) e op v c = refl

off_rests : (T : Tables) (h : Term expr) (c : Term comp) → Rests c → off h (step T c) ≡ stuck
off_rests T h (val v) p = refl
off_rests T h (call e op x v c) p = off_call h x e op v c
off_rests T h (if e c d) p = absurd p
off_rests T h (match e c d) p = absurd p
off_rests T h (none_of e) p = absurd p
off_rests T h (apply e f) p = absurd p
off_rests T h (bind c d) p = absurd p
off_rests T h (rec a c d) p = absurd p
off_rests T h (handle e c) p = absurd p

no_handler : (T : Tables) (h : Term expr) (c : Term comp) → Rests c → ((head h).kind ≡ k.Handler → ⊥) → in_with T h (step T c) ≡ stuck
no_handler T (truth b) c p n = off_rests T (truth b) c p
no_handler T (var x) c p n = off_rests T (var x) c p
no_handler T (num x) c p n = off_rests T (num x) c p
no_handler T (succ x) c p n = off_rests T (succ x) c p
no_handler T unit c p n = off_rests T unit c p
no_handler T (inst j) c p n = off_rests T (inst j) c p
no_handler T (fn a x) c p n = off_rests T (fn a x) c p
no_handler T (handler a x cs) c p n = absurd (n refl)

pub no_with : {S : Tables} {ps : List Part} {was new : Writer} → ((get_or ps 1 blank).kind ≡ k.Handler → ⊥) → Rewriting k.With (prepared S) ps was new (Err Stuck)
no_with {S} {ps} {was} {new} n =
    of_kind k.With (λ T u rest i h p.
    let t = handle_in (alike i.2 h) in
    same_step T rest was new (Err Stuck) i.2
    (is_stuck (in_with T i.0 (step T i.1)) rest was new
    (no_handler T i.0 i.1 (subst (λ (z : Term comp). ready T z) i.2 p.0) (λ z. n (kind_at t ∙ z)))))

-- a with of a handler, and what it is over, which opens the inner parts
record Handles (ps inner : List Part) (u : Term comp) (rest : List Part) : Type 0 where
  a : ℕ
  b : Term comp
  cs : Term list
  c : Term comp
  is : u ≡ handle (handler a b cs) c
  body : drop 2 ps ≡ flatten b ++ (flatten cs ++ (flatten c ++ rest))
  there : Here inner 0 c rest
  opens : take (length ps - length inner) ps ≡ opening (handler a b cs)

handles : {ps one inner rest : List Part} {u : Term comp} → Computation k.With u → Here ps 0 u rest → (get_or ps 1 blank).kind ≡ k.Handler → one ≡ drop 1 ps → Behind one inner
    → Handles ps inner u rest
handles {ps} {one} {inner} {rest} {u} i h kind q f =
    let j = is_expression (handle_in (alike i.2 h)) kind in
    let e : u ≡ handle (handler j.0 j.1 j.2) i.1 = i.2 ∙ ap (λ (z : Term expr). handle z i.1) j.3 in
    let t = alike e h in
    let there = f.behind (handler j.0 j.1 j.2) (flatten i.1 ++ rest) (q ∙ (handle_in t).there) in
    let whole : ps ≡ opening (handler j.0 j.1 j.2) ++ (flatten i.1 ++ rest) = t.there ∙ append_assoc (opening (handler j.0 j.1 j.2)) (flatten i.1) rest in
    record {
      a = j.0;
      b = j.1;
      cs = j.2;
      c = i.1;
      is = e;
      body = (two_on 0 (handler_in (handle_in t))).there;
      there = here inner 0 i.1 rest there;
      opens = ap (take (length ps - length inner)) whole
          ∙ take_at (opening (handler j.0 j.1 j.2)) (flatten i.1 ++ rest) (length ps - length inner)
          (omega (arith, ap length whole, ap length there, length-append (opening (handler j.0 j.1 j.2)) (flatten i.1 ++ rest)));
    }

-- with
pub with_over_val : {S : Tables} {ps one inner inside value body : List Part} {was new : Writer} (behind : Bor (List Part)) (r : Result (Bor (List Part)) Halt)
    → (get_or ps 1 blank).kind ≡ k.Handler → one ≡ drop 1 ps → Behind one inner → (get_or inner 0 blank).kind ≡ k.Val
    → inside ≡ drop 1 inner → Splits inside value behind.now → body ≡ drop 2 ps → Puts value [] body was new r
    → Rewriting k.With (prepared S) ps was new (settled behind r)
with_over_val {S} {ps} {one} {inner} {inside} {value} {body} {was} {new} behind r kind q f kind2 o g l w =
    of_kind k.With (λ T u rest i h p.
    let d = handles i h kind q f in
    let j = is_computation d.there kind2 in
    let x = g.splits j.0 rest (o ∙ (val_in (alike j.1 d.there)).there) in
    same_step T rest was new (settled behind r) (d.is ∙ ap (λ (z : Term comp). handle (handler d.a d.b d.cs) z) j.1)
    (settle_put (put 0 j.0 d.b) rest was new behind r x.1 (w.one d.b j.0 _ refl (l ∙ d.body) x.0)))

pub with_over_call : {S : Tables} {ps one inner before body cases : List Part} {was new : Writer} {r : Result (Bor (List Part)) Halt}
    → (get_or ps 1 blank).kind ≡ k.Handler → one ≡ drop 1 ps → Behind one inner → (get_or inner 0 blank).kind ≡ k.Call
    → before ≡ take (length ps - length inner) ps → body ≡ drop 2 ps → Behind body cases → WithCall S before inner cases was new r
    → Rewriting k.With (prepared S) ps was new r
with_over_call {S} {ps} {one} {inner} {before} {body} {cases} {was} {new} {r} kind q f kind2 o l g w =
    of_kind k.With (λ T u rest i h p.
    let d = handles i h kind q f in
    let j = is_computation d.there kind2 in
    same_step T rest was new r (d.is ∙ ap (λ (z : Term comp). handle (handler d.a d.b d.cs) z) j.5)
    (subst (λ (T : Tables). Rewrites (step T (handle (handler d.a d.b d.cs) (call j.0 j.1 j.2 j.3 j.4))) rest was new r) (sym p.1)
    (w.rule d.a d.b d.cs j.0 j.1 j.2 j.3 j.4 (flatten d.c ++ rest) rest (o ∙ d.opens) (alike j.5 d.there).there (g.behind d.b _ (l ∙ d.body)))))

pub with_short : {S : Tables} {ps one inner : List Part} {was new : Writer} → (get_or ps 1 blank).kind ≡ k.Handler → one ≡ drop 1 ps → Behind one inner → length inner < 2
    → Rewriting k.With (prepared S) ps was new (Err Stuck)
with_short kind q f l = of_kind k.With (λ T u rest i h p. absurd (omega (arith, inside_two (handles i h kind q f).there)))

pub with_no : {S : Tables} {ps one inner : List Part} {was new : Writer} → (get_or ps 1 blank).kind ≡ k.Handler → one ≡ drop 1 ps → Behind one inner
    → ((get_or inner 0 blank).kind ≡ k.Val → ⊥) → ((get_or inner 0 blank).kind ≡ k.Call → ⊥) → Rewriting k.With (prepared S) ps was new (Err Stuck)
with_no kind q f l m =
    of_kind k.With (λ T u rest i h p.
    let d = handles i h kind q f in
    absurd (rests d.c (subst (λ (z : Term comp). ready T z) d.is p.0) (λ z. l (kind_at d.there ∙ z)) (λ z. m (kind_at d.there ∙ z))))

-- every kind
pub all_of : {k : Kind} {P Q : Asked} {ps : List Part} {was new : Writer} {r : Result (Bor (List Part)) Halt} → (get_or ps 0 blank).kind ≡ k → ((T : Tables) (u : Term comp) → Q T u → P T u)
    → Rewriting k P ps was new r → RewritingAll Q ps was new r
all_of {k} {P} {Q} {ps} {was} {new} {r} kind f w =
    record { rule = λ T u rest e p. w.rule T u rest (sym (kind_at (here ps 0 u rest e)) ∙ kind) e (f T u p) }

pub short_of : {Q : Asked} {ps : List Part} {was new : Writer} → length ps < 2 → RewritingAll Q ps was new (Err Stuck)
short_of {Q} {ps} {was} {new} l = record { rule = λ T u rest e p. absurd (omega (arith, inside_two (here ps 0 u rest e))) }

-- no rule rewrites the others
pub none_of_them : {Q : Asked} {ps : List Part} {was new : Writer} → ((get_or ps 0 blank).kind ≡ k.If → ⊥) → ((get_or ps 0 blank).kind ≡ k.Match → ⊥)
    → ((get_or ps 0 blank).kind ≡ k.Apply → ⊥) → ((get_or ps 0 blank).kind ≡ k.LetRec → ⊥) → ((get_or ps 0 blank).kind ≡ k.Let → ⊥) → ((get_or ps 0 blank).kind ≡ k.With → ⊥)
    → RewritingAll Q ps was new (Err Stuck)
none_of_them {Q} {ps} {was} {new} n1 n2 n3 n4 n5 n6 =
    record {
      rule = λ T u rest e p.
          let q = kind_at (here ps 0 u rest e) in
          no T u rest (λ z. n1 (q ∙ z)) (λ z. n2 (q ∙ z)) (λ z. n3 (q ∙ z)) (λ z. n4 (q ∙ z)) (λ z. n5 (q ∙ z)) (λ z. n6 (q ∙ z));
    }
  where
    no_question : (x : Term expr) (e op : ℕ) (v : Term expr) (c : Term comp) (rest : List Part) → Rewrites (on_call x e op v c) rest was new (Err Stuck)
    no_question (inst i) e op v c rest = tt
    no_question (var x) e op v c rest = tt
    no_question (truth b) e op v c rest = tt
    no_question (num x) e op v c rest = tt
    no_question (succ x) e op v c rest = tt
    no_question unit e op v c rest = tt
    no_question (fn a x) e op v c rest = tt
    no_question (handler a x cs) e op v c rest = tt

    no : (T : Tables) (u : Term comp) (rest : List Part) → ((head u).kind ≡ k.If → ⊥) → ((head u).kind ≡ k.Match → ⊥) → ((head u).kind ≡ k.Apply → ⊥)
        → ((head u).kind ≡ k.LetRec → ⊥) → ((head u).kind ≡ k.Let → ⊥) → ((head u).kind ≡ k.With → ⊥) → Rewrites (step T u) rest was new (Err Stuck)
    no T (if e c d) rest a b c' d' e' f' = absurd (a refl)
    no T (match e c d) rest a b c' d' e' f' = absurd (b refl)
    no T (none_of e) rest a b c' d' e' f' = tt
    no T (apply e f) rest a b c' d' e' f' = absurd (c' refl)
    no T (val v) rest a b c' d' e' f' = tt
    no T (call e op x v c) rest a b c' d' e' f' = no_question x e op v c rest
    no T (bind c d) rest a b c' d' e' f' = absurd (e' refl)
    no T (rec a₀ c d) rest a b c' d' e' f' = absurd (d' refl)
    no T (handle h c) rest a b c' d' e' f' = absurd (f' refl)

-- What a computation does next, by its parts.
use Rattle.std.proofs.Common.{◌≡◌, ℕ, ◌<◌, ◌≤◌, List, [], ◌++◌, length, get_or, take, drop, Some, None, Option, Ok, Err, Result, sym, refl, ap, ◌∙◌, subst, append-nil, arith, length-append}
use Rattle.std.specs.Borrow.{Bor}
use Rattle.std.proofs.lemmas.Bool.{lt-ltb, le-ltb, cond-true, cond-false}
use Rattle.eff.specs.Sorts.{Sort, expr, comp}
use Rattle.eff.specs.Syntax.{Term, inst, call, flatten}
use Rattle.eff.specs.Tables.{Tables, gives}
use Rattle.eff.specs.Grounds.{grounded}
use Rattle.eff.specs.Questions.{asked, worth}
use Rattle.eff.specs.Outcome.{Outcome, value, asks, next, stuck, step, on_call}
use Rattle.eff.specs.Spelling.{term_of, Whole}
use Rattle.eff.proofs.Agree.{steps_agree}
use Rattle.eff.proofs.Spelling.{whole_parts}
use Rattle.eff.specs.declared.ground.Ground.{Ground}
use Rattle.eff.specs.declared.kind.Kind.TheVariants as k
use Rattle.eff.specs.declared.part.Part.{Part}
use Rattle.eff.specs.declared.question.Question.{Question}
use Rattle.eff.specs.declared.question.Value.{Value}
use Rattle.step.specs.declared.stepping.Asking.{Asking}
use Rattle.step.specs.declared.stepping.Outcome.TheVariants.{Value as Rested, Asks}
use Rattle.step.specs.declared.value.Shown.{Shown}
use Rattle.step.specs.declared.halt.Halt.{Halt}
use Rattle.step.specs.declared.halt.Halt.TheVariants as w
use Rattle.step.specs.declared.write.Writer.{Writer}
use Rattle.step.specs.Walk.{Behind}
use Rattle.step.specs.Written.{parts, Held, Over, Holds}
use Rattle.step.specs.Valued.{shown_parts, valued}
use Rattle.step.specs.Rewrites.{Rewrites, NoRoom, Rests, prepared, RewritingAll}
use Rattle.step.specs.Spine.{Busy, Redex, Leads}
use Rattle.step.specs.Steps.{Answer, question_of, Asked, TooLarge, Answers, Steps}
use Rattle.step.specs.Stages.{asking_is, next_is, ACall, AskingOf, Nexts}
use Rattle.step.proofs.Skipping.{blank}
use Rattle.step.proofs.Writing.{size}
use Rattle.step.proofs.Shapes.{Here, alike, is_computation, is_expression, kind_at, behind_leaf, inside_two, some_parts, call_in, val_in}
use Rattle.step.proofs.Rules.{a_at, b_at, no_call}
use Rattle.step.proofs.Descending.{busy}
use Rattle.step.proofs.Valuing.{worth_is, shown_is}

-- parts that are a term, and nothing behind it
whole : {s : Sort} (ps : List Part) (t : Term s) → ps ≡ flatten t → Here ps 0 t []
whole ps t e = record { there = e ∙ sym (append-nil (flatten t)) }

-- a call
pub call_three : {ps : List Part} → ACall ps → 3 ≤ length ps
call_three {ps} h =
    omega (arith, ap length h.is, some_parts h.x, some_parts h.v, some_parts h.c, length-append (flatten h.x) (flatten h.v ++ flatten h.c), length-append (flatten h.v) (flatten h.c))

pub call_stuck : {T : Tables} {ps : List Part} → ((get_or ps 1 blank).kind ≡ k.Instance → ⊥) → AskingOf T ps None
call_stuck {T} {ps} n = record {
  asks = λ room new e op x v c q.
      let h = call_in (whole ps (call e op x v c) q) in
      subst (λ (o : Outcome). Answers T o room new (Err w.Stuck)) (sym (no_call x e op v c (λ z. n (kind_at h ∙ z)))) refl;
}

pub call_wide : {T : Tables} {ps : List Part} → (get_or ps 1 blank).kind ≡ k.Instance → 255 < (get_or ps 1 blank).a → AskingOf T ps None
call_wide {T} {ps} kind l = record {
  asks = λ room new e op x v c q.
      let h = call_in (whole ps (call e op x v c) q) in
      let i = is_expression h kind in
      let a = a_at (alike i.1 h) in
      subst (λ (x : Term expr). Answers T (on_call x e op v c) room new (Err w.Stuck)) (sym i.1)
      (subst (λ (o : Option Question). Asked o c (Err w.Stuck)) (sym (cond-false _ _ _ (le-ltb i.0 256 (omega (arith, a))))) refl);
}

-- the question of a call of an instance, by its parts
record PutsQuestion (T : Tables) (o : Option Question) (e op : ℕ) (x v : Term expr) : Type 0 where
  i : ℕ
  is : x ≡ inst i
  question : question_of T e op i v ≡ o

puts_question : (T : Tables) {ps : List Part} (e op : ℕ) (x v : Term expr) (c : Term comp) → ps ≡ flatten (call e op x v c) → (get_or ps 1 blank).kind ≡ k.Instance
    → (get_or ps 1 blank).a ≤ 255 → PutsQuestion T (asked (get_or ps 1 blank).a (get_or ps 0 blank).b (valued (drop 2 ps)) (grounded (gives T (get_or ps 0 blank).a (get_or ps 0 blank).b))) e op x v
puts_question T {ps} e op x v c q kind l =
    let t = whole ps (call e op x v c) q in
    let h = call_in t in
    let i = is_expression h kind in
    let a = a_at (alike i.1 h) in
    let y = behind_leaf v (flatten c ++ []) (alike i.1 h) refl in
    record {
      i = i.0;
      is = i.1;
      question = cond-true _ _ _ (lt-ltb i.0 256 (omega (arith, a)))
          ∙ sym (ap (λ m. asked m (get_or ps 0 blank).b (valued (drop 2 ps)) (grounded (gives T (get_or ps 0 blank).a (get_or ps 0 blank).b))) a
          ∙ ap (λ m. asked i.0 m (valued (drop 2 ps)) (grounded (gives T (get_or ps 0 blank).a (get_or ps 0 blank).b))) (b_at t)
          ∙ ap (λ m. asked i.0 op m (grounded (gives T (get_or ps 0 blank).a (get_or ps 0 blank).b))) (ap valued y.there ∙ worth_is v (flatten c ++ []))
          ∙ ap (λ m. asked i.0 op (worth v) (grounded (gives T m (get_or ps 0 blank).b))) (a_at t)
          ∙ ap (λ m. asked i.0 op (worth v) (grounded (gives T e m))) (b_at t));
    }

-- its continuation
goes_on : {ps two behind : List Part} (e op : ℕ) (x v : Term expr) (c : Term comp) → ps ≡ flatten (call e op x v c) → (get_or ps 1 blank).kind ≡ k.Instance → two ≡ drop 2 ps → Behind two behind
    → behind ≡ flatten c
goes_on {ps} {two} {behind} e op x v c q kind t f =
    let h = call_in (whole ps (call e op x v c) q) in
    let i = is_expression h kind in
    f.behind v (flatten c ++ []) (t ∙ (behind_leaf v (flatten c ++ []) (alike i.1 h) refl).there) ∙ append-nil (flatten c)

pub call_asks : {T : Tables} {ps two : List Part} {v : Value} {g : Ground} (a : Asking) → (get_or ps 1 blank).kind ≡ k.Instance → (get_or ps 1 blank).a ≤ 255 → two ≡ drop 2 ps → Behind two a.continuation.now
    → valued (drop 2 ps) ≡ Some v → grounded (gives T (get_or ps 0 blank).a (get_or ps 0 blank).b) ≡ Some g → asked (get_or ps 1 blank).a (get_or ps 0 blank).b (Some v) (Some g) ≡ Some a.question → AskingOf T ps (Some a)
call_asks {T} {ps} {two} {v} a kind l t f is ground q = record {
  asks = λ room new e op x w c h.
      let d = puts_question T e op x w c h kind l in
      subst (λ (x : Term expr). Answers T (on_call x e op w c) room new (Ok (Asks a))) (sym d.is)
      (subst (λ (o : Option Question). Asked o c (Ok (Asks a)))
      (sym (d.question ∙ ap (λ o. asked (get_or ps 1 blank).a (get_or ps 0 blank).b o (grounded (gives T (get_or ps 0 blank).a (get_or ps 0 blank).b))) is ∙ ap (λ o. asked (get_or ps 1 blank).a (get_or ps 0 blank).b (Some v) o) ground ∙ q))
      (record { is = refl; goes_on = goes_on e op x w c h kind t f }));
}

-- there is no question
call_none : {T : Tables} {ps : List Part} → (get_or ps 1 blank).kind ≡ k.Instance → (get_or ps 1 blank).a ≤ 255 → asked (get_or ps 1 blank).a (get_or ps 0 blank).b (valued (drop 2 ps)) (grounded (gives T (get_or ps 0 blank).a (get_or ps 0 blank).b)) ≡ None → AskingOf T ps None
call_none {T} {ps} kind l q = record {
  asks = λ room new e op x v c h.
      let d = puts_question T e op x v c h kind l in
      subst (λ (x : Term expr). Answers T (on_call x e op v c) room new (Err w.Stuck)) (sym d.is)
      (subst (λ (o : Option Question). Asked o c (Err w.Stuck)) (sym (d.question ∙ q)) refl);
}

pub call_no_value : {T : Tables} {ps : List Part} → (get_or ps 1 blank).kind ≡ k.Instance → (get_or ps 1 blank).a ≤ 255 → valued (drop 2 ps) ≡ None → AskingOf T ps None
call_no_value {T} {ps} kind l q = call_none kind l (ap (λ o. asked (get_or ps 1 blank).a (get_or ps 0 blank).b o (grounded (gives T (get_or ps 0 blank).a (get_or ps 0 blank).b))) q ∙ none (grounded (gives T (get_or ps 0 blank).a (get_or ps 0 blank).b)))
  where
    none : (g : Option Ground) → asked (get_or ps 1 blank).a (get_or ps 0 blank).b None g ≡ None
    none (Some g) = refl
    none None = refl

pub call_no_ground : {T : Tables} {ps : List Part} → (get_or ps 1 blank).kind ≡ k.Instance → (get_or ps 1 blank).a ≤ 255 → grounded (gives T (get_or ps 0 blank).a (get_or ps 0 blank).b) ≡ None → AskingOf T ps None
call_no_ground {T} {ps} kind l q = call_none kind l (ap (λ o. asked (get_or ps 1 blank).a (get_or ps 0 blank).b (valued (drop 2 ps)) o) q ∙ none (valued (drop 2 ps)))
  where
    none : (v : Option Value) → asked (get_or ps 1 blank).a (get_or ps 0 blank).b v None ≡ None
    none (Some v) = refl
    none None = refl

-- a computation that is no val and no call has a next one or is stuck
no_value : (T : Tables) (u : Term comp) (v : Term expr) → Busy u → step T u ≡ value v → ⊥
no_value T u v b e = b (subst (λ (z : Term comp). Rests z) (sym (((steps_agree T u).value_is v).0 e)) tt)

no_question : (T : Tables) (u : Term comp) (e op i : ℕ) (v : Term expr) (c : Term comp) → Busy u → step T u ≡ asks e op i v c → ⊥
no_question T u e op i v c b q = b (subst (λ (z : Term comp). Rests z) (sym (((steps_agree T u).asks_is e op i v c).0 q)) tt)

-- the next computation in its place
placed : {before rest : List Part} (room : ℕ) (new : List Part) (r : Answer) (T : Tables) (t b : Term comp) (d : Redex before rest t) → step T d.u ≡ next b
    → ((b' : Term comp) → flatten b' ≡ before ++ (flatten b ++ d.behind) → Answers T (next b') room new r) → Answers T (step T t) room new r
placed {before} {rest} room new r T t b d e f =
    let x = d.carries.next_on T b e in
    subst (λ (o : Outcome). Answers T o room new r) (sym x.1) (f x.0 x.2)

-- by the rewriting of the redex: it has a next computation, or is stuck
by_redex : {T : Tables} {before rest : List Part} {was new : Writer} (x : Result (Bor (List Part)) Halt) (room : ℕ) (last : List Part) (r : Result ℕ Halt) → RewritingAll (prepared T) rest was new x
    → ((t b : Term comp) (d : Redex before rest t) (b' : Term comp) → flatten b' ≡ before ++ (flatten b ++ d.behind)
    → Rewrites (next b) d.behind was new x → Answers T (next b') room last (next_is r))
    → ((behind : List Part) → Rewrites stuck behind was new x → next_is r ≡ Err w.Stuck)
    → Nexts T before rest room last r
by_redex {T} {before} {rest} {was} {new} x room last r f g h = record { nexts = λ t d p. go t d (step T d.u) refl (f.rule T d.u d.behind d.there (p, refl)) }
  where
    go : (t : Term comp) (d : Redex before rest t) (o : Outcome) → step T d.u ≡ o → Rewrites o d.behind was new x → Answers T (step T t) room last (next_is r)
    go t d (value v) e q = absurd (no_value T d.u v d.busy e)
    go t d (asks a op i v c) e q = absurd (no_question T d.u a op i v c d.busy e)
    go t d (next b) e q = placed room last (next_is r) T t b d e (λ b' l. g t b d b' l q)
    go t d stuck e q = subst (λ (o : Outcome). Answers T o room last (next_is r)) (sym (d.carries.stuck_on T e)) (h d.behind q)

-- no rule fits, or there is no room: b' is the computation whose redex becomes b
pub next_halts : {T : Tables} {before rest : List Part} {was new : Writer} (x : Halt) (room : ℕ) (last : List Part)
    → ((b b' : Term comp) (behind : List Part) → flatten b' ≡ before ++ (flatten b ++ behind) → NoRoom b behind was → TooLarge b' room)
    → RewritingAll (prepared T) rest was new (Err x) → Nexts T before rest room last (Err x)
next_halts w.Full room last large f = by_redex (Err w.Full) room last (Err w.Full) f (λ t b d b' q g. large b b' d.behind q g) (λ behind q. absurd q)
next_halts w.Stuck room last large f = by_redex (Err w.Stuck) room last (Err w.Stuck) f (λ t b d b' q g. absurd g) (λ behind q. refl)

-- the redex has no room
pub redex_over : (before : List Part) {room : ℕ} {was : Writer} → room ≡ length was.to.now → parts was ≡ before
    → (b b' : Term comp) (behind : List Part) → flatten b' ≡ before ++ (flatten b ++ behind) → NoRoom b behind was → TooLarge b' room
redex_over before {room} {was} l e b b' behind q g =
    record { over = omega (arith, g.over, ap length q, length-append before (flatten b ++ behind), length-append (flatten b) behind, ap length e, size was) }

-- there is no room even for what stands before the redex
pub front_over : (before : List Part) {room : ℕ} {first was : Writer} → room ≡ length first.to.now → first.filled ≡ 0 → Over before first
    → (b b' : Term comp) (behind : List Part) → flatten b' ≡ before ++ (flatten b ++ behind) → NoRoom b behind was → TooLarge b' room
front_over before {room} {first} l e ov b b' behind q g =
    record { over = omega (arith, ov.over, ap length q, length-append before (flatten b ++ behind)) }

pub next_over : {T : Tables} {room : ℕ} {left : Bor (List Part)} {before rest last : List Part} {first was new : Writer} → room ≡ length first.to.now → first.filled ≡ 0 → Over before first
    → RewritingAll (prepared T) rest was new (Ok left) → Nexts T before rest room last (Err w.Full)
next_over {T} {room} {left} {before} {rest} {last} {first} l e ov f =
    by_redex (Ok left) room last (Err w.Full) f
    (λ t b d b' q g. record { over = omega (arith, ov.over, ap length q, length-append before (flatten b ++ d.behind)) })
    (λ behind q. absurd q)

-- what is written before the redex
pub written_first : (before : List Part) {first mid : Writer} → first.filled ≡ 0 → Held before first mid → parts mid ≡ before
written_first before {first} {mid} q g = g.whole ∙ ap (λ n. take n first.to.now ++ before) q

-- what is written before the redex, for it and behind it is the next computation
pub next_done : {T : Tables} {room : ℕ} {left : Bor (List Part)} {before rest slab : List Part} {mid new last : Writer} → room ≡ length last.to.now → slab ≡ last.to.now → parts mid ≡ before
    → RewritingAll (prepared T) rest mid new (Ok left) → Held left.now new last → Nexts T before rest room slab (Ok last.filled)
next_done {T} {room} {left} {before} {rest} {slab} {mid} {new} {last} l s e f g =
    by_redex (Ok left) room slab (Ok last.filled) f
    (λ t b d b' q h.
    let z : parts last ≡ flatten b' =
    g.whole ∙ h.whole ∙ ap (λ l. l ++ (flatten b ++ d.behind)) e ∙ sym q
    in
    record { size_is = omega (arith, ap length z, size last); fits = omega (arith, last.fits); parts = ap (take last.filled) s ∙ z })
    (λ behind q. absurd q)

-- there is no room for what stands behind the redex
pub next_behind : {T : Tables} {room : ℕ} {left : Bor (List Part)} {before rest slab : List Part} {mid new : Writer} (last : Writer) (x : Halt) → room ≡ length new.to.now → parts mid ≡ before
    → RewritingAll (prepared T) rest mid new (Ok left) → Holds {A = Unit {0}} left.now new last (Err x) → Nexts T before rest room slab (Err x)
next_behind {T} {room} {left} {before} {rest} {slab} {mid} {new} last w.Full l e f g =
    by_redex (Ok left) room slab (Err w.Full) f
    (λ t b d b' q h.
    let z : parts new ++ left.now ≡ flatten b' = h.whole ∙ ap (λ l. l ++ (flatten b ++ d.behind)) e ∙ sym q in
    record { over = omega (arith, g.over, ap length z, length-append (parts new) (left.now), size new) })
    (λ behind q. absurd q)
next_behind last w.Stuck l e f g = absurd g

-- the whole step
pub whole_two : {ps : List Part} → Whole ps → 2 ≤ length ps
whole_two {ps} w = omega (arith, inside_two (whole ps (term_of ps) (whole_parts ps w)))

pub step_val : {T : Tables} {ps : List Part} {s : Shown} (room : ℕ) (new : List Part) → Whole ps → (get_or ps 0 blank).kind ≡ k.Val → s ≡ shown_parts (drop 1 ps) → Steps T ps room new (Ok (Rested s))
step_val {T} {ps} {s} room new w kind q =
    let h = whole ps (term_of ps) (whole_parts ps w) in
    let i = is_computation h kind in
    let v = val_in (alike i.1 h) in
    record { answers = subst (λ (z : Term comp). Answers T (step T z) room new (Ok (Rested s))) (sym i.1) (ap (λ (z : Shown). Ok (Rested z)) (q ∙ ap shown_parts v.there ∙ shown_is i.0 [])) }

pub is_call : {ps : List Part} → Whole ps → (get_or ps 0 blank).kind ≡ k.Call → ACall ps
is_call {ps} w kind =
    let e = whole_parts ps w in
    let i = is_computation (whole ps (term_of ps) e) kind in
    record { e = i.0; op = i.1; x = i.2; v = i.3; c = i.4; is = e ∙ ap (λ (z : Term comp). flatten z) i.5 }

pub step_call : {T : Tables} {ps : List Part} {r : Option Asking} (room : ℕ) (new : List Part) → Whole ps → (get_or ps 0 blank).kind ≡ k.Call → AskingOf T ps r → Steps T ps room new (asking_is r)
step_call {T} {ps} {r} room new w kind f =
    let e = whole_parts ps w in
    let i = is_computation (whole ps (term_of ps) e) kind in
    record {
      answers = subst (λ (z : Term comp). Answers T (step T z) room new (asking_is r)) (sym i.5)
          (f.asks room new i.0 i.1 i.2 i.3 i.4 (e ∙ ap (λ (z : Term comp). flatten z) i.5));
    }

pub step_next : {T : Tables} {ps : List Part} {r : Result ℕ Halt} {before rest : List Part} (room : ℕ) (new : List Part) → Whole ps → ((get_or ps 0 blank).kind ≡ k.Val → ⊥) → ((get_or ps 0 blank).kind ≡ k.Call → ⊥)
    → Leads ps before rest → Nexts T before rest room new r → Steps T ps room new (next_is r)
step_next {T} {ps} {r} room new w l m leads f =
    let e = whole_parts ps w in
    let q = kind_at (whole ps (term_of ps) e) in
    let d = leads.leads (term_of ps) e (busy (term_of ps) (λ z. l (q ∙ z)) (λ z. m (q ∙ z))) in
    record { answers = f.nexts (term_of ps) d.0 (d.1 T) }

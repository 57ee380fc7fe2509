-- Turns of the code against the definition of an advance.
use Rattle.std.proofs.Common.{◌≡◌, ℕ, zero, suc, ◌+◌, ◌-◌, ◌<◌, ◌≤◌, min, max, true, false, eqb, List, [], ◌∷◌, ◌++◌, length, take, sym, refl, ap, ◌∙◌, subst, ap₂, append_assoc, append-nil, add-one, arith, length-append, lt-ltb, ne_eqb}
use mathlib.Core.Logic.{∥∥₁_map}
use Rattle.eff.specs.Sorts.{expr, comp}
use Rattle.eff.specs.Syntax.{Term, flatten, put as write}
use Rattle.eff.specs.Tables.{Tables}
use Rattle.eff.specs.Dirt.{sets}
use Rattle.eff.specs.Checked.{Checked}
use Rattle.eff.specs.Claims.{HasType}
use Rattle.eff.specs.Outcome.{step}
use Rattle.eff.specs.Questions.{term}
use Rattle.eff.specs.Runs.{Reaches, stays, steps, answers}
use Rattle.eff.specs.Safety.{GoesOn}
use Rattle.eff.specs.Safety as s
use Rattle.eff.specs.Spelling.{term_of}
use Rattle.eff.specs.declared.part.Part.{Part}
use Rattle.eff.specs.declared.question.Call.{Call}
use Rattle.eff.specs.declared.question.Question.{Question}
use Rattle.eff.proofs.Agree.{steps_agree}
use Rattle.eff.proofs.ClaimSafety.{claims_are_safe}
use Rattle.eff.proofs.Spelling.{term_back, parts_whole}
use Rattle.host.specs.Meaning.{Replies, Known, SameKnown, Lawful, Alike, after}
use Rattle.sheet.specs.Rows.{Listing}
use Rattle.table.specs.Meant.{tables_of}
use Rattle.machine.specs.declared.report.State.{State}
use Rattle.machine.specs.declared.report.State.TheVariants.{Refused, Paused, Done, Stopped, Full, Limit}
use Rattle.machine.specs.Turns.{limit, Turn, rests, turn, Gone, rest, stop, having_put, on_reply, on_turn, going, paused, after_all, only_if}
use Rattle.machine.specs.Views.{View, begun, onward, gone_to, advance_view}
use Rattle.recipe.specs.Admitted.{claimed}
use Rattle.machine.proofs.Going.{going_on, same_going, at_zero, at_more}
use Rattle.machine.proofs.Keeping.{typed_answers}
use Rattle.machine.proofs.Turning.{goes_by, asks_by}
use Rattle.runs.specs.Turned.{in_a_byte, AskingTurn, GoingTurn, RefusedAt, AnsweredAt}
use Rattle.runs.specs.Running.{Running}

pub paused_begun : (s : State) → paused s ≡ true → begun s ≡ true
paused_begun Refused e = e
paused_begun Paused e = refl
paused_begun (Done x) e = refl
paused_begun (Stopped x) e = refl
paused_begun Full e = refl
paused_begun Limit e = refl

pub not_paused : (s : State) → (s ≡ Paused → ⊥) → paused s ≡ false
not_paused Refused n = refl
not_paused Paused n = absurd (n refl)
not_paused (Done x) n = refl
not_paused (Stopped x) n = refl
not_paused Full n = refl
not_paused Limit n = refl

-- What a run holds between two turns, and what its host means and knows.
pub record Moment : Type 0 where
  pub first : List Part
  pub second : List Part
  pub size : ℕ
  pub steps : ℕ
  pub asked : ℕ
  pub means : Replies
  pub knows : Known

abbrev pub term_at : Moment → Term comp
term_at v = term_of (take v.size v.first)

abbrev pub room_of : Moment → ℕ
room_of v = min (length v.first) (length v.second)

abbrev pub longer_of : Moment → ℕ
longer_of v = max (length v.first) (length v.second)

-- the computation at a moment has the claimed type of the rows
abbrev pub Runs : Listing → Moment → Type 0
Runs l v = ∥ Running l (take v.size v.first) ∥₁

-- From e with an allowance, the run is at v with what is left of it: what it goes to from there, after the questions put so far, is what it goes to.
pub record Comes (l : Listing) (e : Moment) (allowance : ℕ) (v : Moment) (left : ℕ) : Type 0 where
  pub put : List Question
  pub whole : going (tables_of l) (room_of e) allowance e.means e.steps (term_at e) ≡ having_put put (going (tables_of l) (room_of e) left v.means v.steps (term_at v))
  pub means : Alike v.means (after_all put e.means)
  pub knows : SameKnown e.knows v.knows
  pub count : v.asked ≡ e.asked + length put
  pub shorter : room_of v ≡ room_of e
  pub longer : longer_of v ≡ longer_of e
  pub fits : v.size ≤ room_of e
  pub running : Runs l v
  pub counted : v.steps ≤ limit
  pub few : v.asked ≤ v.steps

pub begins : (l : Listing) (e : Moment) (allowance : ℕ) → e.size ≤ room_of e → Runs l e → e.steps ≤ limit → e.asked ≤ e.steps → Comes l e allowance e allowance
begins l e allowance f r c a = record {
  put = [];
  whole = refl;
  means = record { same = λ qs q. refl };
  knows = λ x. refl;
  count = omega arith;
  shorter = refl;
  longer = refl;
  fits = f;
  running = r;
  counted = c;
  few = a;
}

-- the moment after a turn: the slabs have changed places
abbrev pub swapped : Moment → List Part → ℕ → ℕ → Replies → Known → Moment
swapped v new n asked means knows = record { first = new; second = v.first; size = n; steps = v.steps + 1; asked = asked; means = means; knows = knows }

module _ (l : Listing) where
  abbrev T : Tables
  T = tables_of l

  abbrev Typed : Term comp → Type 0
  Typed c = HasType T (sets T) comp c (claimed l)

  -- what is reached keeps its type
  reached : Checked T (sets T) → (m : Replies) (known : Known) → Lawful m known → (c b : Term comp) (n : ℕ) (qs : List Question) → Typed c → Reaches T m [] c n qs b → Typed b
  reached K m known lw c b n qs t r = ((claims_are_safe T K).runs m (typed_answers m known lw) [] qs n c b (claimed l).0 (claimed l).1 t r).typed

  abbrev turn_at : Moment → ℕ → ℕ → Turn
  turn_at v room left = turn T room (eqb left 0) v.steps (term_at v)

  -- with some allowance left, a run goes on by its turn
  goes_on : (room left : ℕ) (v : Moment) → eqb left 0 ≡ false
      → going T room left v.means v.steps (term_at v)
      ≡ on_turn (turn_at v room left) v.steps (term_at v) (λ b. going T room (left - 1) v.means (suc v.steps) b)
      (λ q k. on_reply (v.means [] q) q v.steps (term_at v) (λ w. going T room (left - 1) (after q v.means) (suc v.steps) (k w)))
  goes_on room zero v e = absurd (let z : ◌≡◌ {A = ℕ} 0 1 = cc in omega arith)
  goes_on room (suc left) v e =
      going_on T room left v.means v.steps (term_at v) ∙ less left (suc left - 1) (omega arith)
      ∙ ap (λ b. on_turn (turn T room b v.steps (term_at v)) v.steps (term_at v) (λ x. going T room (suc left - 1) v.means (suc v.steps) x)
      (λ q k. on_reply (v.means [] q) q v.steps (term_at v) (λ w. going T room (suc left - 1) (after q v.means) (suc v.steps) (k w)))) (sym e)
    where
      less : (a b : ℕ) → a ≡ b
          → on_turn (turn T room false v.steps (term_at v)) v.steps (term_at v) (λ x. going T room a v.means (suc v.steps) x)
          (λ q k. on_reply (v.means [] q) q v.steps (term_at v) (λ w. going T room a (after q v.means) (suc v.steps) (k w)))
          ≡ on_turn (turn T room false v.steps (term_at v)) v.steps (term_at v) (λ x. going T room b v.means (suc v.steps) x)
          (λ q k. on_reply (v.means [] q) q v.steps (term_at v) (λ w. going T room b (after q v.means) (suc v.steps) (k w)))
      less a b p = ap (λ n. on_turn (turn T room false v.steps (term_at v)) v.steps (term_at v) (λ x. going T room n v.means (suc v.steps) x)
          (λ q k. on_reply (v.means [] q) q v.steps (term_at v) (λ w. going T room n (after q v.means) (suc v.steps) (k w)))) p

  -- a run that rests, by any allowance
  rests_so : (room left : ℕ) (v : Moment) (s : State) → turn_at v room left ≡ rests s → going T room left v.means v.steps (term_at v) ≡ rest s v.steps (term_at v)
  rests_so room zero v s h = at_zero T room v.means v.steps (term_at v) s h
  rests_so room (suc left) v s h =
      at_more T room left v.means v.steps (term_at v) s
      (subst (λ b. turn T room b v.steps (term_at v) ≡ rests s) (ne_eqb (suc left) 0 (λ e. omega (arith, e))) h)

  term_new : (b : Term comp) (new : List Part) (n : ℕ) → take n new ≡ flatten b → term_of (take n new) ≡ b
  term_new b new n p = ap term_of p ∙ term_back b

  running_new : (some : 0 < length l.parts) (b : Term comp) (new : List Part) (n : ℕ) → take n new ≡ flatten b → Typed b → Running l (take n new)
  running_new some b new n p t = record { some = some; whole = parts_whole (take n new) b p; typed = subst Typed (sym (term_new b new n p)) t }

  module _ (checked : 0 < length l.parts → Checked T (sets T)) where
    -- a call's instance is declared, so its number is small
    pub byte_of : (ps : List Part) → Running l ps → in_a_byte (step T (term_of ps)) ≡ true
    byte_of ps r = by ((claims_are_safe T (checked r.some)).safe (term_of ps) (claimed l).0 (claimed l).1 r.typed).goes_on
      where
        by : GoesOn T (sets T) (HasType T (sets T) expr) (HasType T (sets T) comp) (term_of ps) (claimed l).0 (claimed l).1 → in_a_byte (step T (term_of ps)) ≡ true
        by (s.is_value v p t) = ap in_a_byte (((steps_agree T (term_of ps)).value_is v).1 p)
        by (s.steps b p t) = ap in_a_byte (((steps_agree T (term_of ps)).next_is b).1 p)
        by (s.asks a) =
            ap in_a_byte (((steps_agree T (term_of ps)).asks_is a.effect a.op a.i a.argument a.continuation).1 a.is)
            ∙ lt-ltb a.i 256 (omega (arith, a.instance.declared, (checked r.some).instances))

    -- after a step
    pub stepped : (e : Moment) (allowance : ℕ) (v : Moment) (left : ℕ) (new : List Part) (n : ℕ) (means : Replies) (knows : Known) → (Lawful v.means v.knows)
        → Comes l e allowance v left → GoingTurn (turn_at v (room_of e) left) (room_of e) new n → Alike means v.means → SameKnown v.knows knows
        → length new ≡ length v.second → Comes l e allowance (swapped v new n v.asked means knows) (left - 1)
    stepped e allowance v left new n means knows lw h g same kn len =
        let f = goes_by T (room_of e) (eqb left 0) v.steps (step T (term_at v)) g.to g.is in
        let is = term_new g.to new n g.written.parts in
        record {
          put = h.put;
          whole = h.whole ∙ ap (having_put h.put) (goes_on (room_of e) left v f.left
              ∙ ap (λ t. on_turn t v.steps (term_at v) (λ b. going T (room_of e) (left - 1) v.means (suc v.steps) b)
              (λ q k. on_reply (v.means [] q) q v.steps (term_at v) (λ w. going T (room_of e) (left - 1) (after q v.means) (suc v.steps) (k w)))) g.is
              ∙ same_going T (room_of e) (left - 1) v.means means (record { same = λ qs q. sym (same.same qs q) }) (suc v.steps) g.to
              ∙ ap₂ (λ k b. going T (room_of e) (left - 1) means k b) (sym (add-one v.steps)) (sym is));
          means = record { same = λ qs q. same.same qs q ∙ h.means.same qs q };
          knows = λ c. kn c ∙ h.knows c;
          count = h.count;
          shorter = omega (arith, h.shorter, len);
          longer = omega (arith, h.longer, len);
          fits = g.written.fits;
          running = ∥∥₁_map h.running (λ r. running_new r.some g.to new n g.written.parts
              (reached (checked r.some) v.means v.knows lw (term_at v) g.to 1 [] r.typed (steps (((steps_agree T (term_at v)).next_is g.to).0 f.next_is) stays)));
          counted = omega (arith, f.low);
          few = omega (arith, h.few);
        }

    -- after an answer
    pub answered : (e : Moment) (allowance : ℕ) (v : Moment) (left : ℕ) (new : List Part) (n : ℕ) (means : Replies) (knows : Known) → (Lawful v.means v.knows)
        → Comes l e allowance v left → (a : AskingTurn (turn_at v (room_of e) left)) → AnsweredAt a.question a.on (room_of e) v.means means new n
        → SameKnown v.knows knows → length new ≡ length v.second → Comes l e allowance (swapped v new n (v.asked + 1) means knows) (left - 1)
    answered e allowance v left new n means knows lw h a w kn len =
        let f = asks_by T (room_of e) (eqb left 0) v.steps (step T (term_at v)) a.question a.on a.is in
        let b = a.on w.reply in
        let is = term_new b new n w.written.parts in
        let q = a.question in
        record {
          put = h.put ++ (q ∷ []);
          whole = h.whole ∙ ap (having_put h.put) (goes_on (room_of e) left v f.left
              ∙ ap (λ t. on_turn t v.steps (term_at v) (λ x. going T (room_of e) (left - 1) v.means (suc v.steps) x)
              (λ p k. on_reply (v.means [] p) p v.steps (term_at v) (λ y. going T (room_of e) (left - 1) (after p v.means) (suc v.steps) (k y)))) a.is
              ∙ ap (λ r. on_reply r q v.steps (term_at v) (λ y. going T (room_of e) (left - 1) (after q v.means) (suc v.steps) (a.on y))) w.answered
              ∙ ap (having_put (q ∷ [])) (same_going T (room_of e) (left - 1) (after q v.means) means (record { same = λ qs p. sym (w.means.same qs p) }) (suc v.steps) b
              ∙ ap₂ (λ k x. going T (room_of e) (left - 1) means k x) (sym (add-one v.steps)) (sym is)))
              ∙ ap (λ qs. let r = going T (room_of e) (left - 1) means (v.steps + 1) (term_of (take n new)) in record { state = r.state; steps = r.steps; put = qs; computation = r.computation })
              (sym (append_assoc h.put (q ∷ []) (going T (room_of e) (left - 1) means (v.steps + 1) (term_of (take n new))).put));
          means = record { same = λ qs p. w.means.same qs p ∙ h.means.same (q ∷ qs) p ∙ ap (λ x. e.means x p) (sym (append_assoc h.put (q ∷ []) qs)) };
          knows = λ c. kn c ∙ h.knows c;
          count = omega (arith, h.count, length-append h.put (q ∷ []));
          shorter = omega (arith, h.shorter, len);
          longer = omega (arith, h.longer, len);
          fits = w.written.fits;
          running = ∥∥₁_map h.running (λ r. running_new r.some b new n w.written.parts
              (reached (checked r.some) v.means v.knows lw (term_at v) b 1 (q ∷ []) r.typed
              (subst (λ c. Reaches T v.means [] c 1 (q ∷ []) b) (sym (((steps_agree T (term_at v)).asks_is f.effect f.op f.instance f.argument f.continuation).0 f.asks_is))
              (answers f.put_is w.answered (subst (λ x. Reaches T v.means (q ∷ []) (write 0 (term w.reply) f.continuation) 0 [] x) (sym (f.on_is w.reply)) stays)))));
          counted = omega (arith, f.low);
          few = omega (arith, h.few);
        }

    -- What an advance leaves: the run has gone so far, with these questions put.
    pub record Left (e : Moment) (allowance : ℕ) (state : State) (v : Moment) (asked : ℕ) (means : Replies) : Type 0 where
      pub gone : Gone
      pub is : going T (room_of e) allowance e.means e.steps (term_at e) ≡ gone
      pub state_is : state ≡ gone.state
      pub steps_is : v.steps ≡ gone.steps
      pub asked_is : asked ≡ e.asked + length gone.put
      pub term_is : term_at v ≡ gone.computation
      pub alike : Alike means (after_all gone.put e.means)

    -- the turn rests
    pub rested : (e : Moment) (allowance : ℕ) (v : Moment) (left : ℕ) (s : State) (means : Replies) → Comes l e allowance v left → turn_at v (room_of e) left ≡ rests s
        → Alike means v.means → Left e allowance s v v.asked means
    rested e allowance v left s means h t same = record {
      gone = having_put h.put (rest s v.steps (term_at v));
      is = h.whole ∙ ap (having_put h.put) (rests_so (room_of e) left v s t);
      state_is = refl;
      steps_is = refl;
      asked_is = h.count ∙ ap (λ qs. e.asked + length qs) (sym (append-nil h.put));
      term_is = refl;
      alike = record { same = λ qs q. same.same qs q ∙ h.means.same qs q ∙ ap (λ x. e.means (x ++ qs) q) (sym (append-nil h.put)) };
    }

    -- the host refuses
    pub stopped : (e : Moment) (allowance : ℕ) (v : Moment) (left : ℕ) (at : Call) (means : Replies) → Comes l e allowance v left
        → (a : AskingTurn (turn_at v (room_of e) left)) → RefusedAt a.question v.means means at → Left e allowance (Stopped at) v (v.asked + 1) means
    stopped e allowance v left at means h a r =
        let f = asks_by T (room_of e) (eqb left 0) v.steps (step T (term_at v)) a.question a.on a.is in
        let q = a.question in
        record {
          gone = having_put h.put (stop q v.steps (term_at v));
          is = h.whole ∙ ap (having_put h.put) (goes_on (room_of e) left v f.left
              ∙ ap (λ t. on_turn t v.steps (term_at v) (λ x. going T (room_of e) (left - 1) v.means (suc v.steps) x)
              (λ p k. on_reply (v.means [] p) p v.steps (term_at v) (λ y. going T (room_of e) (left - 1) (after p v.means) (suc v.steps) (k y)))) a.is
              ∙ ap (λ x. on_reply x q v.steps (term_at v) (λ y. going T (room_of e) (left - 1) (after q v.means) (suc v.steps) (a.on y))) r.refused);
          state_is = ap Stopped r.call_is;
          steps_is = refl;
          asked_is = omega (arith, h.count, length-append h.put (q ∷ []));
          term_is = refl;
          alike = record { same = λ qs p. r.means.same qs p ∙ h.means.same (q ∷ qs) p ∙ ap (λ x. e.means x p) (sym (append_assoc h.put (q ∷ []) qs)) };
        }

    -- the view of a moment in a state
    abbrev pub view_at : State → ℕ → Moment → View
    view_at s asked v = record { recipe = l; shorter = room_of v; longer = longer_of v; state = s; steps = v.steps; asked = asked; term = term_at v }

    -- what an advance leaves is what is defined
    pub onward_is : (e : Moment) (allowance : ℕ) (was s : State) (v : Moment) (asked : ℕ) (means : Replies) → paused was ≡ true → (x : Left e allowance s v asked means)
        → onward e.means allowance (view_at was e.asked e) ≡ x.gone
    onward_is e allowance was s v asked means p x =
        ap (λ b. only_if b (rest was e.steps (term_at e)) (λ _. going T (room_of e) allowance e.means e.steps (term_at e))) p ∙ x.is

    pub left_view : (e : Moment) (allowance : ℕ) (was s : State) (v : Moment) (asked : ℕ) (means : Replies) (second : List Part) → paused was ≡ true
        → room_of v ≡ room_of e → longer_of v ≡ longer_of e → length second ≡ length v.second → (x : Left e allowance s v asked means)
        → view_at s asked (record { first = v.first; second = second; size = v.size; steps = v.steps; asked = v.asked; means = v.means; knows = v.knows })
        ≡ advance_view e.means allowance (view_at was e.asked e)
    left_view e allowance was s v asked means second p sh lo len x =
        (λ i. record {
          recipe = l;
          shorter = (ap (min (length v.first)) len ∙ sh) i;
          longer = (ap (max (length v.first)) len ∙ lo) i;
          state = x.state_is i;
          steps = x.steps_is i;
          asked = x.asked_is i;
          term = x.term_is i;
        }) ∙ ap (gone_to (view_at was e.asked e)) (sym (onward_is e allowance was s v asked means p x))

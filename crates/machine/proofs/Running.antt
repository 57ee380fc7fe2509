-- A run goes where its computation reaches, and rests there for a reason.
use Rattle.std.proofs.Common.{◌≡◌, ℕ, zero, suc, ◌+◌, ◌<◌, ◌≤◌, Bool, true, false, cond, ltb, leb, List, [], ◌∷◌, ◌++◌, Some, None, Option, sym, refl, ap, ◌∙◌, subst, append_assoc, append-nil, arith, length-append, ltb-true, ltb-false, leb-false, leb-true}
use Rattle.eff.specs.Sorts.{expr, comp}
use Rattle.eff.specs.Syntax.{Term, call, inst, flatten, size, put}
use Rattle.eff.specs.Tables.{Tables}
use Rattle.eff.specs.Steps.{◌⇝◌}
use Rattle.eff.specs.Outcome.{Outcome, value, asks as calls, next, stuck, step}
use Rattle.eff.specs.Questions.{question, term}
use Rattle.eff.specs.Runs.{Reaches, stays, steps, answers}
use Rattle.eff.specs.declared.question.Question.{Question}
use Rattle.eff.specs.declared.question.Value.{Value}
use Rattle.eff.specs.Questions.{Reply}
use Rattle.eff.proofs.Agree.{steps_agree}
use Rattle.host.specs.Meaning.{Replies, Alike, after, Refusal}
use Rattle.machine.specs.declared.report.State.{State}
use Rattle.machine.specs.declared.report.State.TheVariants.{Refused, Paused, Stopped, Full, Limit}
use Rattle.machine.specs.Turns.{limit, Turn, rests, goes, put_to_host, turn_by, Gone, rest, having_put, on_turn, on_reply, going, after_all}
use Rattle.step.proofs.Resumption.{keeps_size}
use Rattle.machine.specs.Ends.{NoVal, NoRule, Free, Rests, paused, done, at_limit, stopped, full, unruled, unasked, Ran}
use Rattle.machine.proofs.Going.{going_on, same_going}
use Rattle.machine.proofs.Fitting.{Fits, fits_still, fits_step, fits_answer}

-- an outcome that is no value
abbrev Valueless : Outcome → Type 0
Valueless (value v) = ⊥
Valueless (calls e op i v k) = Unit {0}
Valueless (next b) = Unit {0}
Valueless stuck = Unit {0}

module _ (T : Tables) (room : ℕ) (m : Replies) where
  -- as Ran, after the questions of past and n steps
  pub record RanFrom (past : List Question) (n : ℕ) (c : Term comp) (left : ℕ) (g : Gone) : Type 0 where
    pub answered : List Question
    pub taken : ℕ
    pub reaches : Reaches T m past c taken answered g.computation
    pub counted : g.steps ≡ n + taken
    pub within : taken ≤ left
    pub limited : g.steps ≤ limit
    pub fits : Fits T room m past c taken
    pub rests_so : Rests T room m (n + left) (past ++ answered) g.computation g.steps g.state (past ++ g.put)

  -- what a run begins with: no more steps than the limit, and a computation that fits
  pub record From (n : ℕ) (c : Term comp) : Type 0 where
    pub limited : n ≤ limit
    pub fits : size c ≤ room

  no_val : (c : Term comp) (o : Outcome) → step T c ≡ o → Valueless o → NoVal c
  no_val c o e h v f = subst Valueless (sym e ∙ ap (step T) f) h

  no_rule : (c : Term comp) → step T c ≡ stuck → NoRule T c
  no_rule c e = record {
    no_val = no_val c stuck e tt;
    no_call = λ x op i v k f. let p = ((steps_agree T c).asks_is x op i v k).1 f in
        absurd (let r : stuck ≡ calls x op i v k = sym e ∙ p in let z : ◌≡◌ {A = ℕ} 0 1 = cc in omega arith);
    no_next = λ b s. let p = ((steps_agree T c).next_is b).1 s in
        absurd (let r : stuck ≡ next b = sym e ∙ p in let z : ◌≡◌ {A = ℕ} 0 1 = cc in omega arith);
  }

  rested : (past : List Question) (n : ℕ) (c : Term comp) (left : ℕ) (s : State) → From n c → Rests T room m (n + left) past c n s past
      → RanFrom past n c left (rest s n c)
  rested past n c left s f r = record {
    answered = [];
    taken = 0;
    reaches = stays;
    counted = omega arith;
    within = omega arith;
    limited = f.limited;
    fits = fits_still T room m past c f.fits;
    rests_so = subst (λ qs. Rests T room m (n + left) qs c n s qs) (sym (append-nil past)) r;
  }

  at_limit_rest : (past : List Question) (n : ℕ) (c : Term comp) (left : ℕ) → From n c → NoVal c → leb limit n ≡ true → RanFrom past n c left (rest Limit n c)
  at_limit_rest past n c left f v e = rested past n c left Limit f (at_limit v (omega (arith, f.limited, leb-true limit n e)))

  below : (n : ℕ) → leb limit n ≡ false → n < limit
  below n e = omega (arith, leb-false limit n e)

  free : (n left : ℕ) → n < limit → Free (n + suc left) n
  free n left low = record { below = low; left = omega arith }

  -- with no allowance
  zero_held : (past : List Question) (n : ℕ) (c : Term comp) → From n c → NoVal c → (b : Bool) → leb limit n ≡ b
      → RanFrom past n c 0 (on_turn (cond b (rests Limit) (rests Paused)) n c (λ x. rest Paused n c) (λ q k. rest Paused n c))
  zero_held past n c f v true e = at_limit_rest past n c 0 f v e
  zero_held past n c f v false e = rested past n c 0 Paused f (paused v (below n e) (omega arith))

  zero_by : (past : List Question) (n : ℕ) (c : Term comp) → From n c → (o : Outcome) → step T c ≡ o
      → RanFrom past n c 0 (on_turn (turn_by T room true n o) n c (λ x. rest Paused n c) (λ q k. rest Paused n c))
  zero_by past n c f (value v) e = rested past n c 0 _ f (done v (((steps_agree T c).value_is v).0 e))
  zero_by past n c f (calls x op i v k) e = zero_held past n c f (no_val c _ e tt) (leb limit n) refl
  zero_by past n c f (next b) e = zero_held past n c f (no_val c _ e tt) (leb limit n) refl
  zero_by past n c f stuck e = zero_held past n c f (no_val c _ e tt) (leb limit n) refl

  abbrev On : ℕ → Type 0
  On left = (past : List Question) (n : ℕ) (c : Term comp) → From n c → RanFrom past n c left (going T room left (after_all past m) n c)

  -- after a step, and after an answer
  stepped : (past : List Question) (n : ℕ) (c b : Term comp) (left : ℕ) (g : Gone) → From n c → ◌⇝◌ T c b → RanFrom past (suc n) b left g
      → RanFrom past n c (suc left) g
  stepped past n c b left g f s r = record {
    answered = r.answered;
    taken = suc r.taken;
    reaches = steps s r.reaches;
    counted = omega (arith, r.counted);
    within = omega (arith, r.within);
    limited = r.limited;
    fits = fits_step T room m past c b r.taken s f.fits r.fits;
    rests_so = let e : suc n + left ≡ n + suc left = omega arith in
        subst (λ a. Rests T room m a (past ++ r.answered) g.computation g.steps g.state (past ++ g.put)) e r.rests_so;
  }

  replied : (past : List Question) (n : ℕ) (c : Term comp) (left : ℕ) (e op i : ℕ) (v : Term expr) (k : Term comp) (q : Question) (w : Value) (g : Gone)
      → From n c → c ≡ call e op (inst i) v k → question T e op i v ≡ Some q → m past q ≡ Some w
      → RanFrom (past ++ (q ∷ [])) (suc n) (put 0 (term w) k) left g → RanFrom past n c (suc left) (having_put (q ∷ []) g)
  replied past n c left e op i v k q w g f is put_is a r = record {
    answered = q ∷ r.answered;
    taken = suc r.taken;
    reaches = subst (λ x. Reaches T m past x (suc r.taken) (q ∷ r.answered) g.computation) (sym is) (answers put_is a r.reaches);
    counted = omega (arith, r.counted);
    within = omega (arith, r.within);
    limited = r.limited;
    fits = subst (λ x. Fits T room m past x (suc r.taken)) (sym is)
        (fits_answer T room m past e op i v k q w r.taken put_is a (subst (λ (x : Term comp). size x ≤ room) is f.fits) r.fits);
    rests_so =
        let h : suc n + left ≡ n + suc left = omega arith in
        subst (λ a. Rests T room m a (past ++ (q ∷ r.answered)) g.computation g.steps g.state (past ++ (q ∷ g.put))) h
        (subst (λ qs. Rests T room m (suc n + left) (past ++ (q ∷ r.answered)) g.computation g.steps g.state qs) (append_assoc past (q ∷ []) g.put)
        (subst (λ qs. Rests T room m (suc n + left) qs g.computation g.steps g.state ((past ++ (q ∷ [])) ++ g.put)) (append_assoc past (q ∷ []) r.answered) r.rests_so));
  }

  -- an answered call fits where the call does
  answer_fits : (n : ℕ) (c : Term comp) (e op i : ℕ) (v : Term expr) (k : Term comp) (w : Value) → n < limit → c ≡ call e op (inst i) v k → From n c
      → From (suc n) (put 0 (term w) k)
  answer_fits n c e op i v k w low is f =
      record { limited = omega (arith, low); fits = omega (arith, f.fits, keeps_size w k, ap (λ (x : Term comp). size x) is, length-append (flatten v) (flatten k)) }

  abbrev m_after : List Question → Replies
  m_after past = after_all past m

  -- by the host's reply
  by_reply : (left : ℕ) → On left → (past : List Question) (n : ℕ) (c : Term comp) (e op i : ℕ) (v : Term expr) (k : Term comp) (q : Question)
      → From n c → n < limit → c ≡ call e op (inst i) v k → question T e op i v ≡ Some q → (r : Reply) → m past q ≡ r
      → RanFrom past n c (suc left) (on_reply r q n c (λ w. going T room left (after q (m_after past)) (suc n) (put 0 (term w) k)))
  by_reply left on past n c e op i v k q f low is put_is (Some w) a =
      let alike : Alike (m_after (past ++ (q ∷ []))) (after q (m_after past)) = record { same = λ qs p. ap (λ l. m l p) (append_assoc past (q ∷ []) qs) } in
      subst (λ g. RanFrom past n c (suc left) (having_put (q ∷ []) g)) (same_going T room left _ _ alike (suc n) (put 0 (term w) k))
      (replied past n c left e op i v k q w _ f is put_is a (on (past ++ (q ∷ [])) (suc n) (put 0 (term w) k) (answer_fits n c e op i v k w low is f)))
  by_reply left on past n c e op i v k q f low is put_is None a = record {
    answered = [];
    taken = 0;
    reaches = stays;
    counted = omega arith;
    within = omega arith;
    limited = f.limited;
    fits = fits_still T room m past c f.fits;
    rests_so = subst (λ qs. Rests T room m (n + suc left) qs c n (Stopped q.call) (past ++ (q ∷ []))) (sym (append-nil past))
        (stopped (free n left low) is put_is (subst Refusal (sym a) tt));
  }

  by_question : (left : ℕ) → On left → (past : List Question) (n : ℕ) (c : Term comp) (e op i : ℕ) (v : Term expr) (k : Term comp)
      → From n c → n < limit → c ≡ call e op (inst i) v k → (q : Option Question) → question T e op i v ≡ q
      → RanFrom past n c (suc left) (on_turn (put_to_host q k) n c (λ b. going T room left (m_after past) (suc n) b)
      (λ p j. on_reply (m (past ++ []) p) p n c (λ w. going T room left (after p (m_after past)) (suc n) (j w))))
  by_question left on past n c e op i v k f low is (Some q) put_is =
      subst (λ l. RanFrom past n c (suc left) (on_reply (m l q) q n c (λ w. going T room left (after q (m_after past)) (suc n) (put 0 (term w) k)))) (sym (append-nil past))
      (by_reply left on past n c e op i v k q f low is put_is (m past q) refl)
  by_question left on past n c e op i v k f low is None put_is = rested past n c (suc left) Refused f (unasked (free n left low) is put_is)

  by_room : (left : ℕ) → On left → (past : List Question) (n : ℕ) (c b : Term comp) → From n c → n < limit → ◌⇝◌ T c b → (x : Bool) → ltb room (size b) ≡ x
      → RanFrom past n c (suc left) (on_turn (cond x (rests Full) (goes b)) n c (λ d. going T room left (m_after past) (suc n) d)
      (λ p j. on_reply (m (past ++ []) p) p n c (λ w. going T room left (after p (m_after past)) (suc n) (j w))))
  by_room left on past n c b f low s true e = rested past n c (suc left) Full f (full b (free n left low) s (ltb-true room (size b) e))
  by_room left on past n c b f low s false e =
      stepped past n c b left _ f s (on past (suc n) b (record { limited = omega (arith, low); fits = ltb-false room (size b) e }))

  by_limit : (left : ℕ) (past : List Question) (n : ℕ) (c : Term comp) (t : Turn) → From n c → NoVal c → (b : Bool) → leb limit n ≡ b
      → (n < limit → RanFrom past n c (suc left) (on_turn t n c (λ d. going T room left (m_after past) (suc n) d)
      (λ p j. on_reply (m (past ++ []) p) p n c (λ w. going T room left (after p (m_after past)) (suc n) (j w)))))
      → RanFrom past n c (suc left) (on_turn (cond b (rests Limit) t) n c (λ d. going T room left (m_after past) (suc n) d)
      (λ p j. on_reply (m (past ++ []) p) p n c (λ w. going T room left (after p (m_after past)) (suc n) (j w))))
  by_limit left past n c t f v true e h = at_limit_rest past n c (suc left) f v e
  by_limit left past n c t f v false e h = h (below n e)

  by_outcome : (left : ℕ) → On left → (past : List Question) (n : ℕ) (c : Term comp) → From n c → (o : Outcome) → step T c ≡ o
      → RanFrom past n c (suc left) (on_turn (turn_by T room false n o) n c (λ d. going T room left (m_after past) (suc n) d)
      (λ p j. on_reply (m (past ++ []) p) p n c (λ w. going T room left (after p (m_after past)) (suc n) (j w))))
  by_outcome left on past n c f (value v) e = rested past n c (suc left) _ f (done v (((steps_agree T c).value_is v).0 e))
  by_outcome left on past n c f (calls x op i v k) e =
      by_limit left past n c _ f (no_val c _ e tt) (leb limit n) refl
      (λ low. by_question left on past n c x op i v k f low (((steps_agree T c).asks_is x op i v k).0 e) (question T x op i v) refl)
  by_outcome left on past n c f (next b) e =
      by_limit left past n c _ f (no_val c _ e tt) (leb limit n) refl (λ low. by_room left on past n c b f low (((steps_agree T c).next_is b).0 e) (ltb room (size b)) refl)
  by_outcome left on past n c f stuck e =
      by_limit left past n c _ f (no_val c _ e tt) (leb limit n) refl (λ low. rested past n c (suc left) Refused f (unruled (free n left low) (no_rule c e)))

  ran_zero : On zero
  unfolding going
  ran_zero past n c f = zero_by past n c f (step T c) refl

  pub ran_from : (left : ℕ) → On left
  ran_from zero past n c f = ran_zero past n c f
  ran_from (suc left) past n c f =
      subst (λ g. RanFrom past n c (suc left) g) (sym (going_on T room left (m_after past) n c)) (by_outcome left (ran_from left) past n c f (step T c) refl)

  pub ran : (left : ℕ) (c : Term comp) → size c ≤ room → Ran T room m c left (going T room left m 0 c)
  ran left c h =
      let g = going T room left m 0 c in
      let r = ran_from left [] 0 c (record { limited = omega arith; fits = h }) in
      let e : g.steps ≡ r.taken = omega (arith, r.counted) in
      let a : 0 + left ≡ left = omega arith in
      record {
        answered = r.answered;
        reaches = subst (λ k. Reaches T m [] c k r.answered g.computation) (sym e) r.reaches;
        within = omega (arith, e, r.within);
        limited = r.limited;
        fits = λ n qs b p l. r.fits.fits n qs b p (omega (arith, e, l));
        rests = subst (λ a. Rests T room m a r.answered g.computation g.steps g.state g.put) a r.rests_so;
      }

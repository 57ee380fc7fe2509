-- A run that is related to a computation and an allowance is where the computing form goes by them.
use Rattle.std.proofs.Common.{◌≡◌, ℕ, zero, suc, ◌+◌, ◌<◌, ◌≤◌, Bool, true, false, leb, List, [], ◌∷◌, ◌++◌, Some, None, sym, refl, ap, ◌∙◌, subst, append_assoc, append-nil, add-zero, arith}
use Rattle.std.proofs.lemmas.Bool.{lt-leb, le-leb, lt-ltb, le-ltb}
use Rattle.eff.specs.Sorts.{expr, comp}
use Rattle.eff.specs.Syntax.{Term, call, inst, size, put}
use Rattle.eff.specs.Tables.{Tables}
use Rattle.eff.specs.Steps.{◌⇝◌}
use Rattle.eff.specs.Outcome.{Outcome, value, asks as calls, next, stuck, step}
use Rattle.eff.specs.Questions.{question, term, Reply}
use Rattle.eff.specs.Runs.{Reaches, stays, steps, answers}
use Rattle.eff.specs.declared.question.Question.{Question}
use Rattle.eff.proofs.Agree.{steps_agree}
use Rattle.host.specs.Meaning.{Replies, Alike, after, Refusal}
use Rattle.machine.specs.declared.report.State.{State}
use Rattle.machine.specs.declared.report.State.TheVariants.{Refused, Paused, Stopped, Full, Limit}
use Rattle.machine.specs.Turns.{limit, Turn, rests, goes, put_to_host, turn_by, turn, Gone, rest, having_put, on_reply, going, after_all}
use Rattle.machine.specs.Ends.{NoVal, NoRule, Free, Rests, paused, done, at_limit, stopped, full, unruled, unasked, Ran}
use Rattle.machine.proofs.Going.{going_on, one_turn, same_going, at_zero, at_more}
use Rattle.machine.proofs.Fitting.{Fits}

module _ (T : Tables) (room : ℕ) (m : Replies) where
  -- a turn at the limit, one with no allowance, and one that is not held back
  limit_by : (spent : Bool) (n : ℕ) (c : Term comp) (o : Outcome) → step T c ≡ o → NoVal c → leb limit n ≡ true → turn_by T room spent n o ≡ rests Limit
  limit_by spent n c (value v) p h e = absurd (h v (((steps_agree T c).value_is v).0 p))
  limit_by spent n c (calls x op i v k) p h e = rw e refl
  limit_by spent n c (next b) p h e = rw e refl
  limit_by spent n c stuck p h e = rw e refl

  paused_by : (n : ℕ) (c : Term comp) (o : Outcome) → step T c ≡ o → NoVal c → leb limit n ≡ false → turn_by T room true n o ≡ rests Paused
  paused_by n c (value v) p h e = absurd (h v (((steps_agree T c).value_is v).0 p))
  paused_by n c (calls x op i v k) p h e = rw e refl
  paused_by n c (next b) p h e = rw e refl
  paused_by n c stuck p h e = rw e refl

  steps_by : (n : ℕ) (c b : Term comp) → n < limit → ◌⇝◌ T c b → size b ≤ room → turn T room false n c ≡ goes b
  steps_by n c b low s h = ap (turn_by T room false n) (((steps_agree T c).next_is b).1 s) ∙ rw (lt-leb limit n low, le-ltb room (size b) h) refl

  full_by : (n : ℕ) (c b : Term comp) → n < limit → ◌⇝◌ T c b → room < size b → turn T room false n c ≡ rests Full
  full_by n c b low s h = ap (turn_by T room false n) (((steps_agree T c).next_is b).1 s) ∙ rw (lt-leb limit n low, lt-ltb room (size b) h) refl

  stuck_by : (n : ℕ) (c : Term comp) → n < limit → NoRule T c → (o : Outcome) → step T c ≡ o → turn_by T room false n o ≡ rests Refused
  stuck_by n c low h (value v) p = absurd (h.no_val v (((steps_agree T c).value_is v).0 p))
  stuck_by n c low h (calls x op i v k) p = absurd (h.no_call x op i v k (((steps_agree T c).asks_is x op i v k).0 p))
  stuck_by n c low h (next b) p = absurd (h.no_next b (((steps_agree T c).next_is b).0 p))
  stuck_by n c low h stuck p = rw (lt-leb limit n low) refl

  asks_by : (n : ℕ) (c : Term comp) (e op i : ℕ) (v : Term expr) (k : Term comp) → n < limit → c ≡ call e op (inst i) v k
      → turn T room false n c ≡ put_to_host (question T e op i v) k
  asks_by n c e op i v k low is =
      ap (turn_by T room false n) (((steps_agree T c).asks_is e op i v k).1 is) ∙ rw (lt-leb limit n low) refl

  -- where the computing form goes, with the questions of past in front
  abbrev Goes : List Question → ℕ → ℕ → Term comp → Gone
  Goes past left n c = having_put past (going T room left (after_all past m) n c)

  -- one turn of it
  abbrev By : List Question → ℕ → ℕ → Term comp → Turn → Gone
  By past left n c t = having_put past (one_turn T room (going T room left) t (after_all past m) n c)

  turned : (past : List Question) (left n : ℕ) (c : Term comp) (t : Turn) → turn T room false n c ≡ t → Goes past (suc left) n c ≡ By past left n c t
  turned past left n c t e = ap (having_put past) (going_on T room left (after_all past m) n c) ∙ ap (By past left n c) e

  -- a run of past and n, at rest at once
  abbrev Now : List Question → State → ℕ → Term comp → Gone
  Now past s n c = record { state = s; steps = n; put = past; computation = c }

  still : (past : List Question) (n : ℕ) (c : Term comp) (s : State) (g : Gone) → g ≡ rest s n c → having_put past g ≡ Now past s n c
  still past n c s g e = ap (having_put past) e ∙ ap (λ qs. Now qs s n c) (append-nil past)

  -- by any allowance
  ended : (past : List Question) (left n : ℕ) (c : Term comp) (s : State) → ((spent : Bool) → turn T room spent n c ≡ rests s) → Goes past left n c ≡ Now past s n c
  ended past zero n c s h = still past n c s _ (at_zero T room (after_all past m) n c s (h true))
  ended past (suc left) n c s h = still past n c s _ (at_more T room left (after_all past m) n c s (h false))

  -- with some allowance left
  more : (past : List Question) (left n : ℕ) (c : Term comp) (s : State) → Free (n + left) n → turn T room false n c ≡ rests s → Goes past left n c ≡ Now past s n c
  more past zero n c s f h = absurd (omega (arith, f.left))
  more past (suc left) n c s f h = still past n c s _ (at_more T room left (after_all past m) n c s h)

  none_left : (past : List Question) (left n : ℕ) (c : Term comp) → NoVal c → n < limit → n ≡ n + left → Goes past left n c ≡ Now past Paused n c
  none_left past zero n c h low e = still past n c Paused _ (at_zero T room (after_all past m) n c Paused (paused_by n c (step T c) refl h (lt-leb limit n low)))
  none_left past (suc left) n c h low e = absurd (omega (arith, e))

  refused : (past : List Question) (left n : ℕ) (c : Term comp) (e op i : ℕ) (v : Term expr) (k : Term comp) (q : Question) → Free (n + left) n
      → c ≡ call e op (inst i) v k → question T e op i v ≡ Some q → (r : Reply) → m past q ≡ r → Refusal r
      → Goes past left n c ≡ Now (past ++ (q ∷ [])) (Stopped q.call) n c
  refused past zero n c e op i v k q f is p r a h = absurd (omega (arith, f.left))
  refused past (suc left) n c e op i v k q f is p (Some w) a h = absurd h
  refused past (suc left) n c e op i v k q f is p None a h =
      turned past left n c _ (asks_by n c e op i v k f.below is ∙ ap (λ o. put_to_host o k) p)
      ∙ ap (λ r. having_put past (on_reply r q n c (λ w. going T room left (after q (after_all past m)) (suc n) (put 0 (term w) k))))
      (ap (λ l. m l q) (append-nil past) ∙ a)

  -- at rest
  at_rest : {past qs : List Question} {c : Term comp} {s : State} (n left : ℕ) → Rests T room m (n + left) past c n s qs → Goes past left n c ≡ Now qs s n c
  at_rest {past} {c = c} n left (done v is) =
      ended past left n c _ (λ spent. ap (turn_by T room spent n) (((steps_agree T c).value_is v).1 is))
  at_rest {past} {c = c} n left (at_limit h e) =
      ended past left n c Limit (λ spent. limit_by spent n c (step T c) refl h (le-leb limit n (omega (arith, e))))
  at_rest {past} {c = c} n left (paused h low e) = none_left past left n c h low e
  at_rest {past} {c = c} n left (stopped {e = e} {op = op} {i = i} {v = v} {k = k} {q = q} f is p r) =
      refused past left n c e op i v k q f is p (m past q) refl r
  at_rest {past} {c = c} n left (full b f s h) = more past left n c Full f (full_by n c b f.below s h)
  at_rest {past} {c = c} n left (unruled f h) = more past left n c Refused f (stuck_by n c f.below h (step T c) refl)
  at_rest {past} {c = c} n left (unasked {e = e} {op = op} {i = i} {v = v} {k = k} f is p) =
      more past left n c Refused f (asks_by n c e op i v k f.below is ∙ ap (λ o. put_to_host o k) p)

  -- a question in front, put here or behind those of past
  put_here : (past : List Question) (left n : ℕ) (c : Term comp) (q : Question)
      → having_put past (having_put (q ∷ []) (going T room left (after q (after_all past m)) n c)) ≡ Goes (past ++ (q ∷ [])) left n c
  put_here past left n c q =
      let alike : Alike (after q (after_all past m)) (after_all (past ++ (q ∷ [])) m) = record { same = λ qs p. ap (λ l. m l p) (sym (append_assoc past (q ∷ []) qs)) } in
      ap (λ (g : Gone). having_put past (having_put (q ∷ []) g)) (same_going T room left _ _ alike n c)
      ∙ (λ i. let g = going T room left (after_all (past ++ (q ∷ [])) m) n c in Now (sym (append_assoc past (q ∷ []) g.put) i) g.state g.steps g.computation)

  -- by steps and answers
  leads : {past qs ps : List Question} {c b : Term comp} {k : ℕ} {s : State} (n left : ℕ) → Reaches T m past c k qs b → k ≤ left → n + k ≤ limit
      → Fits T room m past c k → Rests T room m (n + left) (past ++ qs) b (n + k) s ps → Goes past left n c ≡ Now ps s (n + k) b
  leads {past} {ps = ps} {c = c} {s = s} n left stays l low f r =
      at_rest n left (subst (λ j. Rests T room m (n + left) past c j s ps) (add-zero n) (subst (λ x. Rests T room m (n + left) x c (n + 0) s ps) (append-nil past) r))
      ∙ ap (λ j. Now ps s j c) (sym (add-zero n))
  leads n zero (steps p g) l low f r = absurd (omega (arith, l))
  leads n zero (answers p a g) l low f r = absurd (omega (arith, l))
  leads {past} {qs} {ps} {c} {b = a} {s = s} n (suc left) (steps {b = b} {n = k} p g) l low f r =
      let e : n + suc k ≡ suc n + k = omega arith in
      let h : n + suc left ≡ suc n + left = omega arith in
      turned past left n c (goes b) (steps_by n c b (omega (arith, low)) p (f.fits 1 [] b (steps p stays) (omega arith)))
      ∙ leads (suc n) left g (omega (arith, l)) (omega (arith, low)) (record { fits = λ j xs d y le. f.fits (suc j) xs d (steps p y) (omega (arith, le)) })
      (subst (λ j. Rests T room m (suc n + left) (past ++ qs) a j s ps) e (subst (λ x. Rests T room m x (past ++ qs) a (n + suc k) s ps) h r))
      ∙ ap (λ j. Now ps s j a) (sym e)
  leads {past} {ps = ps} {b = d} {s = s} n (suc left) (answers {qs = qs} {e = x} {op = op} {i = i} {v = v} {k = y} {n = k} {q = q} {w = w} p a g) l low f r =
      let e : n + suc k ≡ suc n + k = omega arith in
      let h : n + suc left ≡ suc n + left = omega arith in
      turned past left n (call x op (inst i) v y) _ (asks_by n (call x op (inst i) v y) x op i v y (omega (arith, low)) refl ∙ ap (λ o. put_to_host o y) p)
      ∙ ap (λ r. having_put past (on_reply r q n (call x op (inst i) v y) (λ w. going T room left (after q (after_all past m)) (suc n) (put 0 (term w) y))))
      (ap (λ l. m l q) (append-nil past) ∙ a)
      ∙ put_here past left (suc n) (put 0 (term w) y) q
      ∙ leads (suc n) left g (omega (arith, l)) (omega (arith, low)) (record { fits = λ j xs b z le. f.fits (suc j) (q ∷ xs) b (answers p a z) (omega (arith, le)) })
      (subst (λ xs. Rests T room m (suc n + left) xs d (suc n + k) s ps) (sym (append_assoc past (q ∷ []) qs))
      (subst (λ j. Rests T room m (suc n + left) (past ++ (q ∷ qs)) d j s ps) e (subst (λ x. Rests T room m x (past ++ (q ∷ qs)) d (n + suc k) s ps) h r)))
      ∙ ap (λ j. Now ps s j d) (sym e)

  pub only : (c : Term comp) (allowance : ℕ) (g : Gone) → Ran T room m c allowance g → g ≡ going T room allowance m 0 c
  only c allowance g r =
      let e : 0 + g.steps ≡ g.steps = omega arith in
      let h : 0 + allowance ≡ allowance = omega arith in
      sym (leads 0 allowance r.reaches r.within (omega (arith, r.limited)) (record { fits = r.fits })
      (subst (λ j. Rests T room m (0 + allowance) r.answered g.computation j g.state g.put) (sym e)
      (subst (λ x. Rests T room m x r.answered g.computation g.steps g.state g.put) (sym h) r.rests))
      ∙ ap (λ j. Now g.put g.state j g.computation) e)

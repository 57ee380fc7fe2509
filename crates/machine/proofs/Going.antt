-- What a run goes to comes from replies alone, and two allowances go as far as their sum.
use Rattle.std.proofs.Common.{◌≡◌, ℕ, zero, suc, ◌+◌, Bool, true, false, cond, ltb, leb, ◌⊎◌, [], ◌∷◌, Some, None, Option, sym, refl, ap, ◌∙◌, inl, inr, suc-add, zero-add}
use Rattle.eff.specs.Sorts.{comp}
use Rattle.eff.specs.Syntax.{Term, size}
use Rattle.eff.specs.Tables.{Tables}
use Rattle.eff.specs.Outcome.{Outcome, value, asks as calls, next, stuck, step}
use Rattle.eff.specs.Questions.{question}
use Rattle.eff.specs.declared.question.Question.{Question}
use Rattle.eff.specs.declared.question.Value.{Value}
use Rattle.eff.specs.Questions.{Reply}
use Rattle.host.specs.Meaning.{Replies, Alike, after}
use Rattle.machine.specs.declared.report.State.{State}
use Rattle.machine.specs.declared.report.State.TheVariants.{Refused, Paused, Full, Limit}
use Rattle.machine.specs.Turns.{limit, Turn, rests, asks, goes, put_to_host, held_back, turn_by, turn, Gone, rest, having_put, on_turn, on_reply, going, paused, after_all, only_if, advanced}

module _ (T : Tables) (room : ℕ) where
  abbrev G : Type 0
  G = (m : Replies) (n : ℕ) (c : Term comp) → Gone

  -- one turn of a run that may go on, by what it goes to then
  abbrev pub one_turn : G → Turn → Replies → ℕ → Term comp → Gone
  one_turn on t m n c = on_turn t n c (λ b. on m (suc n) b) (λ q k. on_reply (m [] q) q n c (λ w. on (after q m) (suc n) (k w)))

  pub going_on : (left : ℕ) (m : Replies) (n : ℕ) (c : Term comp)
      → going T room (suc left) m n c ≡ one_turn (going T room left) (turn T room false n c) m n c
  unfolding going
  going_on left m n c = refl

  abbrev Same : G → Type 0
  Same on = (m m' : Replies) → Alike m m' → (n : ℕ) (c : Term comp) → on m n c ≡ on m' n c

  same_reply : (on : G) → Same on → (m m' : Replies) → Alike m m' → (n : ℕ) (c : Term comp) (q : Question) (k : Value → Term comp) (r : Reply)
      → on_reply r q n c (λ w. on (after q m) (suc n) (k w)) ≡ on_reply r q n c (λ w. on (after q m') (suc n) (k w))
  same_reply on s m m' h n c q k (Some w) =
      ap (having_put (q ∷ [])) (s (after q m) (after q m') (record { same = λ qs p. h.same (q ∷ qs) p }) (suc n) (k w))
  same_reply on s m m' h n c q k None = refl

  same_turn : (on : G) → Same on → (t : Turn) (m m' : Replies) → Alike m m' → (n : ℕ) (c : Term comp) → one_turn on t m n c ≡ one_turn on t m' n c
  same_turn on s (rests x) m m' h n c = refl
  same_turn on s (asks q k) m m' h n c =
      same_reply on s m m' h n c q k (m [] q) ∙ ap (λ r. on_reply r q n c (λ w. on (after q m') (suc n) (k w))) (h.same [] q)
  same_turn on s (goes b) m m' h n c = s m m' h (suc n) b

  pub with_none : (m m' : Replies) (n : ℕ) (c : Term comp) → going T room zero m n c ≡ going T room zero m' n c
  unfolding going
  with_none m m' n c = refl

  -- hosts that reply alike lead alike
  pub same_going : (left : ℕ) → Same (going T room left)
  same_going zero m m' h n c = with_none m m' n c
  same_going (suc left) m m' h n c =
      going_on left m n c ∙ same_turn (going T room left) (same_going left) (turn T room false n c) m m' h n c ∙ sym (going_on left m' n c)

  -- how a turn rests: so whether the allowance is spent or not, or because it is
  pub data Turned (n : ℕ) (o : Outcome) : Type 0 where
    ended : (s : State) → paused s ≡ false → turn_by T room true n o ≡ rests s → turn_by T room false n o ≡ rests s → Turned n o
    spent : turn_by T room true n o ≡ rests Paused → Turned n o

  held : (n : ℕ) (t : Turn) (b : Bool) → leb limit n ≡ b
      → ((held_back true n t ≡ rests Limit) × (held_back false n t ≡ rests Limit)) ⊎ (held_back true n t ≡ rests Paused)
  held n t true e = inl (ap (λ b. cond b (rests Limit) (rests Paused)) e, ap (λ b. cond b (rests Limit) t) e)
  held n t false e = inr (ap (λ b. cond b (rests Limit) (rests Paused)) e)

  pub turned : (n : ℕ) (o : Outcome) → Turned n o
  turned n (value v) = ended _ refl refl refl
  turned n (calls e op i v k) =
      elim (held n (put_to_host (question T e op i v) k) (leb limit n) refl) [ inl p ↦ ended Limit refl p.0 p.1 | inr p ↦ spent p ]
  turned n (next b) =
      elim (held n (cond (ltb room (size b)) (rests Full) (goes b)) (leb limit n) refl) [ inl p ↦ ended Limit refl p.0 p.1 | inr p ↦ spent p ]
  turned n stuck = elim (held n (rests Refused) (leb limit n) refl) [ inl p ↦ ended Limit refl p.0 p.1 | inr p ↦ spent p ]

  pub at_zero : (m : Replies) (n : ℕ) (c : Term comp) (s : State) → turn T room true n c ≡ rests s → going T room zero m n c ≡ rest s n c
  unfolding going
  at_zero m n c s e = ap (λ t. on_turn t n c (λ b. rest Paused n c) (λ q k. rest Paused n c)) e

  pub at_more : (left : ℕ) (m : Replies) (n : ℕ) (c : Term comp) (s : State) → turn T room false n c ≡ rests s → going T room (suc left) m n c ≡ rest s n c
  at_more left m n c s e = going_on left m n c ∙ ap (λ t. one_turn (going T room left) t m n c) e

  -- with no allowance, a run that is done or at its limit rests so by any allowance; any other is paused
  from_zero : (b : ℕ) (m : Replies) (n : ℕ) (c : Term comp) → Turned n (step T c) → going T room b m n c ≡ advanced T room b m (going T room zero m n c)
  from_zero b m n c (ended s f e e') = by b ∙ sym (ap (advanced T room b m) (at_zero m n c s e) ∙ ap (λ x. only_if x (rest s n c) (λ _. having_put [] (going T room b (after_all [] m) n c))) f)
    where
      by : (b : ℕ) → going T room b m n c ≡ rest s n c
      by zero = at_zero m n c s e
      by (suc b) = at_more b m n c s e'
  from_zero b m n c (spent e) = sym (ap (advanced T room b m) (at_zero m n c Paused e))

  -- a turn that is a pause
  abbrev pausing : Turn → Bool
  pausing (rests s) = paused s
  pausing (asks q k) = false
  pausing (goes b) = false

  held_on : (n : ℕ) (t : Turn) (b : Bool) → pausing t ≡ false → pausing (cond b (rests Limit) t) ≡ false
  held_on n t true h = refl
  held_on n t false h = h

  put_on : (q : Option Question) (k : Term comp) → pausing (put_to_host q k) ≡ false
  put_on (Some q) k = refl
  put_on None k = refl

  step_on : (x : Bool) (b : Term comp) → pausing (cond x (rests Full) (goes b)) ≡ false
  step_on true b = refl
  step_on false b = refl

  -- a run that has some allowance left is not paused
  unpaused : (n : ℕ) (o : Outcome) → pausing (turn_by T room false n o) ≡ false
  unpaused n (value v) = refl
  unpaused n (calls e op i v k) = held_on n _ (leb limit n) (put_on (question T e op i v) k)
  unpaused n (next b) = held_on n _ (leb limit n) (step_on (ltb room (size b)) b)
  unpaused n stuck = held_on n (rests Refused) (leb limit n) refl

  abbrev Joins : ℕ → ℕ → Type 0
  Joins a b = (m : Replies) (n : ℕ) (c : Term comp) → going T room (a + b) m n c ≡ advanced T room b m (going T room a m n c)

  -- a question in front of both
  in_front : (b : ℕ) (m : Replies) (q : Question) (g : Gone) (x : Bool) → paused g.state ≡ x
      → having_put (q ∷ []) (advanced T room b (after q m) g) ≡ advanced T room b m (having_put (q ∷ []) g)
  in_front b m q g x e =
      ap (λ x. having_put (q ∷ []) (only_if x g (λ _. having_put g.put (going T room b (after_all g.put (after q m)) g.steps g.computation)))) e
      ∙ by x
      ∙ sym (ap (λ x. only_if x (having_put (q ∷ []) g) (λ _. having_put (q ∷ g.put) (going T room b (after_all (q ∷ g.put) m) g.steps g.computation))) e)
    where
      by : (x : Bool) → having_put (q ∷ []) (only_if x g (λ _. having_put g.put (going T room b (after_all g.put (after q m)) g.steps g.computation)))
          ≡ only_if x (having_put (q ∷ []) g) (λ _. having_put (q ∷ g.put) (going T room b (after_all (q ∷ g.put) m) g.steps g.computation))
      by true = refl
      by false = refl

  joins_reply : (a b : ℕ) → Joins a b → (m : Replies) (n : ℕ) (c : Term comp) (q : Question) (k : Value → Term comp) (r : Reply)
      → on_reply r q n c (λ w. going T room (a + b) (after q m) (suc n) (k w)) ≡ advanced T room b m (on_reply r q n c (λ w. going T room a (after q m) (suc n) (k w)))
  joins_reply a b h m n c q k (Some w) =
      ap (having_put (q ∷ [])) (h (after q m) (suc n) (k w)) ∙ in_front b m q (going T room a (after q m) (suc n) (k w)) _ refl
  joins_reply a b h m n c q k None = refl

  joins_turn : (a b : ℕ) → Joins a b → (t : Turn) → pausing t ≡ false → (m : Replies) (n : ℕ) (c : Term comp)
      → one_turn (going T room (a + b)) t m n c ≡ advanced T room b m (one_turn (going T room a) t m n c)
  joins_turn a b h (rests s) p m n c = sym (ap (λ x. only_if x (rest s n c) (λ _. having_put [] (going T room b (after_all [] m) n c))) p)
  joins_turn a b h (asks q k) p m n c = joins_reply a b h m n c q k (m [] q)
  joins_turn a b h (goes d) p m n c = h m (suc n) d

  -- an advance by b after one by a goes as far as one by their sum
  pub joins : (a b : ℕ) → Joins a b
  joins zero b m n c = ap (λ x. going T room x m n c) (zero-add b) ∙ from_zero b m n c (turned n (step T c))
  joins (suc a) b m n c =
      ap (λ x. going T room x m n c) (suc-add a b) ∙ going_on (a + b) m n c
      ∙ joins_turn a b (joins a b) (turn T room false n c) (unpaused n (step T c)) m n c ∙ ap (advanced T room b m) (sym (going_on a m n c))

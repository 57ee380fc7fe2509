-- What a computation does, by the answer to it; for the crates above.
use Rattle.std.proofs.Common.{◌≡◌, ℕ, ◌<◌, Bool, true, false, cond, ltb, List, take, Some, None, Option, Ok, Err, sym, refl, ap, ◌∙◌, arith}
use Rattle.std.proofs.lemmas.Bool.{ltb-true}
use Rattle.eff.specs.Sorts.{expr, comp}
use Rattle.eff.specs.Spelling.{term_of}
use Rattle.eff.specs.Syntax.{Term, size}
use Rattle.eff.specs.Tables.{Tables}
use Rattle.eff.specs.Questions.{question}
use Rattle.eff.specs.Outcome.{Outcome, value, asks, next, stuck, step}
use Rattle.eff.specs.declared.part.Part.{Part}
use Rattle.eff.specs.declared.question.Question.{Question}
use Rattle.eff.proofs.Spelling.{term_back}
use Rattle.step.specs.declared.stepping.Asking.{Asking}
use Rattle.step.specs.declared.halt.Halt.TheVariants.{Stuck, Full}
use Rattle.step.specs.declared.stepping.Outcome.TheVariants.{Value as Rests, Asks, Next}
use Rattle.step.specs.declared.value.Shown.{Shown}
use Rattle.step.specs.Values.{shown}
use Rattle.step.specs.Steps.{Answer, question_of, Asked, Answers, Steps}
use Rattle.step.proofs.Rooms.{written_is}

-- answers are told apart by numbers
abbrev tag : Answer → ℕ
tag (Ok (Rests s)) = 0
tag (Ok (Asks a)) = 1
tag (Ok (Next n)) = 2
tag (Err Full) = 3
tag (Err Stuck) = 4

differ : {X : Type 0} (r r' : Answer) → (tag r ≡ tag r' → ⊥) → r ≡ r' → X
differ r r' n e = absurd (n (ap tag e))

no_question : {X : Type 0} (q : Option Question) (c : Term comp) (r : Answer) → (tag r ≡ 1 → ⊥) → (tag r ≡ 4 → ⊥) → Asked q c r → X
no_question (Some q) c (Ok (Asks a)) l m h = absurd (l refl)
no_question (Some q) c (Ok (Rests s)) l m h = absurd h
no_question (Some q) c (Ok (Next n)) l m h = absurd h
no_question (Some q) c (Err Full) l m h = absurd h
no_question (Some q) c (Err Stuck) l m h = absurd h
no_question None c r l m h = differ r (Err Stuck) m h

-- the computation that is written is its next one
pub to_next : {T : Tables} {ps : List Part} {room : ℕ} {new : List Part} {n : ℕ} → Steps T ps room new (Ok (Next n)) → step T (term_of ps) ≡ next (term_of (take n new))
to_next {T} {ps} {room} {new} {n} f = go (step T (term_of ps)) f.answers
  where
    go : (o : Outcome) → Answers T o room new (Ok (Next n)) → o ≡ next (term_of (take n new))
    go (value v) h = differ (Ok (Next n)) (Ok (Rests (shown v))) (λ e. omega arith) h
    go (asks e op i v c) h = no_question (question_of T e op i v) c (Ok (Next n)) (λ e. omega arith) (λ e. omega arith) h
    go (next b) h = ap (λ (t : Term comp). next t) (sym (written_is h))
    go stuck h = differ (Ok (Next n)) (Err Stuck) (λ e. omega arith) h

-- it has a next one, for which there is no room
pub record NoRoom (T : Tables) (ps : List Part) (room : ℕ) : Type 0 where
  pub b : Term comp
  pub is : step T (term_of ps) ≡ next b
  pub over : room < size b

pub no_room : {T : Tables} {ps : List Part} {room : ℕ} {new : List Part} → Steps T ps room new (Err Full) → NoRoom T ps room
no_room {T} {ps} {room} {new} f = go (step T (term_of ps)) refl f.answers
  where
    go : (o : Outcome) → step T (term_of ps) ≡ o → Answers T o room new (Err Full) → NoRoom T ps room
    go (value v) e h = differ (Err Full) (Ok (Rests (shown v))) (λ e. omega arith) h
    go (asks f op i v c) e h = no_question (question_of T f op i v) c (Err Full) (λ e. omega arith) (λ e. omega arith) h
    go (next b) e h = record { b = b; is = e; over = h.over }
    go stuck e h = differ (Err Full) (Err Stuck) (λ e. omega arith) h

-- it is a val of the value that is shown
abbrev shown_in : Shown → Answer → Shown
shown_in s (Ok (Rests t)) = t
shown_in s (Ok (Asks a)) = s
shown_in s (Ok (Next n)) = s
shown_in s (Err Full) = s
shown_in s (Err Stuck) = s

pub record AtRest (T : Tables) (ps : List Part) (s : Shown) : Type 0 where
  pub v : Term expr
  pub is : step T (term_of ps) ≡ value v
  pub shows : s ≡ shown v

pub at_rest : {T : Tables} {ps : List Part} {room : ℕ} {new : List Part} {s : Shown} → Steps T ps room new (Ok (Rests s)) → AtRest T ps s
at_rest {T} {ps} {room} {new} {s} f = go (step T (term_of ps)) refl f.answers
  where
    go : (o : Outcome) → step T (term_of ps) ≡ o → Answers T o room new (Ok (Rests s)) → AtRest T ps s
    go (value v) e h = record { v = v; is = e; shows = ap (shown_in s) h }
    go (asks f op i v c) e h = no_question (question_of T f op i v) c (Ok (Rests s)) (λ e. omega arith) (λ e. omega arith) h
    go (next b) e h = absurd h
    go stuck e h = differ (Ok (Rests s)) (Err Stuck) (λ e. omega arith) h

-- it is a call of an instance that puts the question, with the continuation that is answered
pub record ToAsk (T : Tables) (ps : List Part) (a : Asking) : Type 0 where
  pub e : ℕ
  pub op : ℕ
  pub i : ℕ
  pub v : Term expr
  pub is : step T (term_of ps) ≡ asks e op i v (term_of a.continuation.now)
  pub puts : question T e op i v ≡ Some a.question
  pub small : i < 256

pub to_ask : {T : Tables} {ps : List Part} {room : ℕ} {new : List Part} {a : Asking} → Steps T ps room new (Ok (Asks a)) → ToAsk T ps a
to_ask {T} {ps} {room} {new} {a} f = go (step T (term_of ps)) refl f.answers
  where
    go : (o : Outcome) → step T (term_of ps) ≡ o → Answers T o room new (Ok (Asks a)) → ToAsk T ps a
    go (value v) e h = differ (Ok (Asks a)) (Ok (Rests (shown v))) (λ e. omega arith) h
    go (asks f op i v c) e h = by (ltb i 256) refl (question T f op i v) refl h
      where
        by : (b : Bool) → ltb i 256 ≡ b → (q : Option Question) → question T f op i v ≡ q → Asked (cond b q None) c (Ok (Asks a)) → ToAsk T ps a
        by true l (Some q) p h =
            record {
              e = f;
              op = op;
              i = i;
              v = v;
              is = e ∙ ap (λ (t : Term comp). asks f op i v t) (sym (term_back c) ∙ ap term_of (sym h.goes_on));
              puts = p ∙ ap (λ (x : Question). Some x) (sym h.is);
              small = ltb-true i 256 l;
            }
        by true l None p h = differ (Ok (Asks a)) (Err Stuck) (λ e. omega arith) h
        by false l q p h = differ (Ok (Asks a)) (Err Stuck) (λ e. omega arith) h
    go (next b) e h = absurd h
    go stuck e h = differ (Ok (Asks a)) (Err Stuck) (λ e. omega arith) h

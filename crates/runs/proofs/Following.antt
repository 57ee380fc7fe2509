-- The code's answers to a computation follow the turns of the definition.
use Rattle.std.proofs.Common.{◌≡◌, ℕ, ◌<◌, ◌≤◌, Bool, true, false, cond, List, ◌++◌, length, Some, None, Option, Ok, sym, ap, ◌∙◌, subst, arith}
use borrow.Author.Tests.{lt-leb}
use Rattle.std.proofs.lemmas.List.{take-append-le}
use Rattle.eff.specs.Sorts.{comp}
use Rattle.eff.specs.Syntax.{Term, size, flatten, put}
use Rattle.eff.specs.Spelling.{term_of}
use Rattle.eff.specs.Tables.{Tables}
use Rattle.eff.specs.Outcome.{Outcome, value, asks as calls, next, stuck}
use Rattle.eff.specs.Questions.{question, term}
use Rattle.eff.specs.declared.part.Part.{Part}
use Rattle.eff.specs.declared.question.Question.{Question}
use Rattle.eff.specs.declared.question.Value.{Value}
use Rattle.host.specs.Meaning.{Replies}
use Rattle.step.specs.declared.stepping.Asking.{Asking}
use Rattle.step.specs.declared.stepping.Outcome.TheVariants.{Asks}
use Rattle.step.specs.Steps.{Written, Answers as Follows, Asked}
use Rattle.machine.specs.declared.report.State.TheVariants.{Limit}
use Rattle.machine.specs.Turns.{limit, Turn, turn, rests, asks, held_back, put_to_host, turn_by}
use Rattle.runs.specs.declared.turn.Turn.{Turn as Code}
use Rattle.runs.specs.declared.turn.Turn.TheVariants.{Rests, Stops, Steps, Answers}
use Rattle.runs.specs.Turned.{in_a_byte, GoingTurn, AnsweredAt, Put, Turned}
use Rattle.step.proofs.Resumption.{keeps_size}

-- the turn asks the question of an asking, whose continuation is k
pub record AsksSo (t : Turn) (a : Asking) : Type 0 where
  pub continuation : Term comp
  pub is : t ≡ asks a.question (λ w. put 0 (term w) continuation)
  pub parts : a.continuation.now ≡ flatten continuation

put_so : (q : Option Question) (c : Term comp) (a : Asking) → Asked q c (Ok (Asks a)) → AsksSo (put_to_host q c) a
put_so (Some q) c a h = record { continuation = c; is = ap (λ x. asks x (λ w. put 0 (term w) c)) (sym h.is); parts = h.goes_on }
put_so None c a e = absurd (let z : ◌≡◌ {A = ℕ} 0 1 = cc in omega arith)

module _ (T : Tables) (room : ℕ) (n : ℕ) (low : n < limit) where
  -- a run below its limit with some allowance left is not held back
  free : (t : Turn) → held_back false n t ≡ t
  free t = ap (λ b. cond b (rests Limit) t) (lt-leb limit n low)

  pub asks_follow : (o : Outcome) (any-room : ℕ) (new : List Part) (a : Asking) → Follows T o any-room new (Ok (Asks a)) → in_a_byte o ≡ true → AsksSo (turn_by T room false n o) a
  asks_follow (value v) r new a e b = absurd (let z : ◌≡◌ {A = ℕ} 0 1 = cc in omega arith)
  asks_follow (calls e op i v c) r new a h b =
      subst (λ t. AsksSo t a) (sym (free (put_to_host (question T e op i v) c)))
      (put_so (question T e op i v) c a (subst (λ x. Asked (cond x (question T e op i v) None) c (Ok (Asks a))) b h))
  asks_follow (next b) r new a h b' = absurd h
  asks_follow stuck r new a e b = absurd (let z : ◌≡◌ {A = ℕ} 0 1 = cc in omega arith)

-- a question that is put is the turn's
pub put_turned : (t : Turn) (q : Question) (k : Term comp) (any-room room : ℕ) (m m' : Replies) (new : List Part) (r : Code)
    → t ≡ asks q (λ w. put 0 (term w) k) → size k ≤ room → Put q k any-room m m' new r → Turned t room m m' new r
put_turned t q k any-room room m m' new (Rests s) is le h = absurd h
put_turned t q k any-room room m m' new (Stops call) is le h = (record { question = q; on = λ w. put 0 (term w) k; is = is }, h)
put_turned t q k any-room room m m' new (Steps n) is le h = absurd h
put_turned t q k any-room room m m' new (Answers n) is le h = (
  record { question = q; on = λ w. put 0 (term w) k; is = is },
  record {
    reply = h.reply;
    answered = h.answered;
    written = record { size_is = h.written.size_is; fits = omega (arith, h.written.size_is, keeps_size h.reply k, le); parts = h.written.parts };
    means = h.means;
  },
)

-- more parts behind those that are written
widened : {b : Term comp} {room : ℕ} {new : List Part} {n : ℕ} (more : List Part) → room ≤ length new → Written b room new n → Written b room (new ++ more) n
widened {b} {room} {new} {n} more l w = record { size_is = w.size_is; fits = w.fits; parts = take-append-le n new more (omega (arith, w.fits)) ∙ w.parts }

pub going_widened : {t : Turn} {room : ℕ} {new : List Part} {n : ℕ} (more : List Part) → room ≤ length new → GoingTurn t room new n → GoingTurn t room (new ++ more) n
going_widened more l g = record { to = g.to; is = g.is; written = widened more l g.written }

pub answered_widened : {q : Question} {on : Value → Term comp} {room : ℕ} {m m' : Replies} {new : List Part} {n : ℕ} (more : List Part) → room ≤ length new
    → AnsweredAt q on room m m' new n → AnsweredAt q on room m m' (new ++ more) n
answered_widened more l a = record { reply = a.reply; answered = a.answered; written = widened more l a.written; means = a.means }

-- a turn of equal parts in an equal room
pub turned_so : (T : Tables) {ps qs : List Part} {small room : ℕ} (spent : Bool) (steps : ℕ) (m m' : Replies) (new : List Part) (r : Code) → ps ≡ qs → small ≡ room
    → Turned (turn T small spent steps (term_of ps)) small m m' new r → Turned (turn T room spent steps (term_of qs)) room m m' new r
turned_so T {ps} {qs} {small} {room} spent steps m m' new r e f h =
    subst (λ n. Turned (turn T n spent steps (term_of qs)) n m m' new r) f
    (subst (λ (l : List Part). Turned (turn T small spent steps (term_of l)) small m m' new r) e h)

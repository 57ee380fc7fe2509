-- What a computation does next, as it is answered.
use Rattle.std.specs.Prelude.{◌≡◌, ℕ, ◌<◌, ◌≤◌, cond, List, length, take, Some, None, Option, Ok, Err, Result, nat_lt}
use Rattle.eff.specs.Sorts.{expr, comp}
use Rattle.eff.specs.Syntax.{Term, flatten, size, put}
use Rattle.eff.specs.Spelling.{term_of, Whole}
use Rattle.eff.specs.Tables.{Tables}
use Rattle.eff.specs.Outcome.{Outcome, value, asks, next, stuck, step}
use Rattle.eff.specs.Questions.{question, term, cut}
use Rattle.eff.specs.declared.part.Part.{Part}
use Rattle.eff.specs.declared.question.Value.{Value}
use Rattle.eff.specs.declared.question.Question.{Question}
use Rattle.step.specs.declared.halt.Halt.{Halt}
use Rattle.step.specs.declared.halt.Halt.TheVariants.{Stuck, Full}
use Rattle.step.specs.declared.stepping.Asking.{Asking}
use Rattle.step.specs.declared.stepping.Outcome.{Outcome as Doing}
use Rattle.step.specs.declared.stepping.Outcome.TheVariants.{Value as Rests, Asks, Next}
use Rattle.step.specs.Values.{shown}

-- what a computation is told to do next, or why it has no next one written
abbrev pub Answer : Type 0
Answer = Result Doing Halt

-- the question of a call; of an instance whose number is 256 or more there is none
abbrev pub question_of : Tables → (e op i : ℕ) → Term expr → Option Question
question_of T e op i v = cond (nat_lt i 256) (question T e op i v) None

-- this question is put, and c is its continuation
pub record PutQuestion (q : Question) (c : Term comp) (a : Asking) : Type 0 where
  pub is : a.question ≡ q
  pub goes_on : a.continuation.now ≡ flatten c

-- the question of a call with the continuation c is put; where there is none, the computation is stuck
abbrev pub Asked : Option Question → Term comp → Answer → Type 0
Asked (Some q) c (Ok (Asks a)) = PutQuestion q c a
Asked (Some q) c (Ok (Rests s)) = ⊥
Asked (Some q) c (Ok (Next n)) = ⊥
Asked (Some q) c (Err h) = ⊥
Asked None c r = r ≡ Err Stuck

-- the computation b is written, and fits
pub record Written (b : Term comp) (room : ℕ) (new : List Part) (n : ℕ) : Type 0 where
  pub size_is : n ≡ size b
  pub fits : n ≤ room
  pub parts : take n new ≡ flatten b

-- the computation b has more parts than there is room for
pub record TooLarge (b : Term comp) (room : ℕ) : Type 0 where
  pub over : room < size b

-- An answer follows an outcome: a value is shown, a question put, a next computation written to the start of the new parts if there is room for it.
abbrev pub Answers : Tables → Outcome → ℕ → List Part → Answer → Type 0
Answers T (value v) room new r = r ≡ Ok (Rests (shown v))
Answers T (asks e op i v c) room new r = Asked (question_of T e op i v) c r
Answers T (next b) room new (Ok (Next n)) = Written b room new n
Answers T (next b) room new (Err Full) = TooLarge b room
Answers T (next b) room new (Ok (Rests s)) = ⊥
Answers T (next b) room new (Ok (Asks q)) = ⊥
Answers T (next b) room new (Err Stuck) = ⊥
Answers T stuck room new r = r ≡ Err Stuck

-- the answer to the computation of the parts follows its outcome
pub record Steps (T : Tables) (ps : List Part) (room : ℕ) (new : List Part) (r : Answer) : Type 0 where
  pub answers : Answers T (step T (term_of ps)) room new r

-- what is written is a computation within the room; a continuation is a computation, of no more parts than the one that asks
abbrev pub Within : ℕ → ℕ → List Part → Answer → Type 0
Within parts room new (Ok (Next n)) = Whole (take n new) × (n ≤ room)
Within parts room new (Ok (Asks a)) = Whole a.continuation.now × (length a.continuation.now ≤ parts)
Within parts room new (Ok (Rests s)) = Unit {0}
Within parts room new (Err h) = Unit {0}

-- a value and a question leave all parts as they were
abbrev pub Keeps : List Part → List Part → Answer → Type 0
Keeps was new (Ok (Rests s)) = new ≡ was
Keeps was new (Ok (Asks a)) = new ≡ was
Keeps was new (Ok (Next n)) = Unit {0}
Keeps was new (Err h) = Unit {0}

-- The continuation c is written with the value for its name. It keeps its size, so that there is room for it just where there is for c.
abbrev pub Resumes : Value → Term comp → ℕ → List Part → Option ℕ → Type 0
Resumes a c room new (Some n) = Written (put 0 (term (cut a)) c) room new n
Resumes a c room new None = TooLarge c room

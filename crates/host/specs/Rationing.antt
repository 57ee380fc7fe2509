-- The ration: what it means by the meaning of the host that it holds, and its law.
use Rattle.std.specs.Prelude.{◌≡◌, Bool, true, false, cond, ◌&&◌, List, [], ◌∷◌, ℕ, suc, ◌<◌, ◌≤◌, ◌+◌, ◌-◌, ltb, length, Some, None}
use Rattle.eff.specs.declared.question.Question.{Question}
use Rattle.eff.specs.Questions.{Reply}
use Rattle.host.specs.Meaning.{Replies, Known, Lawful, Refusal, Alike, after}

-- the questions of known calls among a list
abbrev pub known_among : Known → List Question → List Question
known_among known [] = []
known_among known (q ∷ qs) = cond (known q.call) (q ∷ known_among known qs) (known_among known qs)

-- the refusal of a ration whose count is spent
abbrev pub spent : Reply
spent = None

-- A ration of `count` refuses an unknown call; it passes down the first `count` questions of known calls.
abbrev pub rationed : Replies → Known → ℕ → Replies
rationed below known count = λ qs q.
    cond (known q.call)
    (cond (ltb (length (known_among known qs)) count) (below (known_among known qs) q) spent)
    None

-- whether a ration with `left` to spend passes a question down
abbrev pub passes_down : Known → ℕ → Question → Bool
passes_down known left q = known q.call && ltb 0 left

-- what is left after a question: a question passed down spends one
abbrev pub left_after : Known → ℕ → Question → ℕ
left_after known left q = cond (passes_down known left q) (left - 1) left

-- what the host below means after a question: only one passed down reaches it
abbrev pub below_after : Known → ℕ → Question → Replies → Replies
below_after known left q below = cond (passes_down known left q) (after q below) below

-- the replies to questions put one after another
abbrev pub told : Replies → List Question → List Reply
told replies [] = []
told replies (q ∷ qs) = replies [] q ∷ told (after q replies) qs

-- an answer counts 1, a refusal 0
abbrev pub answered : Reply → ℕ
answered (Some _) = 1
answered None = 0

-- how many of the replies are answers
abbrev pub answers : List Reply → ℕ
answers [] = 0
answers (r ∷ rs) = answered r + answers rs

-- The law of a ration over any host below.
pub record Rationed (below : Replies) (known : Known) : Type 0 where
  -- over a lawful meaning it is lawful
  pub lawful : (count : ℕ) → Lawful below known → Lawful (rationed below known count) known
  -- over any list of questions it answers at most its count
  pub at_most : (count : ℕ) (qs : List Question) → answers (told (rationed below known count) qs) ≤ count
  -- as long as some are left, it replies as the host below would after the questions passed down
  pub as_below : (count : ℕ) (qs : List Question) (q : Question) → known q.call ≡ true → length (known_among known qs) < count
      → rationed below known count qs q ≡ below (known_among known qs) q
  -- an unknown call is refused, and nothing is spent
  pub unknown : (count : ℕ) (q : Question) → known q.call ≡ false
      → Refusal (rationed below known count [] q) × Alike (after q (rationed below known count)) (rationed below known count)
  -- at count 0 it refuses, and nothing changes
  pub at_zero : (q : Question)
      → Refusal (rationed below known 0 [] q) × Alike (after q (rationed below known 0)) (rationed below known 0)
  -- otherwise it spends one and passes the question down
  pub passes : (count : ℕ) (q : Question) → known q.call ≡ true
      → (rationed below known (suc count) [] q ≡ below [] q)
      × Alike (after q (rationed below known (suc count))) (rationed (after q below) known count)
  -- a question that is not passed down leaves the count and the host below as they are; one that is spends one and is put to that host
  pub keeps : (count : ℕ) (q : Question) → known q.call ≡ false
      → (left_after known count q ≡ count) × Alike (below_after known count q below) below
  pub keeps_at_zero : (q : Question) → (left_after known 0 q ≡ 0) × Alike (below_after known 0 q below) below
  pub spends : (count : ℕ) (q : Question) → known q.call ≡ true
      → (left_after known (suc count) q ≡ count) × Alike (below_after known (suc count) q below) (after q below)

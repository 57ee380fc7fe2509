-- What a host means: what it would reply, and the calls that it knows.
use Rattle.std.specs.Prelude.{◌≡◌, Bool, false, List, ◌∷◌, ◌<◌, ◌^◌, Some, None}
use Rattle.eff.specs.declared.ground.Ground.TheVariants.{Empty as EmptyType}
use Rattle.eff.specs.declared.question.Call.{Call}
use Rattle.eff.specs.declared.question.Question.{Question}
use Rattle.eff.specs.declared.question.Value.{Value}
use Rattle.eff.specs.declared.question.Value.TheVariants.{Truth, Count, Unit as UnitValue}
use Rattle.eff.specs.Questions.{Reply, type_of}
-- here the reply to a question put after a list of others, all put from now on
pub use Rattle.eff.specs.Questions.{Replies}

-- the calls that are known
abbrev pub Known : Type 0
Known = Call → Bool

-- the same calls are known before and after
abbrev pub SameKnown : Known → Known → Type 0
SameKnown before after = (c : Call) → after c ≡ before c

-- what is meant once a question has been put: each list means what it meant with that question in front
abbrev pub after : Question → Replies → Replies
after q replies = λ qs. replies (q ∷ qs)

-- Two hosts of any kind reply alike: the same to the last of every list of questions.
pub record Alike (a b : Replies) : Type 0 where
  pub same : (qs : List Question) (q : Question) → a qs q ≡ b qs q

-- a value of one part: a nat is below 2^32
abbrev pub OnePart : Value → Type 0
OnePart (Truth _) = Unit {0}
OnePart (Count n) = n < 2 ^ 32
OnePart UnitValue = Unit {0}

-- an answer is a value of one part and of the type wanted
abbrev pub Typed : Question → Reply → Type 0
Typed q (Some v) = (type_of v ≡ q.wanted) × OnePart v
Typed q None = Unit {0}

-- a reply that refuses
abbrev pub Refusal : Reply → Type 0
Refusal (Some _) = ⊥
Refusal None = Unit {0}

-- The laws of every host, of a meaning alone.
pub record Lawful (replies : Replies) (known : Known) : Type 0 where
  pub typed : (qs : List Question) (q : Question) → Typed q (replies qs q)
  pub refuses : (qs : List Question) (q : Question) → known q.call ≡ false → Refusal (replies qs q)

-- What holds of every meaning.
pub record MeaningLaw : Type 0 where
  -- a lawful meaning is lawful after any question
  pub stays_lawful : (replies : Replies) (known : Known) → Lawful replies known → (q : Question) → Lawful (after q replies) known
  -- hosts that reply alike do so after any question put to both
  pub stays_alike : (a b : Replies) → Alike a b → (q : Question) → Alike (after q a) (after q b)
  -- where empty is wanted, there is no answer
  pub none_of_empty : (replies : Replies) (known : Known) → Lawful replies known
      → (qs : List Question) (q : Question) → q.wanted ≡ EmptyType → Refusal (replies qs q)

-- What an answer says of the slab.
use Rattle.std.proofs.Common.{◌≡◌, ℕ, ◌≤◌, List, length, take, Some, None, Option, Ok, Err, sym, refl, ap, ◌∙◌, subst, arith, length-append}
use Rattle.eff.specs.Sorts.{comp}
use Rattle.eff.specs.Spelling.{term_of, Whole}
use Rattle.eff.specs.Syntax.{Term, flatten, size}
use Rattle.eff.specs.Tables.{Tables}
use Rattle.eff.specs.Outcome.{Outcome, value, asks, next, stuck, step}
use Rattle.eff.specs.declared.part.Part.{Part}
use Rattle.eff.specs.declared.question.Question.{Question}
use Rattle.eff.proofs.Agree.{steps_agree}
use Rattle.eff.proofs.Spelling.{term_back, whole_parts, parts_whole}
use Rattle.step.specs.declared.halt.Halt.TheVariants.{Stuck, Full}
use Rattle.step.specs.declared.stepping.Outcome.TheVariants.{Value as Rests, Asks, Next}
use Rattle.step.specs.Steps.{Answer, question_of, Asked, Written, Answers, Steps, Within}

-- what is written is a computation
pub written_is : {b : Term comp} {room : ℕ} {new : List Part} {n : ℕ} → Written b room new n → term_of (take n new) ≡ b
written_is {b} h = ap term_of h.parts ∙ term_back b

pub written_whole : {b : Term comp} {room : ℕ} {new : List Part} {n : ℕ} → Written b room new n → Whole (take n new)
written_whole {b} {room} {new} {n} h = parts_whole (take n new) b h.parts

-- the bounds of an answer
asked_within : (parts room : ℕ) (new : List Part) (o : Option Question) (c : Term comp) (r : Answer) → size c ≤ parts → Asked o c r → Within parts room new r
asked_within parts room new (Some q) c (Ok (Asks a)) l h = (parts_whole a.continuation.now c h.goes_on, omega (arith, ap length h.goes_on))
asked_within parts room new (Some q) c (Ok (Rests s)) l h = absurd h
asked_within parts room new (Some q) c (Ok (Next n)) l h = absurd h
asked_within parts room new (Some q) c (Err x) l h = absurd h
asked_within parts room new None c r l h = subst (λ (r : Answer). Within parts room new r) (sym h) tt

pub within : {T : Tables} {ps : List Part} {room : ℕ} {new : List Part} (r : Answer) → Whole ps → Steps T ps room new r → Within (length ps) room new r
within {T} {ps} {room} {new} r w f = go (step T (term_of ps)) r refl f.answers
  where
    go : (o : Outcome) (r : Answer) → step T (term_of ps) ≡ o → Answers T o room new r → Within (length ps) room new r
    go (value v) r e h = subst (λ (r : Answer). Within (length ps) room new r) (sym h) tt
    go (asks f op i v c) r e h =
        let q = ((steps_agree T (term_of ps)).asks_is f op i v c).0 e in
        asked_within (length ps) room new (question_of T f op i v) c r
        (omega (arith, ap length (whole_parts ps w), ap (λ (t : Term comp). size t) q, length-append (flatten v) (flatten c))) h
    go (next b) (Ok (Next n)) e h = (written_whole h, h.fits)
    go (next b) (Err Full) e h = tt
    go (next b) (Ok (Rests s)) e h = absurd h
    go (next b) (Ok (Asks a)) e h = absurd h
    go (next b) (Err Stuck) e h = absurd h
    go stuck r e h = subst (λ (r : Answer). Within (length ps) room new r) (sym h) tt

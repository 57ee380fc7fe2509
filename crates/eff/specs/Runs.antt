-- Runs of a computation over a host.
use Rattle.std.specs.Prelude.{◌≡◌, ℕ, suc, List, [], ◌∷◌, ◌++◌, Some}
use Rattle.eff.specs.Sorts.{expr, comp}
use Rattle.eff.specs.Syntax.{Term, call, inst, put}
use Rattle.eff.specs.Types as t
use Rattle.eff.specs.Tables.{Tables}
use Rattle.eff.specs.Steps.{◌⇝◌}
use Rattle.eff.specs.Questions.{Of, term, question, Replies}
use Rattle.eff.specs.declared.question.Value.{Value}
use Rattle.eff.specs.declared.question.Question.{Question}

-- a host's answers are of the types wanted
abbrev pub Typed : Replies → Type 0
Typed m = (past : List Question) (q : Question) (w : Value) → m past q ≡ Some w → Of w (t.ground q.wanted)

-- Reaches past c n qs b: over a host that means m, after the questions of past, c reaches b by n steps and answers, putting the questions qs.
module _ (T : Tables) (m : Replies) where
  pub data Reaches : List Question → Term comp → ℕ → List Question → Term comp → Type 0 where
    stays : {past : List Question} {c : Term comp} → Reaches past c 0 [] c
    steps : {past qs : List Question} {c b a : Term comp} {n : ℕ} → ◌⇝◌ T c b → Reaches past b n qs a → Reaches past c (suc n) qs a
    answers : {past qs : List Question} {e op i : ℕ} {v : Term expr} {k a : Term comp} {n : ℕ} {q : Question} {w : Value} → question T e op i v ≡ Some q
        → m past q ≡ Some w → Reaches (past ++ (q ∷ [])) (put 0 (term w) k) n qs a → Reaches past (call e op (inst i) v k) (suc n) (q ∷ qs) a

-- what is reached, and the questions put, come from the computation, the meaning and the number alone
abbrev pub RunsAreDetermined : Type 0
RunsAreDetermined = (T : Tables) (m : Replies) (past qs qs' : List Question) (c b b' : Term comp) (n : ℕ) → Reaches T m past c n qs b
    → Reaches T m past c n qs' b' → (qs ≡ qs') × (b ≡ b')

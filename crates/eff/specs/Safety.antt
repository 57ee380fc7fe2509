-- Type safety, of a computation and over whole runs.
use Rattle.std.specs.Prelude.{◌≡◌, ℕ, List, [], ◌∷◌, Some}
use Rattle.eff.specs.Sorts.{expr, comp}
use Rattle.eff.specs.Syntax.{Term, val, call, inst, put}
use Rattle.eff.specs.Types.{Ty, Dirty}
use Rattle.eff.specs.Types as t
use Rattle.eff.specs.Tables.{Tables, Declares, takes, gives, Instance, type}
use Rattle.eff.specs.Dirt.{Dirts, Laws, ◌⊆◌, sets}
use Rattle.eff.specs.Checked.{Checked}
use Rattle.eff.specs.Rules.{Derives}
use Rattle.eff.specs.Claims.{HasType}
use Rattle.eff.specs.Steps.{◌⇝◌}
use Rattle.eff.specs.Outcome.{step, stuck}
use Rattle.eff.specs.Grounds.{grounded}
use Rattle.eff.specs.Questions.{Of, question, Replies}
use Rattle.eff.specs.Runs.{Typed, Reaches}
use Rattle.eff.specs.declared.ground.Ground.{Ground}
use Rattle.eff.specs.declared.question.Question.{Question}

module _ (T : Tables) (D : Dirts) where
  -- a question names a declared call of d, with an argument of the taken type, and wants the given one
  pub record Proper (d : ℕ) (q : Question) : Type 0 where
    pub effect : ℕ
    pub instance : Instance T q.call.instance effect
    pub operation : Declares T effect q.call.op
    pub within : ◌⊆◌ D (D.own q.call.instance q.call.op) d
    pub taken : Of q.argument (type T (takes T effect q.call.op))
    pub given : type T (gives T effect q.call.op) ≡ t.ground q.wanted

  abbrev pub AllProper : ℕ → List Question → Type 0
  AllProper d [] = Unit {0}
  AllProper d (q ∷ qs) = Proper d q × AllProper d qs

-- Over tables, a kind of dirt, and a typing of closed expressions, E, and closed computations, C.
module _ (T : Tables) (D : Dirts) (E : Term expr → Ty → Type 0) (C : Term comp → Dirty → Type 0) where
  -- c calls i#op, which is declared and in d, with an argument of the taken type, and any answer of the given type keeps A!d; if the signature is
  -- ground, it puts a question, and any question that it puts is proper.
  pub record Asks (c : Term comp) (A : Ty) (d : ℕ) : Type 0 where
    pub effect : ℕ
    pub op : ℕ
    pub i : ℕ
    pub argument : Term expr
    pub continuation : Term comp
    pub is : c ≡ call effect op (inst i) argument continuation
    pub instance : Instance T i effect
    pub operation : Declares T effect op
    pub within : ◌⊆◌ D (D.own i op) d
    pub taken : E argument (type T (takes T effect op))
    pub answered : (v : Term expr) → E v (type T (gives T effect op)) → C (put 0 v continuation) (A, d)
    pub asked : (g g' : Ground) → grounded (takes T effect op) ≡ Some g → grounded (gives T effect op) ≡ Some g'
        → (q : Question) × (question T effect op i argument ≡ Some q)
    pub proper : (q : Question) → question T effect op i argument ≡ Some q → Proper T D d q

  -- what a computation of type A!d does
  pub data GoesOn (c : Term comp) (A : Ty) (d : ℕ) : Type 0 where
    is_value : (v : Term expr) → c ≡ val v → E v A → GoesOn c A d
    steps : (b : Term comp) → ◌⇝◌ T c b → C b (A, d) → GoesOn c A d
    asks : Asks c A d → GoesOn c A d

  pub record Safe (c : Term comp) (A : Ty) (d : ℕ) : Type 0 where
    pub goes_on : GoesOn c A d
    pub every_step : (b : Term comp) → ◌⇝◌ T c b → C b (A, d)
    pub never_stuck : ¬ (step T c ≡ stuck)

  -- every computation of a type is safe at it
  abbrev pub AllSafe : Type 0
  AllSafe = (c : Term comp) (A : Ty) (d : ℕ) → C c (A, d) → Safe c A d

  -- whatever a computation of type A!d reaches has that type and is safe at it, and all its questions are proper
  pub record RunsSafely (b : Term comp) (A : Ty) (d : ℕ) (qs : List Question) : Type 0 where
    pub typed : C b (A, d)
    pub safe : Safe b A d
    pub proper : AllProper T D d qs

  -- over every host of typed answers
  abbrev pub AllRunSafely : Type 0
  AllRunSafely = (m : Replies) → Typed m → (past qs : List Question) (n : ℕ) (c b : Term comp) (A : Ty) (d : ℕ) → C c (A, d)
      → Reaches T m past c n qs b → RunsSafely b A d qs

-- by the inference rules over any kind of dirt
pub record SafeByRules (T : Tables) (D : Dirts) : Type 0 where
  pub safe : AllSafe T D (Derives T D expr []) (Derives T D comp [])
  pub runs : AllRunSafely T D (Derives T D expr []) (Derives T D comp [])

-- by claims that follow over call sets
pub record SafeByClaims (T : Tables) : Type 0 where
  pub safe : AllSafe T (sets T) (HasType T (sets T) expr) (HasType T (sets T) comp)
  pub runs : AllRunSafely T (sets T) (HasType T (sets T) expr) (HasType T (sets T) comp)

abbrev pub DerivationsAreSafe : Type 0
DerivationsAreSafe = (T : Tables) (D : Dirts) → Checked T D → Laws T D → SafeByRules T D

abbrev pub ClaimsAreSafe : Type 0
ClaimsAreSafe = (T : Tables) → Checked T (sets T) → SafeByClaims T

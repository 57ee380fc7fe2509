-- The cutter's law: a table of the questions that it answers, and what its depths do over whole runs.
use Rattle.std.specs.Prelude.{◌≡◌, ℕ, ◌*◌, ◌≤◌, max, true, ◌⊎◌, List, [], ◌∷◌, slice_set, Some}
use Rattle.eff.specs.declared.ground.Ground.TheVariants.{Nat as NatType, Unit as UnitType}
use Rattle.eff.specs.declared.question.Call.{Call}
use Rattle.eff.specs.declared.question.Question.{Question}
use Rattle.eff.specs.declared.question.Value.TheVariants.{Count, Unit as UnitValue}
use Rattle.host.specs.Meaning.{Refusal, Lawful}
use Rattle.cutter.specs.declared.action.Action.{Action}
use Rattle.cutter.specs.declared.action.Action.TheVariants.{Go, Cut, Feel}
use Rattle.cutter.specs.declared.state.State.{State}
use Rattle.cutter.specs.Actions.{motor_steps}
use Rattle.cutter.specs.Cutting.{Sound, fresh, depth_at, cutter_knows, state_after, cutting}

-- go to a position
abbrev pub go : ℕ → Question
go position = record { call = record { instance = 0; op = 0 }; argument = Count position; wanted = UnitType }

-- cut by micrometres
abbrev pub cut : ℕ → Question
cut micrometres = record { call = record { instance = 0; op = 1 }; argument = Count micrometres; wanted = UnitType }

-- feel the depth under the carriage
abbrev pub feel : Question
feel = record { call = record { instance = 0; op = 2 }; argument = UnitValue; wanted = NatType }

-- the question of each action
abbrev pub question_of : Action → Question
question_of (Go position) = go position
question_of (Cut micrometres) = cut micrometres
question_of Feel = feel

-- the positions are 0 to 15, and a cut takes at most 6,000 micrometres
abbrev pub InRange : Action → Type 0
InRange (Go position) = position ≤ 15
InRange (Cut micrometres) = micrometres ≤ 6000
InRange Feel = Unit {0}

-- the question of an action in range
abbrev pub Answered : Question → Type 0
Answered q = (a : Action) × InRange a × (q ≡ question_of a)

-- The law of the cutter.
pub record CutterLaw : Type 0 where
  -- its meaning is lawful from every sound state
  pub lawful : (s : State) → Sound s → Lawful (cutting s) cutter_knows
  -- going gives unit and moves the carriage alone
  pub goes : (s : State) (position : ℕ) → position ≤ 15
      → (cutting s [] (go position) ≡ Some UnitValue)
      × (state_after s (go position ∷ []) ≡ record { carriage = position; depths = s.depths })
  -- cutting gives unit, and the position under the carriage keeps the larger of its depth and the cut
  pub cuts : (s : State) (micrometres : ℕ) → micrometres ≤ 6000
      → (cutting s [] (cut micrometres) ≡ Some UnitValue)
      × (state_after s (cut micrometres ∷ [])
      ≡ record {
        carriage = s.carriage;
        depths = slice_set s.depths s.carriage (max (depth_at s s.carriage) (motor_steps micrometres));
      })
  -- feeling gives 50 times the depth under the carriage and moves nothing
  pub feels : (s : State)
      → (cutting s [] feel ≡ Some (Count (50 * depth_at s s.carriage))) × (state_after s (feel ∷ []) ≡ s)
  -- any other question is refused and moves nothing
  pub others : (s : State) (q : Question) → Answered q ⊎ (Refusal (cutting s [] q) × (state_after s (q ∷ []) ≡ s))
  -- a known call is that of some question that it answers
  pub known : (c : Call) → cutter_knows c ≡ true → (q : Question) × (q.call ≡ c) × Answered q
  -- a fresh cutter feels at each position what was cut there, and nothing at another
  pub felt : (position micrometres : ℕ) → position ≤ 15 → micrometres ≤ 6000
      → cutting fresh (go position ∷ cut micrometres ∷ []) feel ≡ Some (Count (50 * motor_steps micrometres))
  pub felt_elsewhere : (position other micrometres : ℕ) → ¬ (position ≡ other) → position ≤ 15 → other ≤ 15 → micrometres ≤ 6000
      → cutting fresh (go position ∷ cut micrometres ∷ go other ∷ []) feel ≡ Some (Count 0)
  -- no question makes a position less deep
  pub deepens : (s : State) (qs : List Question) (position : ℕ) → depth_at s position ≤ depth_at (state_after s qs) position
  -- a fresh cutter keeps nothing of 24 micrometres, and one motor step of 25
  pub at_24 : depth_at (state_after fresh (cut 24 ∷ [])) 0 ≡ 0
  pub at_25 : depth_at (state_after fresh (cut 25 ∷ [])) 0 ≡ 1

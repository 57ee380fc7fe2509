-- The cutter's law, from what is accepted.
use Rattle.std.proofs.Common.{◌≡◌, ℕ, zero, suc, ◌*◌, ◌<◌, ◌≤◌, max, Bool, true, ◌&&◌, eqb, ◌⊎◌, List, [], ◌∷◌, length, replicate, get_or, set, Some, None, Option, refl, ap, ◌∙◌, inl, inr, arith, rules, eqb-true, nat_lt}
use Rattle.eff.specs.declared.question.Call.{Call}
use Rattle.eff.specs.declared.question.Question.{Question}
use Rattle.eff.specs.declared.question.Value.TheVariants.{Count, Unit as UnitValue}
use Rattle.host.specs.Meaning.{Refusal}
use Rattle.cutter.specs.declared.action.Action.{Action}
use Rattle.cutter.specs.declared.action.Action.TheVariants.{Go, Cut, Feel}
use Rattle.cutter.specs.declared.state.State.{State}
use Rattle.cutter.specs.Actions.{motor_steps}
use Rattle.cutter.specs.Cutting.{fresh, depth_at, cutter_knows, accepted, reply_to, state_by, state_after, cutting}
use Rattle.cutter.specs.Table.{go, cut, feel, Answered}
use Rattle.cutter.specs.CutterLaws.{Each, Told, accepted_told, cutting_typed, cutting_refuses}
use Rattle.cutter.proofs.laws.cutter_law_stands.Goals as goal

answered_or_still : (s : State) (q : Question) (a : Option Action) → Each (Told q) a
    → Answered q ⊎ (Refusal (reply_to s a) × (state_by s a ≡ s))
answered_or_still s q None h = inr (tt, refl)
answered_or_still s q (Some a) h = inl (a, h.0, h.1)

set_deepens : (ds : List ℕ) (at v : ℕ) → get_or ds at 0 ≤ v → (k : ℕ) → get_or ds k 0 ≤ get_or (set ds at v) k 0
set_deepens [] at v h k = omega arith
set_deepens (d ∷ ds) zero v h zero = h
set_deepens (d ∷ ds) zero v h (suc k) = omega arith
set_deepens (d ∷ ds) (suc at) v h zero = omega arith
set_deepens (d ∷ ds) (suc at) v h (suc k) = set_deepens ds at v h k

moved_deepens : (s : State) (a : Option Action) (k : ℕ) → depth_at s k ≤ depth_at (state_by s a) k
moved_deepens s None k = omega arith
moved_deepens s (Some (Go _)) k = omega arith
moved_deepens s (Some (Cut n)) k = set_deepens s.depths s.carriage _ (omega arith) k
moved_deepens s (Some Feel) k = omega arith

deepens : (qs : List Question) (s : State) (k : ℕ) → depth_at s k ≤ depth_at (state_after s qs) k
deepens [] s k = omega arith
deepens (q ∷ qs) s k = omega (arith, moved_deepens s (accepted q) k, deepens qs (state_by s (accepted q)) k)

goes : (s : State) (position : ℕ) → position ≤ 15
    → (cutting s [] (go position) ≡ Some UnitValue) × (state_after s (go position ∷ []) ≡ record { carriage = position; depths = s.depths })
goes s position h = search rules

cuts : (s : State) (micrometres : ℕ) → micrometres ≤ 6000
    → (cutting s [] (cut micrometres) ≡ Some UnitValue)
    × (state_after s (cut micrometres ∷ []) ≡ record { carriage = s.carriage; depths = set s.depths s.carriage (max (depth_at s s.carriage) (motor_steps micrometres)) })
cuts s micrometres h = search rules

known_at : (i op : ℕ) → i ≡ 0 → nat_lt op 3 ≡ true → (q : Question) × (q.call ≡ record { instance = i; op = op }) × Answered q
known_at i zero z h = (go 0, cc, (Go 0, omega arith, refl))
known_at i (suc zero) z h = (cut 0, cc, (Cut 0, omega arith, refl))
known_at i (suc (suc zero)) z h = (feel, cc, (Feel, tt, refl))
known_at i (suc (suc (suc n))) z h = search rules

known : (c : Call) → cutter_knows c ≡ true → (q : Question) × (q.call ≡ c) × Answered q
known c k = known_at c.instance c.op (eqb-true c.instance 0 (first (eqb c.instance 0) (nat_lt c.op 3) k)) (second (eqb c.instance 0) (nat_lt c.op 3) k)
  where
    first : (a b : Bool) → (a && b) ≡ true → a ≡ true
    first a b h = search rules

    second : (a b : Bool) → (a && b) ≡ true → b ≡ true
    second a b h = search rules

set_same : (ds : List ℕ) (at v : ℕ) → at < length ds → get_or (set ds at v) at 0 ≡ v
set_same [] at v h = absurd (omega arith)
set_same (d ∷ ds) zero v h = refl
set_same (d ∷ ds) (suc at) v h = set_same ds at v (omega arith)

set_other : (ds : List ℕ) (at k v : ℕ) → ¬ (at ≡ k) → get_or (set ds at v) k 0 ≡ get_or ds k 0
set_other [] at k v n = refl
set_other (d ∷ ds) zero zero v n = absurd (n refl)
set_other (d ∷ ds) zero (suc k) v n = refl
set_other (d ∷ ds) (suc at) zero v n = refl
set_other (d ∷ ds) (suc at) (suc k) v n = set_other ds at k v (λ e. n (ap suc e))

none_deep : (n k : ℕ) → ◌≡◌ {A = ℕ} (get_or (replicate n 0) k 0) 0
none_deep zero k = refl
none_deep (suc n) zero = refl
none_deep (suc n) (suc k) = none_deep n k

-- a fresh cutter at a position, and after a cut there
abbrev at_position : ℕ → State
at_position p = record { carriage = p; depths = replicate 16 0 }

abbrev cut_at : ℕ → ℕ → State
cut_at p n = record { carriage = p; depths = set (replicate 16 0) p (motor_steps n) }

after_cut : (p n : ℕ) → p ≤ 15 → n ≤ 6000 → state_after fresh (go p ∷ cut n ∷ []) ≡ cut_at p n
after_cut p n h k =
    ap (λ s. state_after s (cut n ∷ [])) (goes fresh p h).1 ∙ (cuts (at_position p) n k).1
    ∙ ap (λ d. record { carriage = p; depths = set (replicate 16 0) p d }) (ap (λ d. max d (motor_steps n)) (none_deep 16 p) ∙ omega arith)

felt : (p n : ℕ) → p ≤ 15 → n ≤ 6000 → cutting fresh (go p ∷ cut n ∷ []) feel ≡ Some (Count (50 * motor_steps n))
felt p n h k =
    ap (λ s. reply_to s (accepted feel)) (after_cut p n h k) ∙ ap (λ d. Some (Count (50 * d))) (set_same (replicate 16 0) p (motor_steps n) (omega arith))

felt_elsewhere : (p o n : ℕ) → ¬ (p ≡ o) → p ≤ 15 → o ≤ 15 → n ≤ 6000
    → cutting fresh (go p ∷ cut n ∷ go o ∷ []) feel ≡ Some (Count 0)
felt_elsewhere p o n e h g k =
    ap (λ s. reply_to (state_after s (go o ∷ [])) (accepted feel)) (after_cut p n h k) ∙ ap (λ s. reply_to s (accepted feel)) (goes (cut_at p n) o g).1
    ∙ ap (λ d. Some (Count (50 * d))) (set_other (replicate 16 0) p o (motor_steps n) e ∙ none_deep 16 o)

pub returns : goal.returns
returns c =
    record {
      lawful = λ s h. record { typed = λ qs q. cutting_typed qs s q h; refuses = λ qs q. cutting_refuses qs s q };
      goes = goes;
      cuts = cuts;
      feels = λ s. (refl, refl);
      others = λ s q. answered_or_still s q (accepted q) (accepted_told q);
      known = known;
      felt = felt;
      felt_elsewhere = felt_elsewhere;
      deepens = λ s qs. deepens qs s;
      at_24 = refl;
      at_25 = refl;
    }

-- What follows from the cutter's meaning: a state stays sound, answers are typed, unknown calls are refused.
use Rattle.std.specs.Prelude.{◌≡◌, ℕ, zero, suc, ◌≤◌, max, Bool, true, false, cond, List, [], ◌∷◌, Some, None, Option, ◌==◌, nat_le, nat_lt, slice_index, slice_set, refl}
use Rattle.std.proofs.Common.{arith, rules, leb-true, eqb-true}
use Rattle.std.proofs.lemmas.Bool.{and_parts}
use Rattle.eff.specs.declared.ground.Ground.{Ground}
use Rattle.eff.specs.declared.ground.Ground.TheVariants.{Bool as BoolType, Nat as NatType, Unit as UnitType, Empty as EmptyType}
use Rattle.eff.specs.declared.question.Question.{Question}
use Rattle.eff.specs.declared.question.Value.{Value}
use Rattle.eff.specs.declared.question.Value.TheVariants.{Truth, Count, Unit as UnitValue}
use Rattle.host.specs.Meaning.{Typed, Refusal}
use Rattle.cutter.specs.declared.action.Action.{Action}
use Rattle.cutter.specs.declared.action.Action.TheVariants.{Go, Cut, Feel}
use Rattle.cutter.specs.declared.state.State.{State}
use Rattle.cutter.specs.Actions.{motor_steps, count_to, by_unit, action_of, is_unit, is_nat, gives}
use Rattle.cutter.specs.Cutting.{Sound, depth_at, cutter_knows, giving, accepted, moved, reply_to, state_by, state_after, cutting}
use Rattle.cutter.specs.Table.{InRange, question_of}

-- a choice, by its test
by_test : {A : Type 0} (b : Bool) (P : A → Type 0) (x y : A) → (b ≡ true → P x) → (b ≡ false → P y) → P (cond b x y)
by_test true P x y h k = h refl
by_test false P x y h k = k refl

-- what holds of an action, if there is one
abbrev pub Each : (Action → Type 0) → Option Action → Type 0
Each P None = Unit {0}
Each P (Some a) = P a

unit_wanted : (g : Ground) → is_unit g ≡ true → g ≡ UnitType
unit_wanted BoolType h = search rules
unit_wanted NatType h = search rules
unit_wanted UnitType h = refl
unit_wanted EmptyType h = search rules

nat_wanted : (g : Ground) → is_nat g ≡ true → g ≡ NatType
nat_wanted BoolType h = search rules
nat_wanted NatType h = refl
nat_wanted UnitType h = search rules
nat_wanted EmptyType h = search rules

abbrev question : ℕ → ℕ → Value → Ground → Question
question i op v g = record { call = record { instance = i; op = op }; argument = v; wanted = g }

-- an action in range, and the question that it comes from
abbrev pub Told : Question → Action → Type 0
Told q a = InRange a × (q ≡ question_of a)

giving_told : (q : Question) (a : Action) → (gives a q.wanted ≡ true → Told q a) → Each (Told q) (giving (Some a) q.wanted)
giving_told q a h = by_test (gives a q.wanted) (Each (Told q)) (Some a) None h (λ _. tt)

counted_told : (i op most : ℕ) (action : ℕ → Action) (g : Ground)
    → ((n : ℕ) → n ≤ most → gives (action n) g ≡ true → Told (question i op (Count n) g) (action n))
    → (v : Value) → Each (Told (question i op v g)) (giving (count_to most action v) g)
counted_told i op most action g h (Truth b) = tt
counted_told i op most action g h (Count n) =
    by_test (nat_le n most) (λ a. Each (Told (question i op (Count n) g)) (giving a g)) (Some (action n)) None
    (λ l. giving_told (question i op (Count n) g) (action n) (h n (leb-true n most l)))
    (λ _. tt)
counted_told i op most action g h UnitValue = tt

unit_told : (i op : ℕ) (g : Ground) → (gives Feel g ≡ true → Told (question i op UnitValue g) Feel)
    → (v : Value) → Each (Told (question i op v g)) (giving (by_unit Feel v) g)
unit_told i op g h (Truth b) = tt
unit_told i op g h (Count n) = tt
unit_told i op g h UnitValue = giving_told (question i op UnitValue g) Feel h

action_told : (i op : ℕ) (v : Value) (g : Ground) → i ≡ 0 → Each (Told (question i op v g)) (giving (action_of op v) g)
action_told i op v g z =
    let P : Option Action → Type 0 = λ a. Each (Told (question i op v g)) (giving a g) in
    by_test (op == 0) P _ _
    (λ e. counted_told i op 15 (λ n. Go n) g (λ n l u. (l, simp (z, eqb-true op 0 e, unit_wanted g u))) v)
    (λ _. by_test (op == 1) P _ _
    (λ e. counted_told i op 6000 (λ n. Cut n) g (λ n l u. (l, simp (z, eqb-true op 1 e, unit_wanted g u))) v)
    (λ _. by_test (op == 2) P _ _
    (λ e. unit_told i op g (λ u. (tt, simp (z, eqb-true op 2 e, nat_wanted g u))) v)
    (λ _. tt)))

-- what is accepted is the question of an action in range
pub accepted_told : (q : Question) → Each (Told q) (accepted q)
accepted_told q =
    by_test (cutter_knows q.call) (Each (Told q)) (giving (action_of q.call.op q.argument) q.wanted) None
    (λ k. action_told q.call.instance q.call.op q.argument q.wanted
    (eqb-true q.call.instance 0 (and_parts (q.call.instance == 0) (nat_lt q.call.op 3) k).0))
    (λ _. tt)

set_small : (most : ℕ) (ds : List ℕ) (at v : ℕ) → v ≤ most → ((k : ℕ) → slice_index ds k ≤ most) → (k : ℕ) → slice_index (slice_set ds at v) k ≤ most
set_small most [] at v b h k = h k
set_small most (d ∷ ds) zero v b h zero = b
set_small most (d ∷ ds) zero v b h (suc k) = h (suc k)
set_small most (d ∷ ds) (suc at) v b h zero = h zero
set_small most (d ∷ ds) (suc at) v b h (suc k) = set_small most ds at v b (λ j. h (suc j)) k

moved_sound : (s : State) (a : Action) → InRange a → Sound s → Sound (moved s a)
moved_sound s (Go position) r h = (omega arith, h.1)
moved_sound s (Cut micrometres) r h =
    let old = h.1 s.carriage in
    let new : motor_steps micrometres ≤ motor_steps 6000 = omega arith in
    let both : max (depth_at s s.carriage) (motor_steps micrometres) ≤ motor_steps 6000 = omega arith in
    (h.0, set_small (motor_steps 6000) s.depths s.carriage _ both h.1)
moved_sound s Feel r h = h

state_by_sound : (s : State) (q : Question) (a : Option Action) → Each (Told q) a → Sound s → Sound (state_by s a)
state_by_sound s q None f h = h
state_by_sound s q (Some a) f h = moved_sound s a f.0 h

reply_typed : (s : State) (q : Question) (a : Option Action) → Each (Told q) a → Sound s → Typed q (reply_to s a)
reply_typed s q None f h = tt
reply_typed s q (Some (Go p)) f h = let e = f.1 in (cc, tt)
reply_typed s q (Some (Cut n)) f h = let e = f.1 in (cc, tt)
reply_typed s q (Some Feel) f h = let e = f.1 in let k = h.1 s.carriage in (cc, omega arith)

sound_after : (qs : List Question) (s : State) → Sound s → Sound (state_after s qs)
sound_after [] s h = h
sound_after (q ∷ qs) s h = sound_after qs (state_by s (accepted q)) (state_by_sound s q (accepted q) (accepted_told q) h)

pub cutting_typed : (qs : List Question) (s : State) (q : Question) → Sound s → Typed q (cutting s qs q)
cutting_typed qs s q h = reply_typed (state_after s qs) q (accepted q) (accepted_told q) (sound_after qs s h)

pub cutting_refuses : (qs : List Question) (s : State) (q : Question) → cutter_knows q.call ≡ false → Refusal (cutting s qs q)
cutting_refuses qs s q h = search rules

-- The worked cases.
use Rattle.std.proofs.Common.{◌≡◌, ℕ, zero, suc, ◌+◌, ◌<◌, Bool, true, false, cond, ◌&&◌, eqb, List, [], ◌∷◌, get_or, sym, refl, subst, inl, inr, arith, eqb-true}
use Rattle.eff.specs.Sorts.{comp}
use Rattle.eff.specs.Syntax.{Term, num, succ, inst, val}
use Rattle.eff.specs.Types as t
use Rattle.eff.specs.Sets.{Holds}
use Rattle.eff.specs.Tables.{Operation, declared, Declares, takes, gives, Instance, Call, Listed, type, no_row}
use Rattle.eff.specs.Dirt.{sets, weight, leaves}
use Rattle.eff.specs.Subtyping.{◌⊴◌, ground≤, instance≤, fun≤, hand≤}
use Rattle.eff.specs.Checked.{Checked, InOrder, a_function}
use Rattle.eff.specs.Outcome.{step, next}
use Rattle.eff.specs.Steps.{Names, ◌⇢◌, ◌⇝◌, with_call, more, none}
use Rattle.eff.specs.Labels as l
use Rattle.eff.specs.Handling.{Passes, Handles}
use Rattle.eff.specs.Claims.{HasType}
use Rattle.eff.specs.Questions.{Replies}
use Rattle.eff.specs.Runs.{Reaches, stays, steps}
use Rattle.eff.specs.Cases.{shop, one, two, to_unit, felt, felt_twice, other, other_passed, case_at, loop, unrolled, twice, Worked}
use Rattle.eff.proofs.Sets.{own_holds}
use Rattle.eff.proofs.Agree.{agreed}
use Rattle.eff.proofs.Handled.{leaving}

-- what holds of every declared operation
abbrev Each : (ℕ → ℕ → Type 0) → List Operation → Type 0
Each P [] = Unit {0}
Each P (o ∷ os) = P o.effect o.op × Each P os

each : (P : ℕ → ℕ → Type 0) (os : List Operation) (e op : ℕ) → Each P os → declared os e op ≡ true → P e op
each P [] e op h d = let z : ◌≡◌ {A = ℕ} 0 1 = cc in absurd (omega arith)
each P (o ∷ os) e op h d = go (eqb o.effect e) refl (eqb o.op op) refl d (λ x. each P os e op h.1 x)
  where
    go : (b : Bool) → eqb o.effect e ≡ b → (b' : Bool) → eqb o.op op ≡ b' → cond (b && b') true (declared os e op) ≡ true
        → (declared os e op ≡ true → P e op) → P e op
    go true p true q x f = subst (λ n. P n op) (eqb-true _ _ p) (subst (P o.effect) (eqb-true _ _ q) h.0)
    go true p false q x f = f x
    go false p true q x f = f x
    go false p false q x f = f x

checked : Checked shop (sets shop)
checked = record {
  effects = λ e op d. each (λ e op. e < 8) shop.operations e op (omega arith, (omega arith, (omega arith, tt))) d;
  operations = λ e op d. each (λ e op. op < 4) shop.operations e op (omega arith, (omega arith, (omega arith, tt))) d;
  taken = λ e op d. each (λ e op. Listed shop (takes shop e op)) shop.operations e op (omega arith, (omega arith, (omega arith, tt))) d;
  given = λ e op d. each (λ e op. Listed shop (gives shop e op)) shop.operations e op (omega arith, (omega arith, (omega arith, tt))) d;
  instances = omega arith;
  instance_effects = λ i e h. (0, effect_of i e h.declared h.effect);
  types = types_ok;
}
  where
    effect_of : (i e : ℕ) → i < 2 → get_or shop.instances i 0 ≡ e → Declares shop e 0
    effect_of zero e l h = subst (λ x. Declares shop x 0) h refl
    effect_of (suc zero) e l h = subst (λ x. Declares shop x 0) h refl
    effect_of (suc (suc i)) e l h = absurd (omega arith)

    types_ok : (n : ℕ) → n < 1 → InOrder shop (sets shop) (4 + n) (get_or shop.types n no_row)
    types_ok zero h = a_function refl (omega arith) (omega arith) refl
    types_ok (suc n) h = absurd (omega arith)

steps_to : (c b : Term comp) → step shop c ≡ next b → ◌⇝◌ shop c b
steps_to c b h = ((agreed shop c).next_is b).0 h

felt_runs : (m : Replies) → Reaches shop m [] felt 3 [] (val (succ (num 7)))
felt_runs m = steps (steps_to _ _ refl) (steps (steps_to _ _ refl) (steps (steps_to _ _ refl) stays))

resumes_handled : (m : Replies) → Reaches shop m [] felt_twice 2 [] felt
resumes_handled m = steps (steps_to _ _ refl) (steps (steps_to _ _ refl) stays)

felt_twice_runs : (m : Replies) → Reaches shop m [] felt_twice 5 [] (val (succ (num 7)))
felt_twice_runs m = steps (steps_to _ _ refl) (steps (steps_to _ _ refl) (felt_runs m))

loop_again : (m : Replies) (n : ℕ) → Reaches shop m [] loop (twice n) [] loop
loop_again m zero = stays
loop_again m (suc n) = steps (steps_to loop unrolled refl) (steps (steps_to unrolled loop refl) (loop_again m n))

loop_unrolled : (m : Replies) (n : ℕ) → Reaches shop m [] loop (suc (twice n)) [] unrolled
loop_unrolled m zero = steps (steps_to loop unrolled refl) stays
loop_unrolled m (suc n) = steps (steps_to loop unrolled refl) (steps (steps_to unrolled loop refl) (loop_unrolled m n))

region_grows : ◌⊴◌ (sets shop) one two
region_grows = instance≤ (λ k h. subst (Holds 3) (sym (own_holds 0 k h)) refl)

region_shrinks : ¬ (◌⊴◌ (sets shop) two one)
region_shrinks (instance≤ p) = let h : Holds 1 1 = p 1 refl in omega arith

argument_shrinks : ◌⊴◌ (sets shop) (to_unit two) (to_unit one)
argument_shrinks = fun≤ region_grows ground≤ refl

argument_grows : ¬ (◌⊴◌ (sets shop) (to_unit one) (to_unit two))
argument_grows (fun≤ p q r) = region_shrinks p

only_first : (i : ℕ) → Holds 1 i → Instance shop i 0
only_first i h = subst (λ j. Instance shop j 0) (sym (own_holds 0 i h)) (record { declared = omega arith; effect = refl })

one_is_handled : Passes shop (sets shop) (case_at one) (weight 0 2) 0
unfolding leaves
one_is_handled = leaving shop checked (case_at one) (weight 0 2) 0 (refl, tt) refl

not_both : ¬ Handles (case_at two) 0 2
not_both (inl h) = let e = h.1 in let z : ◌≡◌ {A = ℕ} 3 1 = cc in omega arith
not_both (inr h) = h

two_are_not : ¬ Passes shop (sets shop) (case_at two) (weight 0 2) 0
two_are_not f =
    let c : Call shop 0 2 = record { effect = 0; instance = record { declared = omega arith; effect = refl }; operation = refl } in
    let h : false ≡ true = f 0 2 c refl not_both in
    let z : ◌≡◌ {A = ℕ} 0 1 = cc in omega arith

felt_type : HasType shop (sets shop) comp felt (t.nat, 0)
unfolding type leaves
felt_type = record {
  labels = l.handle (t.nat, 0) (l.handler (t.hand t.nat 4 t.nat 0) 1 (l.val (t.nat, 0) (l.var t.nat 0)) (case_at one))
      (l.call (t.nat, 4) 0 2 (l.inst one 0) (l.unit t.unit) (l.val (t.nat, 0) (l.succ t.nat (l.var t.nat 0))));
  erased = refl;
  claimed = refl;
  declared = (
    (tt, refl),
    ((tt, refl, tt, refl), ((tt, refl), tt), (((0, refl), only_first), ((tt, refl), (tt, tt, refl), tt), (tt, refl))),
    ((tt, refl), ((0, refl), only_first), tt, ((tt, refl), (tt, tt))),
  );
  follows = (
    ((t.nat, 4), (t.nat, 0), refl, (ground≤, refl), (ground≤, refl)),
    (
      (t.nat, 4, (t.nat, 0), refl, omega arith, (ground≤, refl), ground≤, (ground≤, refl), one_is_handled),
      ((ground≤, refl), (t.nat, refl, ground≤)),
      (
        (1, refl, refl, (ground≤, refl)),
        (0, record { declared = omega arith; effect = refl }, instance≤ (λ k h. h)),
        ((t.nat, (t.nat, 0), refl, ground≤, (ground≤, refl)), (t.fun t.nat t.nat 0, refl, fun≤ ground≤ ground≤ refl), ground≤),
        tt,
      ),
    ),
    (
      (1, refl, refl, ground≤, (ground≤, refl), λ i h. subst (λ j. (sets shop).within (weight j 2) 4 ≡ true) (sym (own_holds 0 i h)) refl),
      (0, record { declared = omega arith; effect = refl }, instance≤ (λ k h. h)),
      ground≤,
      ((ground≤, refl), ((refl, ground≤), (t.nat, refl, ground≤))),
    ),
  );
}

not_zero : ¬ Names 2 (inst 0) 1 2
not_zero h = let e : inst 0 ≡ inst 1 = h.1 in let z : ◌≡◌ {A = ℕ} 0 1 = cc in omega arith

others_pass : other ⇢ other_passed
others_pass = with_call (more not_zero none)

pub worked : Worked
worked = record {
  checked = checked;
  region_grows = region_grows;
  region_shrinks = region_shrinks;
  argument_shrinks = argument_shrinks;
  argument_grows = argument_grows;
  result_grows = fun≤ ground≤ region_grows refl;
  handler_grows = hand≤ region_grows refl region_grows refl;
  felt_runs = felt_runs;
  felt_is = refl;
  felt_type = felt_type;
  resumes_handled = resumes_handled;
  felt_twice_runs = felt_twice_runs;
  first_taken = steps_to _ _ refl;
  others_pass = others_pass;
  true_first = steps_to _ _ refl;
  false_second = steps_to _ _ refl;
  zero_first = steps_to _ _ refl;
  match_binds = steps_to _ _ refl;
  weighs = refl;
  one_is_handled = one_is_handled;
  two_are_not = two_are_not;
  loop_size = refl;
  unrolled_size = refl;
  loop_again = loop_again;
  loop_unrolled = loop_unrolled;
}

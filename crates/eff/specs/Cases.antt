-- Worked cases, each from the rules.
use Rattle.std.specs.Prelude.{◌≡◌, ℕ, zero, suc, true, false, [], ◌∷◌, Some}
use Rattle.eff.specs.Sorts.{expr, list, comp}
use Rattle.eff.specs.Syntax.{Term, var, truth, num, succ, unit, inst, handler, case, nil, if, match, apply, val, call, rec, handle, fn, size}
use Rattle.eff.specs.Types.{Ty}
use Rattle.eff.specs.Types as t
use Rattle.eff.specs.Tables.{Tables, Operation}
use Rattle.eff.specs.Dirt.{sets, weight}
use Rattle.eff.specs.Subtyping.{◌⊴◌}
use Rattle.eff.specs.Checked.{Checked}
use Rattle.eff.specs.Labels.{Labelled}
use Rattle.eff.specs.Labels as l
use Rattle.eff.specs.Handling.{Passes}
use Rattle.eff.specs.Claims.{HasType}
use Rattle.eff.specs.Questions.{worth, Replies}
use Rattle.eff.specs.Steps.{◌⇢◌, ◌⇝◌}
use Rattle.eff.specs.Runs.{Reaches}
use Rattle.eff.specs.declared.question.Value.TheVariants.{Count}

abbrev pub operation : ℕ → ℕ → ℕ → Operation
operation op takes gives = record { effect = 0; op = op; takes = takes; gives = gives }

-- One effect with the operations go and cut of nat to unit and feel of unit to nat, its instances 0 and 1, and the type unit → unit!0.
abbrev pub shop : Tables
shop = record {
  operations = operation 0 1 2 ∷ operation 1 1 2 ∷ operation 2 2 1 ∷ [];
  instances = 0 ∷ 0 ∷ [];
  types = record { kind = 4; a = 2; b = 2; d = 0; e = 0 } ∷ [];
}

infix 50 ◌⊑◌
abbrev ◌⊑◌ : Ty → Ty → Type 0
◌⊑◌ A B = ◌⊴◌ (sets shop) A B

-- E^{0} and E^{0,1}
abbrev pub one : Ty
one = t.instance 0 1

abbrev pub two : Ty
two = t.instance 0 3

abbrev pub to_unit : Ty → Ty
to_unit A = t.fun A t.unit 0

-- a handler of feel by the case k 7, with the val branch val x
abbrev pub sevens : Term expr
sevens = handler 1 (val (var 0)) (case 0 2 (inst 0) (apply (var 0) (num 7)) nil)

-- feel, with the continuation
abbrev pub feel : Term comp → Term comp
feel c = call 0 2 (inst 0) unit c

abbrev pub felt : Term comp
felt = handle sevens (feel (val (succ (var 0))))

abbrev pub felt_twice : Term comp
felt_twice = handle sevens (feel (feel (val (succ (var 0)))))

-- two cases that name the same call
abbrev pub named_twice : Term comp
named_twice = handle (handler 1 (val (var 0)) (case 0 2 (inst 0) (val (num 1)) (case 0 2 (inst 0) (val (num 2)) nil))) (feel (val (var 0)))

-- feel of the other instance, which no case of sevens names, and what it moves to
abbrev pub other : Term comp
other = handle sevens (call 0 2 (inst 1) unit (val (var 0)))

abbrev pub other_passed : Term comp
other_passed = call 0 2 (inst 1) unit (handle sevens (val (var 0)))

-- a case of feel whose first child claims a type, in a list that claims nat!0
abbrev pub case_at : Ty → Labelled list
case_at A = l.case 0 2 (l.inst A 0) (l.apply (t.nat, 0) (l.var (t.fun t.nat t.nat 0) 0) (l.num t.nat 7)) (l.nil (t.nat, 0))

-- let rec f x = f x in f (), and what it steps to
abbrev pub loop : Term comp
loop = rec 4 (apply (var 0) (var 1)) (apply (var 0) unit)

abbrev pub unrolled : Term comp
unrolled = apply (fn 2 (rec 4 (apply (var 0) (var 1)) (apply (var 0) (var 1)))) unit

abbrev pub twice : ℕ → ℕ
twice zero = zero
twice (suc n) = suc (suc (twice n))

pub record Worked : Type 0 where
  pub checked : Checked shop (sets shop)
  -- a region may grow, and a function's argument may shrink, and not the other way
  pub region_grows : one ⊑ two
  pub region_shrinks : ¬ (two ⊑ one)
  pub argument_shrinks : to_unit two ⊑ to_unit one
  pub argument_grows : ¬ (to_unit one ⊑ to_unit two)
  -- a function's result and dirt may grow; a handler's ingoing type and dirt may shrink, and its outgoing ones grow
  pub result_grows : t.fun t.unit one 0 ⊑ t.fun t.unit two 4
  pub handler_grows : t.hand two 4 one 0 ⊑ t.hand one 0 two 4
  -- feel under sevens is 8 after 3 steps and no question, of type nat with no dirt
  pub felt_runs : (m : Replies) → Reaches shop m [] felt 3 [] (val (succ (num 7)))
  pub felt_is : worth (succ (num 7)) ≡ Some (Count 8)
  pub felt_type : HasType shop (sets shop) comp felt (t.nat, 0)
  -- the handler stands around the continuation again, so the second feel is handled too
  pub resumes_handled : (m : Replies) → Reaches shop m [] felt_twice 2 [] felt
  pub felt_twice_runs : (m : Replies) → Reaches shop m [] felt_twice 5 [] (val (succ (num 7)))
  -- of two cases that name a call the first is taken, and a call that none names passes on
  pub first_taken : ◌⇝◌ shop named_twice (val (num 1))
  pub others_pass : other ⇢ other_passed
  -- if of true becomes its first branch, if of false its second
  pub true_first : ◌⇝◌ shop (if (truth true) (val (num 1)) (val (num 2))) (val (num 1))
  pub false_second : ◌⇝◌ shop (if (truth false) (val (num 1)) (val (num 2))) (val (num 2))
  -- match on 0 becomes its first branch
  pub zero_first : ◌⇝◌ shop (match (num 0) (val (num 1)) (val (var 0))) (val (num 1))
  -- match on numeral n + 1 binds numeral n
  pub match_binds : ◌⇝◌ shop (match (num 3) (val unit) (val (var 0))) (val (num 2))
  -- the call 1#2 weighs 64
  pub weighs : weight 1 2 ≡ 64
  -- a case at E^{0} handles 0#2, one at E^{0,1} handles nothing
  pub one_is_handled : Passes shop (sets shop) (case_at one) (weight 0 2) 0
  pub two_are_not : ¬ Passes shop (sets shop) (case_at two) (weight 0 2) 0
  -- let rec f x = f x in f () goes through computations of 7, 10, 7, 10, … parts
  pub loop_size : size loop ≡ 7
  pub unrolled_size : size unrolled ≡ 10
  pub loop_again : (m : Replies) (n : ℕ) → Reaches shop m [] loop (twice n) [] loop
  pub loop_unrolled : (m : Replies) (n : ℕ) → Reaches shop m [] loop (suc (twice n)) [] unrolled

-- Whether a part's claim follows from its children's claims, as a test, and the first part whose claim does not.
use Rattle.std.specs.Prelude.{ℕ, zero, suc, ◌^◌, Bool, true, false, cond, ◌&&◌, [], ◌∷◌, ◌==◌, nat_eq, slice_index}
use Rattle.std.specs.List.{list_all, range_with_len}
use Rattle.fault.specs.Search.{Verdict, search}
use Rattle.fault.specs.declared.claim.ClaimFault.{ClaimFault}
use Rattle.fault.specs.declared.claim.ClaimFault.TheVariants.{Claim}
use Rattle.eff.specs.Sorts.{Sort}
use Rattle.eff.specs.Sets.{bit}
use Rattle.eff.specs.Types.{Ty, Dirty}
use Rattle.eff.specs.Types as t
use Rattle.eff.specs.Tables.{Tables, takes, type}
use Rattle.eff.specs.Dirt.{Dirts}
use Rattle.eff.specs.Rules.{Cxt}
use Rattle.eff.specs.Handling.{cases_leave}
use Rattle.eff.specs.Labels.{Labelled, var, truth, num, succ, unit, inst, fn, handler, case, nil, if, match, absurd, apply, val, call, bind, rec, handle, claim}
use Rattle.claim.specs.Below.{below, below_dirty}
use Rattle.eff.specs.Standing.{Standing, standing}

-- a test on a function type A → B, on an instance type E^R, and on a handler type A ⇒ B; of another type it fails
abbrev pub on_function : (Ty → Dirty → Bool) → Ty → Bool
on_function f (t.ground g) = false
on_function f (t.fun A B d) = f A (B, d)
on_function f (t.instance e R) = false
on_function f (t.hand A d B e) = false

abbrev pub on_instance : (ℕ → ℕ → Bool) → Ty → Bool
on_instance f (t.ground g) = false
on_instance f (t.fun A B d) = false
on_instance f (t.instance e R) = f e R
on_instance f (t.hand A d B e) = false

abbrev pub on_handler : (Dirty → Dirty → Bool) → Ty → Bool
on_handler f (t.ground g) = false
on_handler f (t.fun A B d) = false
on_handler f (t.instance e R) = false
on_handler f (t.hand A d B e) = f (A, d) (B, e)

module _ (D : Dirts) where
  -- the name of place n has a type below A
  abbrev pub name_ok : Cxt → ℕ → Ty → Bool
  name_ok [] n A = false
  name_ok (B ∷ Γ) zero A = below D B A
  name_ok (B ∷ Γ) (suc n) A = name_ok Γ n A

  -- d admits i#op, if i is an instance of the region R
  abbrev pub admits_at : ℕ → ℕ → ℕ → ℕ → Bool
  admits_at R op d i = cond (bit R i == 1) (D.within (D.own i op) d) true

  -- d admits i#op for each instance i of the region R; no instance is above 15
  unfoldable pub admits : ℕ → ℕ → ℕ → Bool
  admits R op d = list_all (admits_at R op d) (range_with_len 0 16)

  -- The tests of the rules that look into a type, by the claims of the part and its children.
  -- a handler with the claim A on the type X: its val branch's claim, its cases', and what its cases leave of a dirt
  abbrev pub handler_ok : Ty → Ty → Dirty → Dirty → (ℕ → ℕ) → Bool
  handler_ok A X c cs left = on_handler (λ I O. below_dirty D c cs && (below D I.0 X && (below_dirty D cs O && D.within (left I.1) cs.1))) A

  -- a case of the effect e: its instance's claim, its body's and its list's
  abbrev pub case_ok : ℕ → Ty → Dirty → Dirty → Bool
  case_ok e I c cs = on_instance (λ f R. nat_eq f e) I && below_dirty D c cs

  abbrev pub apply_ok : Dirty → Ty → Ty → Bool
  apply_ok C F X = on_function (λ A B. below D X A && below_dirty D B C) F

  -- a call of op of the effect e, which takes the type W
  abbrev pub call_ok : Dirty → ℕ → ℕ → Ty → Ty → Ty → Dirty → Bool
  call_ok C e op W I X c = on_instance (λ f R. (f == e) && (below D X W && (below_dirty D c C && admits R op C.1))) I

  -- a recursive function of type F
  abbrev pub rec_ok : Dirty → Ty → Dirty → Dirty → Bool
  rec_ok C F c c' = on_function (λ A B. below_dirty D c B && below_dirty D c' C) F

  abbrev pub handle_ok : Dirty → Ty → Dirty → Bool
  handle_ok C H c = on_handler (λ A B. below_dirty D c A && below_dirty D B C) H

  -- a choice by a value of the type G
  abbrev pub choice_ok : Ty → Dirty → Ty → Dirty → Dirty → Bool
  choice_ok G C E c c' = below D E G && (below_dirty D c C && below_dirty D c' C)

module _ (T : Tables) (D : Dirts) where
  -- the rule at a part
  abbrev pub holds : {s : Sort} → Cxt → Labelled s → Bool
  holds Γ (var A n) = name_ok D Γ n A
  holds Γ (truth A b) = below D t.bool A
  holds Γ (num A n) = below D t.nat A
  holds Γ (succ A e) = below D (claim e) t.nat && below D t.nat A
  holds Γ (unit A) = below D t.unit A
  holds Γ (inst A i) = below D (t.instance (slice_index T.instances i) (2 ^ i)) A
  holds Γ (fn A a c) = below D (t.fun (type T a) (claim c).0 (claim c).1) A
  holds Γ (handler A a c cs) = handler_ok D A (type T a) (claim c) (claim cs) (cases_leave D cs)
  holds Γ (case e op i c cs) = case_ok D e (claim i) (claim c) (claim cs)
  holds Γ (nil C) = true
  holds Γ (if C e c c') = choice_ok D t.bool C (claim e) (claim c) (claim c')
  holds Γ (match C e c c') = choice_ok D t.nat C (claim e) (claim c) (claim c')
  holds Γ (absurd C e) = below D (claim e) t.empty
  holds Γ (apply C e f) = apply_ok D C (claim e) (claim f)
  holds Γ (val C e) = below_dirty D (claim e, D.none) C
  holds Γ (call C e op i w c) = call_ok D C e op (type T (takes T e op)) (claim i) (claim w) (claim c)
  holds Γ (bind C c c') = below_dirty D ((claim c').0, D.join (claim c).1 (claim c').1) C
  holds Γ (rec C a c c') = rec_ok D C (type T a) (claim c) (claim c')
  holds Γ (handle C e c) = handle_ok D C (claim e) (claim c)

  abbrev pub rule_ok : Standing → Bool
  rule_ok x = holds x.context x.part

  -- the first part of a term that does not meet its rule, its first part being at the line
  abbrev pub claimed : {s : Sort} → ℕ → Cxt → Labelled s → Verdict ClaimFault
  claimed line Γ t = search Claim (λ n x. rule_ok x) line 0 (standing T Γ t)

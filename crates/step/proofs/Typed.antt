-- Closed values are shown with the numbers of their types.
use Rattle.std.proofs.Common.{◌≡◌, [], Some, refl, ap, ◌∙◌}
use Rattle.eff.specs.Sorts.{expr}
use Rattle.eff.specs.Syntax.{Term, succ}
use Rattle.eff.specs.Types.{Ty}
use Rattle.eff.specs.Types as t
use Rattle.eff.specs.Tables.{Tables}
use Rattle.eff.specs.Dirt.{Dirts, Laws, sets}
use Rattle.eff.specs.Checked.{Checked}
use Rattle.eff.specs.Subtyping.{◌⊴◌, ground≤, instance≤, fun≤, hand≤}
use Rattle.eff.specs.Rules.{Derives, sub_expr, d_var, d_truth, d_num, d_succ, d_unit, d_inst, d_fn, d_handler}
use Rattle.eff.specs.Questions.{Of, a_count}
use Rattle.eff.specs.declared.ground.Ground.TheVariants as g
use Rattle.eff.specs.declared.question.Value.{Value}
use Rattle.eff.proofs.CallSets.{laws}
use Rattle.eff.proofs.Safety.{value_there}
use Rattle.eff.proofs.Claimed.{claims_are_derivations}
use Rattle.step.specs.Values.{shown, shown_kind, shown_value, kind_number}
use Rattle.step.specs.Shown.{type_number, ValuesAreShown}

counted : {w : Value} → Of w t.nat → (e : Term expr) → kind_number (shown_value (Some w) (shown_kind e)) ≡ type_number t.nat
counted a_count e = refl

module _ (T : Tables) (D : Dirts) (K : Checked T D) (L : Laws T D) where
  same_number : {A B : Ty} → ◌⊴◌ D A B → type_number A ≡ type_number B
  same_number ground≤ = refl
  same_number (instance≤ p) = refl
  same_number (fun≤ p q r) = refl
  same_number (hand≤ p q r s) = refl

  of_type : {v : Term expr} {A : Ty} → Derives T D expr [] v A → kind_number (shown v) ≡ type_number A
  of_type (sub_expr h p k) = of_type h ∙ same_number p
  of_type (d_var h) = elim h [ ]
  of_type d_truth = refl
  of_type d_num = refl
  of_type (d_succ {e = e} h) =
      let w = value_there T D K L (succ e) g.Nat (d_succ h) in
      ap (λ o. kind_number (shown_value o (shown_kind (succ e)))) w.is ∙ counted w.of (succ e)
  of_type d_unit = refl
  of_type (d_inst h) = refl
  of_type (d_fn l h) = refl
  of_type (d_handler l h k s) = refl

pub values_are_shown : ValuesAreShown
values_are_shown T K v A h = of_type T (sets T) K (laws T K) (((claims_are_derivations T K).expressions v A).0 h)

-- Computations whose claims follow are safe, over runs too.
use Rattle.std.proofs.Common.{ℕ, []}
use Rattle.eff.specs.Sorts.{expr, comp}
use Rattle.eff.specs.Syntax.{Term}
use Rattle.eff.specs.Types.{Ty, Dirty}
use Rattle.eff.specs.Tables.{Tables}
use Rattle.eff.specs.Dirt.{sets}
use Rattle.eff.specs.Checked.{Checked}
use Rattle.eff.specs.Rules.{Derives}
use Rattle.eff.specs.Claims.{HasType}
use Rattle.eff.specs.Safety.{GoesOn, is_value, steps, asks, Safe, ClaimsAreSafe}
use Rattle.eff.proofs.CallSets.{laws}
use Rattle.eff.proofs.Runs.{all_safe, all_run_safely}
use Rattle.eff.proofs.Claimed.{claims_are_derivations}

module _ (T : Tables) (K : Checked T (sets T)) where
  derived_expr : {e : Term expr} {A : Ty} → HasType T (sets T) expr e A → Derives T (sets T) expr [] e A
  derived_expr {e} {A} h = ((claims_are_derivations T K).expressions e A).0 h

  typed_expr : {e : Term expr} {A : Ty} → Derives T (sets T) expr [] e A → HasType T (sets T) expr e A
  typed_expr {e} {A} h = ((claims_are_derivations T K).expressions e A).1 h

  derived_comp : {c : Term comp} {C : Dirty} → HasType T (sets T) comp c C → Derives T (sets T) comp [] c C
  derived_comp {c} {C} h = ((claims_are_derivations T K).computations c C).0 h

  typed_comp : {c : Term comp} {C : Dirty} → Derives T (sets T) comp [] c C → HasType T (sets T) comp c C
  typed_comp {c} {C} h = ((claims_are_derivations T K).computations c C).1 h

  goes_on : {c : Term comp} {A : Ty} {d : ℕ} → GoesOn T (sets T) (Derives T (sets T) expr []) (Derives T (sets T) comp []) c A d
      → GoesOn T (sets T) (HasType T (sets T) expr) (HasType T (sets T) comp) c A d
  goes_on (is_value v e h) = is_value v e (typed_expr h)
  goes_on (steps b r h) = steps b r (typed_comp h)
  goes_on (asks a) = asks (record {
    effect = a.effect;
    op = a.op;
    i = a.i;
    argument = a.argument;
    continuation = a.continuation;
    is = a.is;
    instance = a.instance;
    operation = a.operation;
    within = a.within;
    taken = typed_expr a.taken;
    answered = λ v h. typed_comp (a.answered v (derived_expr h));
    asked = a.asked;
    proper = a.proper;
  })

  safe : {c : Term comp} {A : Ty} {d : ℕ} → Safe T (sets T) (Derives T (sets T) expr []) (Derives T (sets T) comp []) c A d
      → Safe T (sets T) (HasType T (sets T) expr) (HasType T (sets T) comp) c A d
  safe s = record { goes_on = goes_on s.goes_on; every_step = λ b r. typed_comp (s.every_step b r); never_stuck = s.never_stuck }

pub claims_are_safe : ClaimsAreSafe
claims_are_safe T K = record {
  safe = λ c A d h. safe T K (all_safe T (sets T) K (laws T K) c A d (derived_comp T K h));
  runs = λ m ok past qs n c b A d h g. let s = all_run_safely T (sets T) K (laws T K) m ok past qs n c b A d (derived_comp T K h) g in
      record { typed = typed_comp T K s.typed; safe = safe T K s.safe; proper = s.proper };
}

-- The parts of a labelled term in their contexts: all meet their rules just where its claims follow.
use Rattle.std.proofs.Common.{List, [], ◌∷◌, ◌++◌}
use Rattle.std.specs.List.{AllByRecursion}
use Rattle.std.proofs.ByRecursion.{All-append}
use Rattle.eff.specs.Sorts.{Sort}
use Rattle.eff.specs.Tables.{Tables}
use Rattle.eff.specs.Dirt.{Dirts}
use Rattle.eff.specs.Rules.{Cxt}
use Rattle.eff.specs.Labels.{Labelled}
use Rattle.eff.specs.Claims.{Follows}
use Rattle.eff.specs.Standing.{Standing, standing, AllRules}
use Rattle.eff.proofs.Parted.{by_part}
use Rattle.claim.specs.Standing.{Meets}

pub all_left : {X : Type 0} (P : X → Type 0) (xs ys : List X) → AllByRecursion P (xs ++ ys) → AllByRecursion P xs
all_left P [] ys a = tt
all_left P (x ∷ xs) ys a = (a.0, all_left P xs ys a.1)

pub all_right : {X : Type 0} (P : X → Type 0) (xs ys : List X) → AllByRecursion P (xs ++ ys) → AllByRecursion P ys
all_right P [] ys a = a
all_right P (x ∷ xs) ys a = all_right P xs ys a.1

pub join_3 : {X : Type 0} (P : X → Type 0) (xs ys zs : List X) → AllByRecursion P xs → AllByRecursion P ys → AllByRecursion P zs → AllByRecursion P (xs ++ (ys ++ zs))
join_3 P xs ys zs a b c = All-append P xs (ys ++ zs) a (All-append P ys zs b c)

module _ (T : Tables) (D : Dirts) where
  each : (xs : List Standing) → AllRules T D xs → AllByRecursion (Meets T D) xs
  each [] h = tt
  each (x ∷ xs) h = (h.0, each xs h.1)

  rules : (xs : List Standing) → AllByRecursion (Meets T D) xs → AllRules T D xs
  rules [] h = tt
  rules (x ∷ xs) h = (h.0, rules xs h.1)

  pub all_meet : {s : Sort} (Γ : Cxt) (t : Labelled s) → Follows T D Γ t → AllByRecursion (Meets T D) (standing T Γ t)
  all_meet {s} Γ t h = each (standing T Γ t) (((by_part s t).rules T D Γ).0 h)

  pub follow : {s : Sort} (Γ : Cxt) (t : Labelled s) → AllByRecursion (Meets T D) (standing T Γ t) → Follows T D Γ t
  follow {s} Γ t h = ((by_part s t).rules T D Γ).1 (rules (standing T Γ t) h)

-- What the verdict on a labelled term means.
use Rattle.std.proofs.Common.{◌≡◌, ℕ, true, List, ◌∷◌, ◌++◌, length, get_or, Decides}
use Rattle.std.specs.List.{AllByRecursion}
use Rattle.std.proofs.ByRecursion.{All-append, All-get_or}
use Rattle.fault.specs.declared.claim.ClaimFault.TheVariants.{Claim}
use Rattle.fault.proofs.Searching.{Told, same_told, searched}
use Rattle.eff.specs.Sorts.{Sort}
use Rattle.eff.specs.Types.{nat, fun}
use Rattle.eff.specs.Tables.{Tables, takes, gives, type}
use Rattle.eff.specs.Dirt.{Dirts, sets}
use Rattle.eff.specs.Checked.{Checked}
use Rattle.eff.specs.Rules.{Cxt}
use Rattle.eff.specs.Syntax.{flatten}
use Rattle.eff.specs.Claims.{parameter}
use Rattle.eff.specs.Labels.{Labelled, var, truth, num, succ, unit, inst, fn, handler, case, nil, if, match, absurd as absurd_at, apply, val, call, bind, rec, handle, erase, claim, DeclaredClaims}
use Rattle.eff.specs.declared.part.Part.{Part}
use Rattle.sheet.specs.Rows.{Listing}
use Rattle.table.specs.Meant.{tables_of}
use Rattle.table.specs.Ranges.{Columns}
use Rattle.eff.specs.Standing.{Standing, standing}
use Rattle.claim.specs.Standing.{Meets, nowhere}
use Rattle.claim.specs.Test.{rule_ok, claimed}
use Rattle.claim.proofs.Columned.{Columned}
use Rattle.claim.proofs.Parts.{all_left, all_right, join_3}
use Rattle.claim.proofs.Tested.{decides_rule}

module _ (l : Listing) (K : Checked (tables_of l) (sets (tables_of l))) where
  abbrev T : Tables
  T = tables_of l

  abbrev D : Dirts
  D = sets T

  -- the test decides the rule
  abbrev P : Standing → Type 0
  P x = Decides (rule_ok T D x) (Meets T D x)

  abbrev Q : Part → Type 0
  Q p = Columns l p.kind p.a p.b

  abbrev fl : {u : Sort} → Labelled u → List Part
  fl a = flatten (erase a)

  pub all_decided : {u : Sort} (Γ : Cxt) (t : Labelled u) → Columned l t → DeclaredClaims T D t → AllByRecursion P (standing T Γ t)
  all_decided Γ (var A n) h k = (decides_rule l K Γ (var A n) h k, tt)
  all_decided Γ (truth A b) h k = (decides_rule l K Γ (truth A b) h k, tt)
  all_decided Γ (num A n) h k = (decides_rule l K Γ (num A n) h k, tt)
  all_decided Γ (succ A e) h k = (decides_rule l K Γ (succ A e) h k, all_decided Γ e h.1 k.1)
  all_decided Γ (unit A) h k = (decides_rule l K Γ (unit A) h k, tt)
  all_decided Γ (inst A i) h k = (decides_rule l K Γ (inst A i) h k, tt)
  all_decided Γ (fn A a c) h k = (decides_rule l K Γ (fn A a c) h k, all_decided _ c h.1 k.1)
  all_decided Γ (handler A a c cs) h k = (
    decides_rule l K Γ (handler A a c cs) h k,
    All-append P _ _ (all_decided (type T a ∷ Γ) c (all_left Q (fl c) (fl cs) h.1) k.1) (all_decided Γ cs (all_right Q (fl c) (fl cs) h.1) k.2),
  )
  all_decided Γ (case e op i c cs) h k = let r = all_right Q (fl i) (fl c ++ fl cs) h.1 in (
    decides_rule l K Γ (case e op i c cs) h k,
    join_3 P _ _ _ (all_decided Γ i (all_left Q (fl i) (fl c ++ fl cs) h.1) k.0) (all_decided (fun (type T (gives T e op)) (claim cs).0 (claim cs).1 ∷ type T (takes T e op) ∷ Γ) c (all_left Q (fl c) (fl cs) r) k.1) (all_decided Γ cs (all_right Q (fl c) (fl cs) r) k.2),
  )
  all_decided Γ (nil C) h k = (decides_rule l K Γ (nil C) h k, tt)
  all_decided Γ (if C e c c') h k = let r = all_right Q (fl e) (fl c ++ fl c') h.1 in (
    decides_rule l K Γ (if C e c c') h k,
    join_3 P _ _ _ (all_decided Γ e (all_left Q (fl e) (fl c ++ fl c') h.1) k.1) (all_decided Γ c (all_left Q (fl c) (fl c') r) k.2) (all_decided Γ c' (all_right Q (fl c) (fl c') r) k.3),
  )
  all_decided Γ (match C e c c') h k = let r = all_right Q (fl e) (fl c ++ fl c') h.1 in (
    decides_rule l K Γ (match C e c c') h k,
    join_3 P _ _ _ (all_decided Γ e (all_left Q (fl e) (fl c ++ fl c') h.1) k.1) (all_decided Γ c (all_left Q (fl c) (fl c') r) k.2) (all_decided (nat ∷ Γ) c' (all_right Q (fl c) (fl c') r) k.3),
  )
  all_decided Γ (absurd_at C e) h k = (decides_rule l K Γ (absurd_at C e) h k, all_decided Γ e h.1 k.1)
  all_decided Γ (apply C e f) h k = (
    decides_rule l K Γ (apply C e f) h k,
    All-append P _ _ (all_decided Γ e (all_left Q (fl e) (fl f) h.1) k.1) (all_decided Γ f (all_right Q (fl e) (fl f) h.1) k.2),
  )
  all_decided Γ (val C e) h k = (decides_rule l K Γ (val C e) h k, all_decided Γ e h.1 k.1)
  all_decided Γ (call C e op i w c) h k = let r = all_right Q (fl i) (fl w ++ fl c) h.1 in (
    decides_rule l K Γ (call C e op i w c) h k,
    join_3 P _ _ _ (all_decided Γ i (all_left Q (fl i) (fl w ++ fl c) h.1) k.1) (all_decided Γ w (all_left Q (fl w) (fl c) r) k.2) (all_decided (type T (gives T e op) ∷ Γ) c (all_right Q (fl w) (fl c) r) k.3),
  )
  all_decided Γ (bind C c c') h k = (
    decides_rule l K Γ (bind C c c') h k,
    All-append P _ _ (all_decided Γ c (all_left Q (fl c) (fl c') h.1) k.1) (all_decided ((claim c).0 ∷ Γ) c' (all_right Q (fl c) (fl c') h.1) k.2),
  )
  all_decided Γ (rec C a c c') h k = (
    decides_rule l K Γ (rec C a c c') h k,
    All-append P _ _ (all_decided (type T a ∷ parameter (type T a) ∷ Γ) c (all_left Q (fl c) (fl c') h.1) k.1) (all_decided (type T a ∷ Γ) c' (all_right Q (fl c) (fl c') h.1) k.2),
  )
  all_decided Γ (handle C e c) h k = (
    decides_rule l K Γ (handle C e c) h k,
    All-append P _ _ (all_decided Γ e (all_left Q (fl e) (fl c) h.1) k.1) (all_decided Γ c (all_right Q (fl e) (fl c) h.1) k.2),
  )

  -- all parts meet their rules, or the first that does not is named
  pub verdict_told : {u : Sort} (line : ℕ) (Γ : Cxt) (t : Labelled u) → Columned l t → DeclaredClaims T D t
      → Told Claim line (length (standing T Γ t)) (λ r. Meets T D (get_or (standing T Γ t) r nowhere)) (claimed T D line Γ t)
  verdict_told line Γ t h k =
      let ok = all_decided Γ t h k in
      same_told Claim line (length (standing T Γ t)) (λ r. rule_ok T D (get_or (standing T Γ t) r nowhere) ≡ true) (λ r. Meets T D (get_or (standing T Γ t) r nowhere))
      (λ r lt p. (All-get_or P (standing T Γ t) r nowhere lt ok).0 p) (λ r lt p. (All-get_or P (standing T Γ t) r nowhere lt ok).1 p)
      (claimed T D line Γ t) (searched Claim (λ n x. rule_ok T D x) nowhere line 0 (standing T Γ t))

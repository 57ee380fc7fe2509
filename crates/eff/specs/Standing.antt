-- The parts of a labelled term in order, each in its context.
use Rattle.std.specs.Prelude.{◌≡◌, ◌↔◌, List, [], ◌∷◌, ◌++◌, length}
use Rattle.eff.specs.Sorts.{Sort}
use Rattle.eff.specs.Syntax.{size}
use Rattle.eff.specs.Types as t
use Rattle.eff.specs.Tables.{Tables, takes, gives, type}
use Rattle.eff.specs.Dirt.{Dirts}
use Rattle.eff.specs.Rules.{Cxt}
use Rattle.eff.specs.Labels.{Labelled, var, truth, num, succ, unit, inst, fn, handler, case, nil, if, match, absurd, apply, val, call, bind, rec, handle, claim, erase, columns}
use Rattle.eff.specs.Claims.{parameter, Rule, Follows}

-- a part with what stands below it, in its context
pub record Standing : Type 0 where
  pub sort : Sort
  pub context : Cxt
  pub part : Labelled sort

abbrev pub stands : {s : Sort} → Cxt → Labelled s → Standing
stands {s} Γ l = record { sort = s; context = Γ; part = l }

module _ (T : Tables) where
  -- the parts in order
  abbrev pub standing : {s : Sort} → Cxt → Labelled s → List Standing
  standing Γ (var A n) = stands Γ (var A n) ∷ []
  standing Γ (truth A b) = stands Γ (truth A b) ∷ []
  standing Γ (num A n) = stands Γ (num A n) ∷ []
  standing Γ (succ A e) = stands Γ (succ A e) ∷ standing Γ e
  standing Γ (unit A) = stands Γ (unit A) ∷ []
  standing Γ (inst A i) = stands Γ (inst A i) ∷ []
  standing Γ (fn A a c) = stands Γ (fn A a c) ∷ standing (type T a ∷ Γ) c
  standing Γ (handler A a c cs) = stands Γ (handler A a c cs) ∷ (standing (type T a ∷ Γ) c ++ standing Γ cs)
  standing Γ (case e op i c cs) = stands Γ (case e op i c cs) ∷ (standing Γ i ++ (standing (t.fun (type T (gives T e op)) (claim cs).0 (claim cs).1 ∷ type T (takes T e op) ∷ Γ) c ++ standing Γ cs))
  standing Γ (nil C) = stands Γ (nil C) ∷ []
  standing Γ (if C e c c') = stands Γ (if C e c c') ∷ (standing Γ e ++ (standing Γ c ++ standing Γ c'))
  standing Γ (match C e c c') = stands Γ (match C e c c') ∷ (standing Γ e ++ (standing Γ c ++ standing (t.nat ∷ Γ) c'))
  standing Γ (absurd C e) = stands Γ (absurd C e) ∷ standing Γ e
  standing Γ (apply C e f) = stands Γ (apply C e f) ∷ (standing Γ e ++ standing Γ f)
  standing Γ (val C e) = stands Γ (val C e) ∷ standing Γ e
  standing Γ (call C e op i w c) = stands Γ (call C e op i w c) ∷ (standing Γ i ++ (standing Γ w ++ standing (type T (gives T e op) ∷ Γ) c))
  standing Γ (bind C c c') = stands Γ (bind C c c') ∷ (standing Γ c ++ standing ((claim c).0 ∷ Γ) c')
  standing Γ (rec C a c c') = stands Γ (rec C a c c') ∷ (standing (type T a ∷ parameter (type T a) ∷ Γ) c ++ standing (type T a ∷ Γ) c')
  standing Γ (handle C e c) = stands Γ (handle C e c) ∷ (standing Γ e ++ standing Γ c)

-- every part's rule holds
abbrev pub AllRules : Tables → Dirts → List Standing → Type 0
AllRules T D [] = Unit {0}
AllRules T D (p ∷ ps) = Rule T D p.context p.part × AllRules T D ps

-- Claims follow just where every part's rule holds; each part stands once, and the columns have a claim for each.
pub record Parted (s : Sort) (l : Labelled s) : Type 0 where
  pub rules : (T : Tables) (D : Dirts) (Γ : Cxt) → (Follows T D Γ l) ↔ (AllRules T D (standing T Γ l))
  pub parts : (T : Tables) (Γ : Cxt) → length (standing T Γ l) ≡ size (erase l)
  pub claims : length (columns l) ≡ size (erase l)

abbrev pub ClaimsFollowByPart : Type 0
ClaimsFollowByPart = (s : Sort) (l : Labelled s) → Parted s l

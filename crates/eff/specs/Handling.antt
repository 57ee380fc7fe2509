-- Which calls a case list handles, and what it leaves of a dirt.
use Rattle.std.specs.Prelude.{◌≡◌, ℕ, ◌^◌, cond, ◌⊎◌, ◌↔◌, ◌==◌}
use Rattle.eff.specs.Sorts.{list}
use Rattle.eff.specs.Types.{Ty, ground, fun, instance, hand}
use Rattle.eff.specs.Tables.{Tables, Declares, Call}
use Rattle.eff.specs.Dirt.{Dirts, ◌⊆◌, leaves, sets}
use Rattle.eff.specs.Checked.{Checked, Known}
use Rattle.eff.specs.Labels.{Labelled, case, nil, claim}

-- A case handles i#op when it is on op and its first child claims E^R for its own effect E with R just {i}; some case of the list does.
abbrev pub Handles : Labelled list → ℕ → ℕ → Type 0
Handles (nil C) i op = ⊥
Handles (case e op' x c cs) i op = ((op' ≡ op) × (claim x ≡ instance e (2 ^ i))) ⊎ Handles cs i op

-- every operation that a case names is declared
abbrev pub DeclaredCases : Tables → Labelled list → Type 0
DeclaredCases T (nil C) = Unit {0}
DeclaredCases T (case e op x c cs) = Declares T e op × DeclaredCases T cs

module _ (D : Dirts) where
  -- what a case on operation op of effect e leaves of d where its first child claims the type
  abbrev pub case_leaves : Ty → (e op d : ℕ) → ℕ
  case_leaves (instance f R) e op d = cond (f == e) (leaves D R op d) d
  case_leaves (ground g) e op d = d
  case_leaves (fun A B f) e op d = d
  case_leaves (hand A f B g) e op d = d

  -- what the cases leave of d
  abbrev pub cases_leave : Labelled list → ℕ → ℕ
  cases_leave (nil C) d = d
  cases_leave (case e op x c cs) d = cases_leave cs (case_leaves (claim x) e op d)

module _ (T : Tables) (D : Dirts) where
  -- every call of d that no case handles is in d'
  abbrev pub Passes : Labelled list → ℕ → ℕ → Type 0
  Passes cs d d' = (i op : ℕ) → Call T i op → ◌⊆◌ D (D.own i op) d → ¬ Handles cs i op → ◌⊆◌ D (D.own i op) d'

-- for call sets, the calls that no case handles are in d' just where what the cases leave lies within d'
abbrev pub HandlingIsLeaving : Type 0
HandlingIsLeaving = (T : Tables) → Checked T (sets T) → (cs : Labelled list) → DeclaredCases T cs → (d d' : ℕ) → Known T (sets T) d
    → (Passes T (sets T) cs d d') ↔ (◌⊆◌ (sets T) (cases_leave (sets T) cs d) d')

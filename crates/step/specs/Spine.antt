-- The computation that takes the step, inside lets and withs.
use Rattle.std.specs.Prelude.{◌≡◌, ◌<◌, List, ◌++◌, length, Some, None, Option}
use Rattle.std.specs.Borrow.{Bor}
use Rattle.eff.specs.Sorts.{comp}
use Rattle.eff.specs.Syntax.{Term, flatten}
use Rattle.eff.specs.Tables.{Tables}
use Rattle.eff.specs.Outcome.{next, stuck, step}
use Rattle.eff.specs.declared.part.Part.{Part}
use Rattle.step.specs.Rewrites.{Rests, ready}

-- a computation that is no val and no call
abbrev pub Busy : Term comp → Type 0
Busy c = Rests c → ⊥

-- the step of u, of which w is a part, is that of w: the parts before w and those behind it stay
pub record Carries (u w : Term comp) (before behind : List Part) : Type 0 where
  pub next_on : (T : Tables) (b : Term comp) → step T w ≡ next b → (b' : Term comp) × (step T u ≡ next b') × (flatten b' ≡ before ++ (flatten b ++ behind))
  pub stuck_on : (T : Tables) → step T w ≡ stuck → step T u ≡ stuck

-- what stands inside the let or the with u, which opens the parts, and opens the inner ones
pub record Within (ps inner : List Part) (u : Term comp) (rest : List Part) : Type 0 where
  pub w : Term comp
  pub before : List Part
  pub behind : List Part
  pub there : inner ≡ flatten w ++ (behind ++ rest)
  pub first : ps ≡ before ++ inner
  pub carries : Carries u w before behind
  pub rests : (T : Tables) → Rests w → ready T u

-- what stands inside the computation u, if anything does
abbrev pub Holding : List Part → Term comp → List Part → Option (Bor (List Part)) → Type 0
Holding ps u rest (Some inner) = Within ps inner.now u rest
Holding ps u rest None = (T : Tables) → ready T u

-- for the computation that opens the parts
pub record Inside (ps : List Part) (r : Option (Bor (List Part))) : Type 0 where
  pub inside : (u : Term comp) (rest : List Part) → ps ≡ flatten u ++ rest → Holding ps u rest r

-- what is found has fewer parts
abbrev pub Fewer : List Part → Option (Bor (List Part)) → Type 0
Fewer ps (Some inner) = length inner.now < length ps
Fewer ps None = Unit {0}

-- the same for what takes a step of its own
abbrev pub Stepping : List Part → Term comp → List Part → Option (Bor (List Part)) → Type 0
Stepping ps u rest (Some inner) = (d : Within ps inner.now u rest) × Busy d.w
Stepping ps u rest None = (T : Tables) → ready T u

-- for the computation that opens the parts
pub record Deeper (ps : List Part) (r : Option (Bor (List Part))) : Type 0 where
  pub deeper : (u : Term comp) (rest : List Part) → ps ≡ flatten u ++ rest → Stepping ps u rest r

-- what opens the rest is the redex of t, behind what stands before it
pub record Redex (before rest : List Part) (t : Term comp) : Type 0 where
  pub u : Term comp
  pub behind : List Part
  pub there : rest ≡ flatten u ++ behind
  pub busy : Busy u
  pub carries : Carries t u before behind

-- a computation that is no val and no call has its redex there
pub record Leads (ps before rest : List Part) : Type 0 where
  pub leads : (t : Term comp) → ps ≡ flatten t → Busy t → (d : Redex before rest t) × ((T : Tables) → ready T d.u)

-- The first case of a handler that names a call, among parts.
use Rattle.std.specs.Prelude.{◌≡◌, ℕ, Bool, ◌&&◌, List, ◌++◌, Some, None, Option, ◌==◌}
use Rattle.std.specs.Borrow.{Bor}
use Rattle.eff.specs.Sorts.{list, comp}
use Rattle.eff.specs.Kinds.{number}
use Rattle.eff.specs.Syntax.{Term, flatten}
use Rattle.eff.specs.Outcome.{first}
use Rattle.eff.specs.declared.part.Part.{Part}

-- a case part and the first part of its instance expression name the call i#op
abbrev pub names_call : Part → Part → ℕ → ℕ → Bool
names_call c x i op = number x.kind == 5 && (c.b == op && x.a == i)

-- the body opens what is found, or there is none
abbrev pub Found : Option (Term comp) → Option (Bor (List Part)) → Type 0
Found (Some b) (Some body) = (rest : List Part) × (body.now ≡ flatten b ++ rest)
Found (Some b) None = ⊥
Found None (Some body) = ⊥
Found None None = Unit {0}

-- the first case of the list that opens the parts that names i#op
pub record Finds (i op : ℕ) (ps : List Part) (r : Option (Bor (List Part))) : Type 0 where
  pub found : (cs : Term list) (rest : List Part) → ps ≡ flatten cs ++ rest → Found (first i op cs) r

-- Terms with parts written in for their names.
use Rattle.std.specs.Prelude.{ℕ, ◌+◌, Bool, false, cond, ◌&&◌, List, [], ◌∷◌, ◌++◌, map, Some, None, Option, ◌==◌}
use Rattle.eff.specs.Kinds.{number}
use Rattle.eff.specs.declared.part.Part.{Part}
use Rattle.eff.specs.Kinds.{names}

-- a part is the variable of place d
abbrev pub is_name : ℕ → Part → Bool
is_name d p = number p.kind == 0 && p.a == d

-- What is written for a part that stands under d names, if it is not kept.
abbrev pub Writing : Type 0
Writing = ℕ → Part → Option (List Part)

-- the terms that stand first among the parts, each under as many names as the list says, with what is written in
abbrev pub fill : Writing → List ℕ → List Part → List Part
fill w [] ps = []
fill w (d ∷ ds) [] = []
fill w (d ∷ ds) (p ∷ ps) = elim (w d p) [ Some v ↦ v ++ fill w ds ps | None ↦ p ∷ fill w (map (λ b. d + b) (names p.kind) ++ ds) ps ]

-- v for the name of place d
abbrev pub one : List Part → Writing
one v d p = cond (is_name d p) (Some v) None

-- a part is the variable beyond place d, for which there is an argument
abbrev pub is_beyond : List Part → ℕ → Part → Bool
is_beyond [] d p = false
is_beyond (q ∷ qs) d p = is_name (d + 1) p

-- v for the name of place d and, if there is an argument, that with v in it for the name beyond
abbrev pub written : List Part → List Part → Writing
written v arg d p = cond (is_beyond arg d p) (Some (fill (one v) (d ∷ []) arg)) (one v d p)

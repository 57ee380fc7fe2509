-- Copying with parts written in: what is written goes before what is still to be written.
use Rattle.std.specs.Prelude.{◌≡◌, ℕ, ◌+◌, ◌<◌, ◌≤◌, List, [], ◌∷◌, ◌++◌, length, drop, Ok, Err, Result}
use Rattle.std.specs.Borrow.{Bor}
use Rattle.eff.specs.declared.part.Part.{Part}
use Rattle.step.specs.declared.halt.Halt.{Halt}
use Rattle.step.specs.declared.halt.Halt.TheVariants.{Stuck, Full}
use Rattle.step.specs.declared.write.Writer.{Writer}
use Rattle.step.specs.Walk.{skip}
use Rattle.step.specs.Fill.{Writing, fill}
use Rattle.step.specs.Written.{parts}

-- from the terms ds, which open the parts, to the terms es, which open the rest
pub record Copied (w : Writing) (ds es : List ℕ) (ps rest : List Part) (was new : Writer) : Type 0 where
  pub inside : length rest ≤ length ps
  pub passes : (j : ℕ) → drop (skip (length ds + j) ps) ps ≡ drop (skip (length es + j) rest) rest
  pub fills : (fs : List ℕ) → parts was ++ fill w (ds ++ fs) ps ≡ parts new ++ fill w (es ++ fs) rest

-- no room for what is to be written
pub record Short (w : Writing) (d : ℕ) (ps : List Part) (was : Writer) : Type 0 where
  pub over : (fs : List ℕ) → length was.to.now < was.filled + length (fill w (d ∷ fs) ps)

-- the term that opens the parts, under d names, is copied, or has no room
abbrev pub Copies : Writing → ℕ → List Part → Writer → Writer → Result (Bor (List Part)) Halt → Type 0
Copies w d ps was new (Ok rest) = Copied w (d ∷ []) [] ps rest.now was new
Copies w d ps was new (Err Full) = Short w d ps was
Copies w d ps was new (Err Stuck) = ⊥

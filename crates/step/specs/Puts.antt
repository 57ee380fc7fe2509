-- A term copied with closed values written in for its names.
use Rattle.std.specs.Prelude.{◌≡◌, List, [], ◌++◌, Ok, Err, Result}
use Rattle.std.specs.Borrow.{Bor}
use Rattle.eff.specs.Sorts.{Sort, expr}
use Rattle.eff.specs.Syntax.{Term, flatten, put}
use Rattle.eff.specs.declared.part.Part.{Part}
use Rattle.step.specs.declared.halt.Halt.{Halt}
use Rattle.step.specs.declared.write.Writer.{Writer}
use Rattle.step.specs.Walk.{Behind}
use Rattle.step.specs.Written.{Holds}

-- the term that opens the source is written: with the value for its latest name and, where there is an argument, first that for the name beyond
pub record Puts (value argument source : List Part) (was new : Writer) (r : Result (Bor (List Part)) Halt) : Type 0 where
  pub one : {s : Sort} (t : Term s) (v : Term expr) (rest : List Part) → argument ≡ [] → source ≡ flatten t ++ rest → value ≡ flatten v
      → Holds (flatten (put 0 v t)) was new r
  pub two : {s : Sort} (t : Term s) (v a : Term expr) (rest : List Part) → argument ≡ flatten a → source ≡ flatten t ++ rest → value ≡ flatten v
      → Holds (flatten (put 0 v (put 1 a t))) was new r

-- what is told is what stands behind the term that opens the source
abbrev pub Reaches : List Part → Result (Bor (List Part)) Halt → Type 0
Reaches source (Ok rest) = Behind source rest.now
Reaches source (Err h) = Unit {0}

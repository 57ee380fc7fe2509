-- Parts written behind what stands.
use Rattle.std.specs.Prelude.{◌≡◌, ◌+◌, ◌<◌, List, ◌++◌, length, take, Ok, Err, Result}
use Rattle.eff.specs.declared.part.Part.{Part}
use Rattle.step.specs.declared.halt.Halt.{Halt}
use Rattle.step.specs.declared.halt.Halt.TheVariants.{Stuck, Full}
use Rattle.step.specs.declared.write.Runs.{Runs}
use Rattle.step.specs.declared.write.Writer.{Writer}

-- the parts of three runs, one behind the other
abbrev pub in_order : Runs → List Part
in_order r = r.head.now ++ (r.first.now ++ r.second.now)

-- the parts that are written
abbrev pub parts : Writer → List Part
parts w = take w.filled w.to.now

-- it is the same slab that is written to
pub record Kept (was new : Writer) : Type 0 where
  pub slab : new.to.ghost_name ≡ was.to.ghost_name
  pub size : length new.to.now ≡ length was.to.now

-- these parts are written behind those that were
pub record Held (out : List Part) (was new : Writer) : Type 0 where
  pub whole : parts new ≡ parts was ++ out

-- there is no room for these
pub record Over (out : List Part) (was : Writer) : Type 0 where
  pub over : length was.to.now < was.filled + length out

-- these parts are written, or there is no room for them
abbrev pub Holds : {A : Type 0} → List Part → Writer → Writer → Result A Halt → Type 0
Holds out was new (Ok a) = Held out was new
Holds out was new (Err Full) = Over out was
Holds out was new (Err Stuck) = ⊥

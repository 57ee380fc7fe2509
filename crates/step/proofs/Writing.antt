-- Runs of parts written one behind the other.
use Rattle.std.proofs.Common.{◌≡◌, ℕ, ◌+◌, true, false, List, ◌++◌, length, Ok, Err, Result, ap, ◌∙◌, append_assoc, arith, length-append}
use Rattle.std.specs.Result.{is_err}
use Rattle.std.proofs.lemmas.List.{length-take-le}
use Rattle.eff.specs.declared.part.Part.{Part}
use Rattle.step.specs.declared.halt.Halt.{Halt}
use Rattle.step.specs.declared.halt.Halt.TheVariants.{Stuck, Full}
use Rattle.step.specs.declared.write.Writer.{Writer}
use Rattle.step.specs.Written.{parts, Kept, Held, Over, Holds}

-- how many parts are written
pub size : (w : Writer) → length (parts w) ≡ w.filled
size w = length-take-le w.filled w.to.now w.fits

pub many : {out : List Part} {was new : Writer} → Held out was new → new.filled ≡ was.filled + length out
many {out} {was} {new} h = omega (arith, size was, size new, ap length h.whole, length-append (parts was) out)

-- one run after another
pub then_holds : {x : List Part} {was mid : Writer} (y : List Part) (new : Writer) (r : Result (Unit {0}) Halt) → Kept was mid
    → Held x was mid → Holds y mid new r → Holds (x ++ y) was new r
then_holds {x} {was} {mid} y new (Ok u) k a b =
    record { whole = b.whole ∙ ap (λ z. z ++ y) a.whole ∙ append_assoc (parts was) x y }
then_holds {x} {was} {mid} y new (Err Full) k a b =
    record { over = omega (arith, many a, b.over, k.size, length-append x y) }
then_holds y new (Err Stuck) k a b = absurd b

-- where the first run has no room, all have none
pub over_all : (x y : List Part) (was mid new : Writer) (e : Halt) → Holds {A = Unit {0}} x was mid (Err e) → Holds {A = Unit {0}} (x ++ y) was new (Err e)
over_all x y was mid new Full a = record { over = omega (arith, a.over, length-append x y) }
over_all x y was mid new Stuck a = absurd a

pub kept_on : {was mid new : Writer} → Kept was mid → Kept mid new → Kept was new
kept_on a b = record { slab = b.slab ∙ a.slab; size = b.size ∙ a.size }

-- whether there was room
pub no_room : {out : List Part} {was : Writer} (new : Writer) (r : Result (Unit {0}) Halt) → is_err r ≡ true → Holds out was new r → Over out was
no_room new (Ok u) e h = let z : ◌≡◌ {A = ℕ} 0 1 = cc in absurd (omega arith)
no_room new (Err Full) e h = h
no_room new (Err Stuck) e h = absurd h

pub had_room : {out : List Part} {was new : Writer} (r : Result (Unit {0}) Halt) → is_err r ≡ false → Holds out was new r → Held out was new
had_room (Ok u) e h = h
had_room (Err x) e h = let z : ◌≡◌ {A = ℕ} 0 1 = cc in absurd (omega arith)

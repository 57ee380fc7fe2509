-- Whether one type lies below another, as a test.
use Rattle.std.specs.Prelude.{Bool, false, ◌&&◌, ◌==◌}
use Rattle.eff.specs.Types.{Ty, Dirty, ground, fun, instance, hand}
use Rattle.eff.specs.Grounds.{number}
use Rattle.eff.specs.Dirt.{Dirts}
use Rattle.eff.specs.Sets.{inside}

module _ (D : Dirts) where
  -- whether A ≤ B, and whether B ≤ A: both at once, since arguments are compared the other way round
  abbrev pub compared : Ty → Ty → Bool × Bool
  compared (ground g) (ground g') = ((number g == number g'), (number g' == number g))
  compared (ground g) (fun A' B' d') = (false, false)
  compared (ground g) (instance e' R') = (false, false)
  compared (ground g) (hand A' d' B' e') = (false, false)
  compared (fun A B d) (ground g') = (false, false)
  compared (fun A B d) (fun A' B' d') =
      ((compared A A').1 && ((compared B B').0 && D.within d d'), (compared A A').0 && ((compared B B').1 && D.within d' d))
  compared (fun A B d) (instance e' R') = (false, false)
  compared (fun A B d) (hand A' d' B' e') = (false, false)
  compared (instance e R) (ground g') = (false, false)
  compared (instance e R) (fun A' B' d') = (false, false)
  compared (instance e R) (instance e' R') = (e == e' && inside R R', (e' == e) && inside R' R)
  compared (instance e R) (hand A' d' B' e') = (false, false)
  compared (hand A d B e) (ground g') = (false, false)
  compared (hand A d B e) (fun A' B' d') = (false, false)
  compared (hand A d B e) (instance e' R') = (false, false)
  compared (hand A d B e) (hand A' d' B' e') = (
    ((compared A A').1 && D.within d' d) && ((compared B B').0 && D.within e e'),
    ((compared A A').0 && D.within d d') && ((compared B B').1 && D.within e' e),
  )

  -- whether A ≤ B
  unfoldable pub below : Ty → Ty → Bool
  below A B = (compared A B).0

  -- whether A!Δ ≤ B!Δ'
  abbrev pub below_dirty : Dirty → Dirty → Bool
  below_dirty A B = below A.0 B.0 && D.within A.1 B.1

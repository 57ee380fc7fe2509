-- The use after calls.
use Rattle.std.specs.Prelude.{List, [], ◌∷◌}
use Rattle.machine.specs.Uses.{Use, more}
use Rattle.runs.specs.declared.act.Act.{Act}
use Rattle.runs.specs.declared.act.Act.TheVariants.{Advance, Read}

-- an advance extends the use by its allowance, a reading leaves it
abbrev pub by_act : Use → Act → Use
by_act u (Advance n) = more u n
by_act u Read = u

abbrev pub by_acts : Use → List Act → Use
by_acts u [] = u
by_acts u (a ∷ acts) = by_acts (by_act u a) acts

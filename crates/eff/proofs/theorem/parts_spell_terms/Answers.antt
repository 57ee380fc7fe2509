use Rattle.eff.proofs.theorem.parts_spell_terms.Goals as goal
use Rattle.eff.proofs.Spelling.{spelling}

pub returns : goal.returns
returns c = spelling

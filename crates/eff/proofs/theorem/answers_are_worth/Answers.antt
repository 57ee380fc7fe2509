use Rattle.std.proofs.Common.{◌≡◌, Some, refl}
use Rattle.eff.specs.Questions.{worth, term}
use Rattle.eff.specs.declared.question.Value.{Value}
use Rattle.eff.specs.declared.question.Value.TheVariants.{Truth, Count, Unit}
use Rattle.eff.proofs.theorem.answers_are_worth.Goals as goal

terms : (v : Value) → worth (term v) ≡ Some v
terms (Truth b) = refl
terms (Count n) = refl
terms Unit = refl

pub returns : goal.returns
returns c = record { terms = terms; truths = refl }

use Rattle.recipe.proofs.Admitted.{grounded}
use Rattle.recipe.proofs.recipe.Recipe.signature.Goals as goal

pub returns-clause-ground : goal.returns-clause-ground
returns-clause-ground c = grounded c.args.self.now.tables _ _ c.signature.result c.signature.ensures c.args.self.now.sound

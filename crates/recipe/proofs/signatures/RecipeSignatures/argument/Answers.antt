use Rattle.std.proofs.Common.{arith, ◌≡◌, ◌<◌, ◌^◌, ℕ, subst, sym}
use Rattle.std.proofs.lemmas.Grind.{common_steps}
use Rattle.eff.specs.Tables.{argument}
use Rattle.recipe.specs.Readers.{declared}
use Rattle.recipe.proofs.Fitting.{argument_fits}
use Rattle.recipe.proofs.signatures.RecipeSignatures.argument.Goals as goal

pub overflow_cast-result : goal.overflow_cast-result
overflow_cast-result c =
    let e : c.unwrap_or_default.result.a ≡ argument (declared c.args.self.now) c.args.function = grind (arith, common_steps) in
    record { fits = subst (λ (n : ℕ). n < 2 ^ 8) (sym e) (argument_fits c.args.self.now c.args.function) }

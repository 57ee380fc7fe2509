use Rattle.std.proofs.Common.{◌≡◌, ℕ, min, max, true, false, List, length, take, sym, refl, ap, ◌∙◌, subst, inl, arith}
use Rattle.eff.specs.Spelling.{term_of}
use Rattle.eff.specs.declared.part.Part.{Part}
use Rattle.claim.specs.Recipes.{parts_of, listed_term}
use Rattle.recipe.specs.Readers.{rows, size, declared}
use Rattle.machine.specs.declared.report.State.TheVariants.{Refused}
use Rattle.machine.specs.Turns.{turn, rests}
use Rattle.machine.specs.Calls.{ready}
use Rattle.runs.specs.Starting.{making}
use Rattle.runs.proofs.Beginning.{begun_stands, some_use, unready_view, ready_view, roomy, recipe_whole, recipe_runs, no_parts}
use Rattle.runs.proofs.start.make.Goals as goal

pub returns-then-not-fits : goal.returns-then-not-fits
returns-then-not-fits c =
    let r = c.args.recipe.now in
    let f = length c.args.first.now in
    let s = length c.args.second.now in
    let e : ready (size r) f s ≡ false = ap (λ n. ready n f s) (sym c.size-size.ensures.value) ∙ sym c.if-not-fits.ensures in
    let seen : _ ≡ making (rows r) f s =
    (λ i. record { recipe = rows r; shorter = min f s; longer = max f s; state = Refused; steps = 0; asked = 0; term = no_parts c.args.first.now i }) ∙ unready_view (rows r) f s e in
    record {
      view = seen;
      stands = begun_stands (rows r) f s _ seen;
      begins = some_use r f s;
      recipe = refl;
      free = refl;
      second = refl;
      unready = λ z. refl;
    }

-- the slab opens with the recipe's parts
opened : (n m : ℕ) (slab ps : List Part) → n ≡ m → take m slab ≡ ps → take n slab ≡ ps
opened n m slab ps e h = ap (λ k. take k slab) e ∙ h

pub invariant_of-resting : goal.invariant_of-resting
invariant_of-resting c =
    let r = c.args.recipe.now in
    let e : ready (size r) (length c.args.first.now) (length c.args.second.now) ≡ true =
    ap (λ n. ready n (length c.args.first.now) (length c.args.second.now)) (sym c.size-size.ensures.value) ∙ sym c.if-not-fits.ensures in
    record { whole = recipe_whole r (roomy (size r) _ _ e).some c.front.result.now (c.front.ensures ∙ opened _ _ _ _ c.size-size.ensures.value c.copy.ensures.parts) }

pub invariant_of-result-2 : goal.invariant_of-result-2
invariant_of-result-2 c =
    let r = c.args.recipe.now in
    let e : ready (size r) (length c.args.first.now) (length c.args.second.now) ≡ true =
    ap (λ n. ready n (length c.args.first.now) (length c.args.second.now)) (sym c.size-size.ensures.value) ∙ sym c.if-not-fits.ensures in
    let m = roomy (size r) _ _ e in
    record {
      fits = omega (arith, m.room, c.size-size.ensures.value, c.copy.auto.to);
      counted = omega arith;
      answered = λ z. omega arith;
      running = λ z. ∣ recipe_runs r m.some _ (opened _ _ _ _ c.size-size.ensures.value c.copy.ensures.parts) ∣₁;
    }

pub returns : goal.returns
returns c =
    let r = c.args.recipe.now in
    let f = length c.args.first.now in
    let s = length c.args.second.now in
    let st = c.resting-state.result in
    let e : ready (size r) f s ≡ true = ap (λ n. ready n f s) (sym c.size-size.ensures.value) ∙ sym c.if-not-fits.ensures in
    let o : take c.size-size.result c.copy.new.to ≡ parts_of (rows r) = opened _ _ _ _ c.size-size.ensures.value c.copy.ensures.parts in
    let t : turn (declared r) (min f s) true 0 (listed_term (rows r)) ≡ rests st =
    subst (λ (ps : List Part). turn (declared r) (min f s) true 0 (term_of ps) ≡ rests st) (c.front.ensures ∙ o) (c.resting-state.ensures true (min f s) (inl refl)) in
    let seen : _ ≡ making (rows r) f s =
    (λ i. record {
      recipe = rows r;
      shorter = min (c.copy.auto.to i) s;
      longer = max (c.copy.auto.to i) s;
      state = st;
      steps = 0;
      asked = 0;
      term = term_of (o i);
    }) ∙ ready_view (rows r) f s st e t in
    record {
      view = seen;
      stands = begun_stands (rows r) f s _ seen;
      begins = some_use r f s;
      recipe = refl;
      free = c.copy.ensures.free;
      second = refl;
      unready = λ z. absurd (let q : ◌≡◌ {A = ℕ} 0 1 = cc in omega arith);
    }

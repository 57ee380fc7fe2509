-- Every computation on the way of a run fits the room.
use Rattle.std.proofs.Common.{◌≡◌, ℕ, suc, ◌≤◌, List, [], ◌∷◌, ◌++◌, Some, subst, arith}
use Rattle.eff.specs.Sorts.{expr, comp}
use Rattle.eff.specs.Syntax.{Term, call, inst, size, put}
use Rattle.eff.specs.Tables.{Tables}
use Rattle.eff.specs.Steps.{◌⇝◌}
use Rattle.eff.specs.Outcome.{asks as calls, next}
use Rattle.eff.specs.Questions.{question, term}
use Rattle.eff.specs.Runs.{Reaches, stays, steps, answers}
use Rattle.eff.specs.declared.question.Question.{Question}
use Rattle.eff.specs.declared.question.Value.{Value}
use Rattle.eff.proofs.Agree.{steps_agree}
use Rattle.host.specs.Meaning.{Replies}

module _ (T : Tables) (room : ℕ) (m : Replies) where
  -- every computation that c reaches by no more steps and answers
  pub record Fits (past : List Question) (c : Term comp) (most : ℕ) : Type 0 where
    pub fits : (n : ℕ) (qs : List Question) (b : Term comp) → Reaches T m past c n qs b → n ≤ most → size b ≤ room

  -- a call takes no step
  no_step : {e op i : ℕ} {v : Term expr} {k b : Term comp} {X : Type 0} → ◌⇝◌ T (call e op (inst i) v k) b → X
  no_step {e} {op} {i} {v} {k} {b} s =
      let p = ((steps_agree T (call e op (inst i) v k)).next_is b).1 s in
      absurd (let r : calls e op i v k ≡ next b = p in let z : ◌≡◌ {A = ℕ} 0 1 = cc in omega arith)

  reached_still : {past qs : List Question} {c b : Term comp} {n : ℕ} → size c ≤ room → Reaches T m past c n qs b → n ≤ 0 → size b ≤ room
  reached_still h stays l = h
  reached_still h (steps s g) l = absurd (omega (arith, l))
  reached_still h (answers p a g) l = absurd (omega (arith, l))

  pub fits_still : (past : List Question) (c : Term comp) → size c ≤ room → Fits past c 0
  fits_still past c h = record { fits = λ n qs b g l. reached_still h g l }

  -- with a step in front
  reached_step : {past qs : List Question} {c b d : Term comp} {n most : ℕ} → ◌⇝◌ T c b → size c ≤ room → Fits past b most → Reaches T m past c n qs d
      → n ≤ suc most → size d ≤ room
  reached_step s h f stays l = h
  reached_step {past} {qs} {c} {b} {d} {most = most} s h f (steps {b = a} {n = n} s' g) l =
      f.fits n qs d (subst (λ x. Reaches T m past x n qs d) ((steps_agree T c).one_next a b s' s) g) (omega (arith, l))
  reached_step s h f (answers p a g) l = no_step s

  pub fits_step : (past : List Question) (c b : Term comp) (most : ℕ) → ◌⇝◌ T c b → size c ≤ room → Fits past b most → Fits past c (suc most)
  fits_step past c b most s h f = record { fits = λ n qs d g l. reached_step s h f g l }

  -- with an answer in front
  reached_answer : {past qs : List Question} {e op i : ℕ} {v : Term expr} {k d : Term comp} {q : Question} {w : Value} {n most : ℕ}
      → question T e op i v ≡ Some q → m past q ≡ Some w → size (call e op (inst i) v k) ≤ room → Fits (past ++ (q ∷ [])) (put 0 (term w) k) most
      → Reaches T m past (call e op (inst i) v k) n qs d → n ≤ suc most → size d ≤ room
  reached_answer p a h f stays l = h
  reached_answer p a h f (steps s g) l = no_step s
  reached_answer {past} {k = k} {d = d} {q = q} {w = w} p a h f (answers {qs = qs} {n = n} {q = q'} {w = w'} p' a' g) l =
      let e : q' ≡ q = cc in
      let e' : w' ≡ w = cc in
      f.fits n qs d (subst (λ y. Reaches T m (past ++ (y ∷ [])) (put 0 (term w) k) n qs d) e
      (subst (λ y. Reaches T m (past ++ (q' ∷ [])) (put 0 (term y) k) n qs d) e' g)) (omega (arith, l))

  pub fits_answer : (past : List Question) (e op i : ℕ) (v : Term expr) (k : Term comp) (q : Question) (w : Value) (most : ℕ)
      → question T e op i v ≡ Some q → m past q ≡ Some w → size (call e op (inst i) v k) ≤ room → Fits (past ++ (q ∷ [])) (put 0 (term w) k) most
      → Fits past (call e op (inst i) v k) (suc most)
  fits_answer past e op i v k q w most p a h f = record { fits = λ n qs d g l. reached_answer p a h f g l }

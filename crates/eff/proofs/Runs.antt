-- Safety of derivations, and of the runs of derived computations.
use Rattle.std.proofs.Common.{◌≡◌, ℕ, suc, List, [], ◌∷◌, ◌++◌, Some, None, Option, sym, refl, ap, ◌∙◌, subst, ap₂, arith}
use Rattle.eff.specs.Sorts.{expr, comp}
use Rattle.eff.specs.Syntax.{Term, call, inst, put}
use Rattle.eff.specs.Types.{Ty, Dirty}
use Rattle.eff.specs.Types as t
use Rattle.eff.specs.Tables.{Tables, Declares, takes, gives, Instance, type}
use Rattle.eff.specs.Dirt.{Dirts, Laws, ◌⊆◌}
use Rattle.eff.specs.Checked.{Checked}
use Rattle.eff.specs.Rules.{Derives, d_truth, d_num, d_unit}
use Rattle.eff.specs.Steps.{◌⇝◌}
use Rattle.eff.specs.Outcome.{Outcome, value, asks, next, stuck, step}
use Rattle.eff.specs.Grounds.{grounded}
use Rattle.eff.specs.Questions.{Of, a_truth, a_count, the_unit, term, worth, asked, question, Replies}
use Rattle.eff.specs.Runs.{Typed, Reaches, stays, answers, RunsAreDetermined}
use Rattle.eff.specs.Runs as r
use Rattle.eff.specs.Safety.{GoesOn, is_value, AllSafe, Proper, RunsSafely, AllRunSafely, DerivationsAreSafe}
use Rattle.eff.specs.Safety as s
use Rattle.eff.specs.declared.ground.Ground.{Ground}
use Rattle.eff.specs.declared.question.Value.{Value}
use Rattle.eff.specs.declared.question.Question.{Question}
use Rattle.eff.proofs.KindNumbers.{ground_number}
use Rattle.eff.proofs.TypeNumbers.{number_type}
use Rattle.eff.proofs.Put.{put_last}
use Rattle.eff.proofs.Safety.{Fits, safety, value_typed, value_there}
use Rattle.eff.proofs.Agree.{Tells, tells, finds, agreed}

pub grounded_type : (T : Tables) (n : ℕ) (g : Ground) → grounded n ≡ Some g → type T n ≡ t.ground g
grounded_type T n g h = ap (type T) (sym (ground_number n g h)) ∙ number_type T g

-- a question's parts
record Made (i op : ℕ) (a : Option Value) (w : Option Ground) (q : Question) : Type 0 where
  argument : a ≡ Some q.argument
  wanted : w ≡ Some q.wanted
  instance : q.call.instance ≡ i
  operation : q.call.op ≡ op

made : (i op : ℕ) (a : Option Value) (w : Option Ground) (q : Question) → asked i op a w ≡ Some q → Made i op a w q
made i op (Some a) (Some w) q h =
    let e : q ≡ record { call = record { instance = i; op = op }; argument = a; wanted = w } = cc in
    record { argument = cc; wanted = cc; instance = ap (λ x. x.call.instance) e; operation = ap (λ x. x.call.op) e }
made i op (Some a) None q h = let z : ◌≡◌ {A = ℕ} 0 1 = cc in absurd (omega arith)
made i op None (Some w) q h = let z : ◌≡◌ {A = ℕ} 0 1 = cc in absurd (omega arith)
made i op None None q h = let z : ◌≡◌ {A = ℕ} 0 1 = cc in absurd (omega arith)

module _ (T : Tables) (D : Dirts) (K : Checked T D) (L : Laws T D) where
  abbrev Exp : Term expr → Ty → Type 0
  Exp e A = Derives T D expr [] e A

  abbrev Comp : Term comp → Dirty → Type 0
  Comp c C = Derives T D comp [] c C

  there : (e op i : ℕ) (v : Term expr) → Exp v (type T (takes T e op)) → (g g' : Ground) → grounded (takes T e op) ≡ Some g → grounded (gives T e op) ≡ Some g'
      → (q : Question) × (question T e op i v ≡ Some q)
  there e op i v h g g' p p' =
      let r = value_there T D K L v g (subst (λ A. Exp v A) (grounded_type T _ g p) h) in
      (_, ap (λ a. asked i op a (grounded (gives T e op))) r.is ∙ ap (λ w. asked i op (Some r.the) w) p')

  proper : (e op i : ℕ) (v : Term expr) (k : Term comp) (A : Ty) (d : ℕ) (q : Question) → Fits T D K L (asks e op i v k) A d → question T e op i v ≡ Some q
      → Proper T D d q
  proper e op i v k A d q h p = let m = made i op (worth v) (grounded (gives T e op)) q p in record {
    effect = e;
    instance = subst (λ j. Instance T j e) (sym m.instance) h.0;
    operation = subst (λ o. Declares T e o) (sym m.operation) h.1;
    within = subst (λ j. ◌⊆◌ D (D.own j q.call.op) d) (sym m.instance) (subst (λ o. ◌⊆◌ D (D.own i o) d) (sym m.operation) h.2);
    taken = subst (λ o. Of q.argument (type T (takes T e o))) (sym m.operation) (value_typed T D K L v _ q.argument h.3 m.argument);
    given = ap (λ o. type T (gives T e o)) m.operation ∙ grounded_type T _ q.wanted m.wanted;
  }

  by_outcome : (c : Term comp) (A : Ty) (d : ℕ) (o : Outcome) → Tells T c o → Fits T D K L o A d → GoesOn T D Exp Comp c A d
  by_outcome c A d (value v) t h = is_value v t h
  by_outcome c A d (asks e op i v k) t h = s.asks (record {
    effect = e;
    op = op;
    i = i;
    argument = v;
    continuation = k;
    is = t;
    instance = h.0;
    operation = h.1;
    within = h.2;
    taken = h.3;
    answered = λ r hr. put_last T D _ r hr h.4;
    asked = there e op i v h.3;
    proper = λ q p. proper e op i v k A d q h p;
  })
  by_outcome c A d (next b) t h = s.steps b t h
  by_outcome c A d stuck t h = elim h [ ]

  pub preserved : (c b : Term comp) (A : Ty) (d : ℕ) → Comp c (A, d) → ◌⇝◌ T c b → Comp b (A, d)
  preserved c b A d h r = subst (λ o. Fits T D K L o A d) (finds T r) (safety T D K L h)

  pub all_safe : AllSafe T D Exp Comp
  all_safe c A d h = record {
    goes_on = by_outcome c A d (step T c) (tells T c) (safety T D K L h);
    every_step = λ b r. preserved c b A d h r;
    never_stuck = λ e. subst (λ o. Fits T D K L o A d) e (safety T D K L h);
  }

  -- the term of an answer has the given type
  answer_typed : {w : Value} {A : Ty} → Of w A → Exp (term w) A
  answer_typed a_truth = d_truth
  answer_typed a_count = d_num
  answer_typed the_unit = d_unit

  module _ (m : Replies) (ok : Typed m) where
    run : {past qs : List Question} {n : ℕ} {c b : Term comp} {A : Ty} {d : ℕ} → Reaches T m past c n qs b → Comp c (A, d) → RunsSafely T D Exp Comp b A d qs
    run stays h = record { typed = h; safe = all_safe _ _ _ h; proper = tt }
    run (r.steps p g) h = let x = run g (preserved _ _ _ _ h p) in record { typed = x.typed; safe = x.safe; proper = x.proper }
    run (answers {past = past} {e = e} {op = op} {i = i} {v = v} {k = k} {q = q} {w = w} p a g) h =
        let f = safety T D K L h in
        let z = made i op (worth v) (grounded (gives T e op)) q p in
        let y = put_last T D _ (term w) (subst (λ A. Exp (term w) A) (sym (grounded_type T _ q.wanted z.wanted)) (answer_typed (ok past q w a))) f.4 in
        let x = run g y in
        record { typed = x.typed; safe = x.safe; proper = (proper e op i v k _ _ q f p, x.proper) }

  pub all_run_safely : AllRunSafely T D Exp Comp
  all_run_safely m ok past qs n c b A d h g = run m ok g h

pub derivations_are_safe : DerivationsAreSafe
derivations_are_safe T D K L = record { safe = all_safe T D K L; runs = all_run_safely T D K L }

-- a call takes no step
no_step : {T : Tables} {e op i : ℕ} {v : Term expr} {k b : Term comp} → ◌⇝◌ T (call e op (inst i) v k) b → ⊥
no_step {T} h = let e = finds T h in let z : ◌≡◌ {A = ℕ} 0 1 = cc in omega arith

same_run : {T : Tables} {m : Replies} {past qs qs' : List Question} {c b b' : Term comp} {n : ℕ} → Reaches T m past c n qs b → Reaches T m past c n qs' b'
    → (qs ≡ qs') × (b ≡ b')
same_run stays stays = (refl, refl)
same_run {T} {m} {past} {qs' = qs'} {c = c} {b' = a'} {n = suc n} (r.steps {b = b} p g) (r.steps {b = b'} p' g') =
    same_run g (subst (λ x. Reaches T m past x n qs' a') ((agreed T c).one_next b' b p' p) g')
same_run (r.steps p g) (answers q a g') = elim (no_step p) [ ]
same_run (answers q a g) (r.steps p g') = elim (no_step p) [ ]
same_run {T} {m} {past} {b' = a'} (answers {k = k} {n = n} {q = q} {w = w} p a g) (answers {qs = qs'} {q = q'} {w = w'} p' h g') =
    let e : q' ≡ q = cc in
    let f : w' ≡ w = cc in
    let x = same_run g (subst (λ y. Reaches T m (past ++ (y ∷ [])) (put 0 (term w) k) n qs' a') e
    (subst (λ y. Reaches T m (past ++ (q' ∷ [])) (put 0 (term y) k) n qs' a') f g')) in
    (ap₂ (λ y ys. y ∷ ys) (sym e) x.0, x.1)

pub determined : RunsAreDetermined
determined T m past qs qs' c b b' n g g' = same_run g g'

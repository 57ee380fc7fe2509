-- A run of a typed computation keeps its guarantee.
use Rattle.std.proofs.Common.{◌≡◌, ℕ, ◌≤◌, List, [], ◌∷◌, ◌++◌, Some, None, sym, ap, ◌∙◌, subst, arith}
use Rattle.eff.specs.Sorts.{expr, comp}
use Rattle.eff.specs.Syntax.{Term, val, call, inst, size}
use Rattle.eff.specs.Types.{Ty}
use Rattle.eff.specs.Types as t
use Rattle.eff.specs.Tables.{Tables, Declares, takes, gives}
use Rattle.eff.specs.Dirt.{sets}
use Rattle.eff.specs.Checked.{Checked}
use Rattle.eff.specs.Outcome.{value, asks as calls, next}
use Rattle.eff.specs.Claims.{HasType}
use Rattle.eff.specs.Grounds.{grounded}
use Rattle.eff.specs.Questions.{Of, a_truth, a_count, the_unit, question, type_of}
use Rattle.eff.specs.Runs.{Typed}
use Rattle.eff.specs.Safety.{Proper, AllProper, Asks, GoesOn, is_value, steps, asks, Safe}
use Rattle.eff.specs.declared.ground.Ground.{Ground}
use Rattle.eff.specs.declared.question.Question.{Question}
use Rattle.eff.specs.declared.question.Value.{Value}
use Rattle.eff.specs.declared.question.Value.TheVariants.{Truth, Count, Unit}
use Rattle.eff.proofs.Agree.{steps_agree}
use Rattle.eff.proofs.ClaimSafety.{claims_are_safe}
use Rattle.host.specs.Meaning as h
use Rattle.machine.specs.declared.report.State.{State}
use Rattle.machine.specs.declared.report.State.TheVariants.{Paused}
use Rattle.machine.specs.Turns.{Gone, going}
use Rattle.machine.specs.Ends as e
use Rattle.machine.specs.Ends.{Ran}
use Rattle.machine.specs.Guarantee.{StandsWell, done, stopped, full, at_limit, before_step, before_call}
use Rattle.machine.proofs.Running.{ran}

-- every declared operation takes and gives a ground type
pub record GroundSignatures (T : Tables) : Type 0 where
  pub taken : (e op : ℕ) → Declares T e op → (g : Ground) × (grounded (takes T e op) ≡ Some g)
  pub given : (e op : ℕ) → Declares T e op → (g : Ground) × (grounded (gives T e op) ≡ Some g)

module _ (T : Tables) (A : Ty) (d : ℕ) where
  -- A run of c by an allowance, over a host that means m: where it has gone is what c reaches, it stands well there, and every question put names
  -- a call of d, with an argument of the call's taken type.
  pub record Kept (room : ℕ) (m : h.Replies) (c : Term comp) (allowance : ℕ) (g : Gone) : Type 0 where
    pub ran : Ran T room m c allowance g
    pub typed : HasType T (sets T) comp g.computation (A, d)
    pub stands : StandsWell T A d room g.computation g.steps g.state
    pub proper : AllProper T (sets T) d g.put

of_type : (w : Value) (g : Ground) → type_of w ≡ g → Of w (t.ground g)
of_type (Truth b) g p = subst (λ x. Of (Truth b) (t.ground x)) p a_truth
of_type (Count n) g p = subst (λ x. Of (Count n) (t.ground x)) p a_count
of_type Unit g p = subst (λ x. Of Unit (t.ground x)) p the_unit

-- a lawful meaning has typed answers
pub typed_answers : (m : h.Replies) (known : h.Known) → h.Lawful m known → Typed m
typed_answers m known l past q w p = of_type w q.wanted (subst (h.Typed q) p (l.typed past q)).0

module _ (T : Tables) (A : Ty) (d : ℕ) where
  abbrev Safely : Term comp → Type 0
  Safely c = Safe T (sets T) (HasType T (sets T) expr) (HasType T (sets T) comp) c A d

  abbrev GoingOn : Term comp → Type 0
  GoingOn c = GoesOn T (sets T) (HasType T (sets T) expr) (HasType T (sets T) comp) c A d

  abbrev Asking : Term comp → Type 0
  Asking c = Asks T (sets T) (HasType T (sets T) expr) (HasType T (sets T) comp) c A d

  append_proper : (qs : List Question) (q : Question) → AllProper T (sets T) d qs → Proper T (sets T) d q → AllProper T (sets T) d (qs ++ (q ∷ []))
  append_proper [] q h p = (p, tt)
  append_proper (x ∷ qs) q h p = (h.0, append_proper qs q h.1 p)

  -- a val is a value of the type
  value_of : (c : Term comp) (v : Term expr) → c ≡ val v → GoingOn c → HasType T (sets T) expr v A
  value_of c v is (is_value w p ht) = let q : w ≡ v = let r : val w ≡ val v = sym p ∙ is in cc in subst (λ x. HasType T (sets T) expr x A) q ht
  value_of c v is (steps b s ht) =
      let p = ((steps_agree T c).value_is v).1 is in
      let q = ((steps_agree T c).next_is b).1 s in
      absurd (let r : value v ≡ next b = sym p ∙ q in let z : ◌≡◌ {A = ℕ} 0 1 = cc in omega arith)
  value_of c v is (asks a) = absurd (let r : val v ≡ call a.effect a.op (inst a.i) a.argument a.continuation = sym is ∙ a.is in let z : ◌≡◌ {A = ℕ} 0 1 = cc in omega arith)

  -- a call asks
  asking_of : (c : Term comp) (x op i : ℕ) (v : Term expr) (k : Term comp) → c ≡ call x op (inst i) v k → GoingOn c → Asking c
  asking_of c x op i v k is (is_value w p ht) = absurd (let r : val w ≡ call x op (inst i) v k = sym p ∙ is in let z : ◌≡◌ {A = ℕ} 0 1 = cc in omega arith)
  asking_of c x op i v k is (steps b s ht) =
      let p = ((steps_agree T c).asks_is x op i v k).1 is in
      let q = ((steps_agree T c).next_is b).1 s in
      absurd (let r : calls x op i v k ≡ next b = sym p ∙ q in let z : ◌≡◌ {A = ℕ} 0 1 = cc in omega arith)
  asking_of c x op i v k is (asks a) = a

  same_question : (c : Term comp) (x op i : ℕ) (v : Term expr) (k : Term comp) → c ≡ call x op (inst i) v k → (a : Asking c)
      → question T x op i v ≡ question T a.effect a.op a.i a.argument
  same_question c x op i v k is a =
      let r : call x op (inst i) v k ≡ call a.effect a.op (inst a.i) a.argument a.continuation = sym is ∙ a.is in
      let e1 : x ≡ a.effect = cc in
      let e2 : op ≡ a.op = cc in
      let e3 : i ≡ a.i = cc in
      let e4 : v ≡ a.argument = cc in
      ap (λ z. question T z op i v) e1 ∙ ap (λ z. question T a.effect z i v) e2 ∙ ap (λ z. question T a.effect a.op z v) e3 ∙ ap (λ z. question T a.effect a.op a.i z) e4

  module _ (S : GroundSignatures T) (room : ℕ) (m : h.Replies) where
    before : (c : Term comp) (n : ℕ) → e.NoVal c → GoingOn c → StandsWell T A d room c n Paused
    before c n nv (is_value v p ht) = absurd (nv v p)
    before c n nv (steps b s ht) = before_step b s
    before c n nv (asks a) = before_call a.is a.within

    some_rule : (c : Term comp) → GoingOn c → e.NoRule T c → ⊥
    some_rule c (is_value v p ht) h = h.no_val v p
    some_rule c (steps b s ht) h = h.no_next b s
    some_rule c (asks a) h = h.no_call _ _ _ _ _ a.is

    record Both (c : Term comp) (n : ℕ) (s : State) (put : List Question) : Type 0 where
      stands : StandsWell T A d room c n s
      proper : AllProper T (sets T) d put

    -- where a safe computation rests, it stands well
    well : (left : ℕ) (past : List Question) (c : Term comp) (n : ℕ) (s : State) (put : List Question) → e.Rests T room m left past c n s put → Safely c
        → AllProper T (sets T) d past → Both c n s put
    well left past c n s put (e.paused nv low all) sf pr = record { stands = before c n nv sf.goes_on; proper = pr }
    well left past c n s put (e.done v is) sf pr = record { stands = done v is (value_of c v is sf.goes_on); proper = pr }
    well left past c n s put (e.at_limit nv all) sf pr = record { stands = at_limit all; proper = pr }
    well left past c n s put (e.stopped {e = x} {op = op} {i = i} {v = v} {k = k} {q = q} f is put_is r) sf pr =
        let a = asking_of c x op i v k is sf.goes_on in
        let p = a.proper q (sym (same_question c x op i v k is a) ∙ put_is) in
        record { stands = stopped p.within; proper = append_proper past q pr p }
    well left past c n s put (e.full b f st over) sf pr = record { stands = full b st over; proper = pr }
    well left past c n s put (e.unruled f h) sf pr = absurd (some_rule c sf.goes_on h)
    well left past c n s put (e.unasked {e = x} {op = op} {i = i} {v = v} {k = k} f is none) sf pr =
        let a = asking_of c x op i v k is sf.goes_on in
        let takes = S.taken a.effect a.op a.operation in
        let gives = S.given a.effect a.op a.operation in
        let some = a.asked takes.0 gives.0 takes.1 gives.1 in
        absurd (let r : None ≡ Some some.0 = sym none ∙ same_question c x op i v k is a ∙ some.1 in let z : ◌≡◌ {A = ℕ} 0 1 = cc in omega arith)

    pub keeps : Checked T (sets T) → (known : h.Known) → h.Lawful m known → (c : Term comp) → HasType T (sets T) comp c (A, d) → size c ≤ room
        → (left : ℕ) → Kept T A d room m c left (going T room left m 0 c)
    keeps K known l c ht h left =
        let r = ran T room m left c h in
        let sf = (claims_are_safe T K).runs m (typed_answers m known l) [] r.answered _ c _ A d ht r.reaches in
        let w = well left r.answered _ _ _ _ r.rests sf.safe sf.proper in
        record { ran = r; typed = sf.typed; stands = w.stands; proper = w.proper }

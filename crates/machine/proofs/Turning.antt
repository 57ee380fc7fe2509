-- What a turn that goes on says of its computation.
use Rattle.std.proofs.Common.{◌≡◌, ℕ, ◌<◌, Bool, true, false, cond, ltb, leb, Some, None, Option, sym, refl, ap, subst, leb-false}
use Rattle.eff.specs.Sorts.{expr, comp}
use Rattle.eff.specs.Syntax.{Term, size, put}
use Rattle.eff.specs.Tables.{Tables}
use Rattle.eff.specs.Outcome.{Outcome, value, asks as calls, next, stuck}
use Rattle.eff.specs.Questions.{question, term}
use Rattle.eff.specs.declared.question.Question.{Question}
use Rattle.eff.specs.declared.question.Value.{Value}
use Rattle.machine.specs.declared.report.State.TheVariants.{Paused, Full, Limit}
use Rattle.machine.specs.Turns.{limit, Turn, rests, asks, goes, put_to_host, turn_by}

-- some allowance is left, the limit is not reached, and the computation has this next one
pub record GoesBy (T : Tables) (spent : Bool) (n : ℕ) (o : Outcome) (b : Term comp) : Type 0 where
  pub left : spent ≡ false
  pub low : n < limit
  pub next_is : o ≡ next b

-- the same where it asks
pub record AsksBy (T : Tables) (spent : Bool) (n : ℕ) (o : Outcome) (q : Question) (on : Value → Term comp) : Type 0 where
  pub left : spent ≡ false
  pub low : n < limit
  pub effect : ℕ
  pub op : ℕ
  pub instance : ℕ
  pub argument : Term expr
  pub continuation : Term comp
  pub asks_is : o ≡ calls effect op instance argument continuation
  pub put_is : question T effect op instance argument ≡ Some q
  pub on_is : (w : Value) → on w ≡ put 0 (term w) continuation

-- a turn that does not rest is not held back
abbrev Moves : Turn → Type 0
Moves (rests s) = ⊥
Moves (asks q k) = Unit {0}
Moves (goes b) = Unit {0}

record Free (spent : Bool) (n : ℕ) (t u : Turn) : Type 0 where
  left : spent ≡ false
  low : n < limit
  is : t ≡ u

unheld : (spent : Bool) (n : ℕ) (t u : Turn) (b : Bool) → leb limit n ≡ b → Moves u → cond b (rests Limit) (cond spent (rests Paused) t) ≡ u → Free spent n t u
unheld spent n t u true e mv h = absurd (subst Moves (sym h) mv)
unheld true n t u false e mv h = absurd (subst Moves (sym h) mv)
unheld false n t u false e mv h = record { left = refl; low = leb-false limit n e; is = h }

-- which question a turn puts, and what it goes on with
abbrev asked_of : Turn → Question → Question
asked_of (rests s) d = d
asked_of (asks q k) d = q
asked_of (goes b) d = d

abbrev on_of : Turn → (Value → Term comp) → Value → Term comp
on_of (rests s) d = d
on_of (asks q k) d = k
on_of (goes b) d = d

abbrev to_of : Turn → Term comp → Term comp
to_of (rests s) d = d
to_of (asks q k) d = d
to_of (goes b) d = b

fits_so : (x : Bool) (b d : Term comp) → cond x (rests Full) (goes b) ≡ goes d → b ≡ d
fits_so true b d h = absurd (subst Moves (sym h) tt)
fits_so false b d h = ap (λ t. to_of t d) h

never_asks : (x : Bool) (b : Term comp) (q : Question) (k : Value → Term comp) → cond x (rests Full) (goes b) ≡ asks q k → ⊥
never_asks true b q k h = subst Moves (sym h) tt
never_asks false b q k h = subst Asking (sym h) tt
  where
    Asking : Turn → Type 0
    Asking (rests s) = ⊥
    Asking (asks q k) = Unit {0}
    Asking (goes b) = ⊥

never_goes : (q : Option Question) (k d : Term comp) → put_to_host q k ≡ goes d → ⊥
never_goes (Some q) k d h = subst Going (sym h) tt
  where
    Going : Turn → Type 0
    Going (rests s) = ⊥
    Going (asks q k) = ⊥
    Going (goes b) = Unit {0}
never_goes None k d h = subst Moves (sym h) tt

module _ (T : Tables) (room : ℕ) where
  pub goes_by : (spent : Bool) (n : ℕ) (o : Outcome) (b : Term comp) → turn_by T room spent n o ≡ goes b → GoesBy T spent n o b
  goes_by spent n (value v) b h = absurd (subst Moves (sym h) tt)
  goes_by spent n (calls e op i v k) b h = absurd (never_goes (question T e op i v) k b (unheld spent n _ (goes b) (leb limit n) refl tt h).is)
  goes_by spent n (next c) b h =
      let f = unheld spent n _ (goes b) (leb limit n) refl tt h in
      record { left = f.left; low = f.low; next_is = ap next (fits_so (ltb room (size c)) c b f.is) }
  goes_by spent n stuck b h = absurd (subst Moves (sym (unheld spent n _ (goes b) (leb limit n) refl tt h).is) tt)

  put_by : (x : Option Question) (k : Term comp) (q : Question) (on : Value → Term comp) → put_to_host x k ≡ asks q on
      → (x ≡ Some q) × ((w : Value) → on w ≡ put 0 (term w) k)
  put_by (Some y) k q on h = (ap Some (ap (λ t. asked_of t q) h), λ w. sym (ap (λ t. on_of t on w) h))
  put_by None k q on h = absurd (subst Moves (sym h) tt)

  pub asks_by : (spent : Bool) (n : ℕ) (o : Outcome) (q : Question) (on : Value → Term comp) → turn_by T room spent n o ≡ asks q on → AsksBy T spent n o q on
  asks_by spent n (value v) q on h = absurd (subst Moves (sym h) tt)
  asks_by spent n (calls e op i v k) q on h =
      let f = unheld spent n _ (asks q on) (leb limit n) refl tt h in
      let p = put_by (question T e op i v) k q on f.is in
      record { left = f.left; low = f.low; effect = e; op = op; instance = i; argument = v; continuation = k; asks_is = refl; put_is = p.0; on_is = p.1 }
  asks_by spent n (next c) q on h = absurd (never_asks (ltb room (size c)) c q on (unheld spent n _ (asks q on) (leb limit n) refl tt h).is)
  asks_by spent n stuck q on h = absurd (subst Moves (sym (unheld spent n _ (asks q on) (leb limit n) refl tt h).is) tt)

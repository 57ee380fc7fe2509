-- Call sets obey the laws of dirt.
use Rattle.std.proofs.Common.{◌≡◌, ℕ, zero, suc, ◌+◌, ◌-◌, ◌*◌, ◌<◌, Bool, true, false, cond, eqb, ◌⊎◌, List, [], ◌∷◌, length, get_or, sym, refl, ap, ◌∙◌, subst, inl, inr, arith, eq-eqb, eqb-true}
use Rattle.std.proofs.lemmas.Bool.{and_parts}
use lib.Bits.{bit_or, bit_and, bit_xor}
use Rattle.eff.specs.Sets.{bit, Holds, Within}
use Rattle.eff.specs.Tables.{Tables, Operation, declares, declared, Call}
use Rattle.eff.specs.Dirt.{Laws, sets, weight, calls_of, calls}
use Rattle.eff.specs.Checked.{Checked}
use Rattle.eff.specs.CallSets.{CallSetLaws, CallSetsAreDirts}
use Rattle.eff.proofs.Sorted.{never}
use Rattle.eff.proofs.Sets.{bit-or, bit_zero, bit_without, holds_own, own_holds, within_true, true_within}

pub holds_or : (a b k : ℕ) → Holds (bit_or a b) k → Holds a k ⊎ Holds b k
holds_or a b k h = go (bit a k) refl
  where
    go : (x : ℕ) → bit a k ≡ x → Holds a k ⊎ Holds b k
    go zero p = inr (omega (arith, bit-or a b k))
    go (suc zero) p = inl p
    go (suc (suc x)) p = absurd (omega arith)

pub or_left : (a b k : ℕ) → Holds a k → Holds (bit_or a b) k
or_left a b k h = omega (arith, bit-or a b k)

pub or_right : (a b k : ℕ) → Holds b k → Holds (bit_or a b) k
or_right a b k h = omega (arith, bit-or a b k)

not_none : {X : Type 0} (k : ℕ) → Holds 0 k → X
not_none k h = absurd (omega (arith, bit_zero k))

-- a call is one of the calls of its operation
of_here : (o : Operation) (i j : ℕ) (es : List ℕ) → j < length es → get_or es j 0 ≡ o.effect → Holds (calls_of o i es) (4 * (i + j) + o.op)
of_here o i j [] h e = absurd (omega arith)
of_here o i zero (x ∷ es) h e =
    let p : Holds (weight i o.op) (4 * (i + 0) + o.op) =
    subst (λ n. Holds (weight i o.op) (4 * n + o.op)) (omega arith) (holds_own (4 * i + o.op)) in
    or_left _ (calls_of o (suc i) es) _ (subst (λ b. Holds (cond b (weight i o.op) 0) (4 * (i + 0) + o.op)) (sym (eq-eqb o.effect x (sym e))) p)
of_here o i (suc j) (x ∷ es) h e =
    or_right _ _ _ (subst (λ n. Holds (calls_of o (suc i) es) (4 * n + o.op)) (omega arith) (of_here o (suc i) j es (omega arith) e))

-- the calls of an operation are calls on the instances of its effect
pub record Of (o : Operation) (i : ℕ) (es : List ℕ) (k : ℕ) : Type 0 where
  pub at : ℕ
  pub short : at < length es
  pub effect : get_or es at 0 ≡ o.effect
  pub is : k ≡ 4 * (i + at) + o.op

here_of : (o : Operation) (i : ℕ) (es : List ℕ) (k : ℕ) → Holds (calls_of o i es) k → Of o i es k
here_of o i [] k h = not_none k h
here_of o i (x ∷ es) k h = split (holds_or _ (calls_of o (suc i) es) k h) (λ p. here_of o (suc i) es k p)
  where
    first : (b : Bool) → eqb o.effect x ≡ b → Holds (cond b (weight i o.op) 0) k → Of o i (x ∷ es) k
    first true e p = record { at = 0; short = omega arith; effect = sym (eqb-true _ _ e); is = own_holds _ k p ∙ omega arith }
    first false e p = not_none k p

    split : Holds (cond (eqb o.effect x) (weight i o.op) 0) k ⊎ Holds (calls_of o (suc i) es) k
        → (Holds (calls_of o (suc i) es) k → Of o (suc i) es k) → Of o i (x ∷ es) k
    split (inl p) f = first (eqb o.effect x) refl p
    split (inr p) f = let r = f p in
        record { at = suc r.at; short = omega arith; effect = r.effect; is = r.is ∙ omega arith }

-- a declared call is one of all calls
here : (os : List Operation) (es : List ℕ) (e op i : ℕ) → declared os e op ≡ true → i < length es → get_or es i 0 ≡ e
    → Holds (calls os es) (4 * i + op)
here [] es e op i d l q = never d
here (o ∷ os) es e op i d l q = go (declares o e op) refl d (λ x. here os es e op i x l q)
  where
    go : (b : Bool) → declares o e op ≡ b → cond b true (declared os e op) ≡ true
        → (declared os e op ≡ true → Holds (calls os es) (4 * i + op)) → Holds (calls (o ∷ os) es) (4 * i + op)
    go true p x f = let r = and_parts _ _ p in
        or_left _ _ _ (subst (λ m. Holds (calls_of o 0 es) m) (omega (arith, eqb-true o.op op r.1))
        (of_here o 0 i es l (q ∙ sym (eqb-true _ _ r.0))))
    go false p x f = or_right _ _ _ (f x)

-- an operation declared in the first row or a later one
first_declares : (o : Operation) (os : List Operation) → declared (o ∷ os) o.effect o.op ≡ true
first_declares o os = rw (eq-eqb o.effect o.effect refl, eq-eqb o.op o.op refl) refl

later_declares : (o : Operation) (os : List Operation) (e op : ℕ) → declared os e op ≡ true → declared (o ∷ os) e op ≡ true
later_declares o os e op h = go (declares o e op)
  where
    go : (b : Bool) → cond b true (declared os e op) ≡ true
    go true = refl
    go false = h

pub record DeclaredCall (os : List Operation) (es : List ℕ) (k : ℕ) : Type 0 where
  pub i : ℕ
  pub op : ℕ
  pub e : ℕ
  pub is : k ≡ 4 * i + op
  pub short : i < length es
  pub effect : get_or es i 0 ≡ e
  pub operation : declared os e op ≡ true

call_here : (os : List Operation) (es : List ℕ) (k : ℕ) → Holds (calls os es) k → DeclaredCall os es k
call_here [] es k h = not_none k h
call_here (o ∷ os) es k h = split (holds_or (calls_of o 0 es) (calls os es) k h) (λ p. call_here os es k p)
  where
    split : Holds (calls_of o 0 es) k ⊎ Holds (calls os es) k → (Holds (calls os es) k → DeclaredCall os es k) → DeclaredCall (o ∷ os) es k
    split (inl p) f = let r = here_of o 0 es k p in
        record { i = r.at; op = o.op; e = o.effect; is = r.is ∙ omega arith; short = r.short; effect = r.effect; operation = first_declares o os }
    split (inr p) f = let r = f p in
        record { i = r.i; op = r.op; e = r.e; is = r.is; short = r.short; effect = r.effect; operation = later_declares o os r.e r.op r.operation }

module _ (T : Tables) (K : Checked T (sets T)) where
  small : {i op : ℕ} → Call T i op → op < 4
  small {op} c = K.operations c.effect op c.operation

  bit_taken : (d i op k : ℕ) → bit (bit_xor d (bit_and d (weight i op))) k ≡ bit d k - bit (weight i op) k
  bit_taken d i op k = bit_without d (weight i op) k

  -- the call i#op taken out of d
  pub taken_out : (i op d k : ℕ) → Holds d k → ¬ (k ≡ 4 * i + op) → Holds ((sets T).without i op d) k
  taken_out i op d k h n = go (bit (weight i op) k) refl
    where
      go : (x : ℕ) → bit (weight i op) k ≡ x → Holds ((sets T).without i op d) k
      go zero p = bit_taken d i op k ∙ omega arith
      go (suc zero) p = elim (n (own_holds _ k p)) [ ]
      go (suc (suc x)) p = absurd (omega arith)

  pub stays_in : (i op d k : ℕ) → Holds ((sets T).without i op d) k → (Holds d k) × ¬ (k ≡ 4 * i + op)
  stays_in i op d k h =
      let e = bit_taken d i op k in
      (omega arith, λ q. absurd (omega (arith, holds_own (4 * i + op), ap (λ m. bit (weight i op) m) q)))

  pub within : (d e : ℕ) → Within d e → (sets T).within d e ≡ true
  within d e h = within_true d e h

  pub is_within : (d e : ℕ) → (sets T).within d e ≡ true → Within d e
  is_within d e h = true_within d e h

  pub own_within : (i op d : ℕ) → Holds d (4 * i + op) → (sets T).within (weight i op) d ≡ true
  own_within i op d h = within _ d (λ k p. subst (λ m. Holds d m) (sym (own_holds _ k p)) h)

  pub laws : Laws T (sets T)
  laws = record {
    self = λ d. within d d (λ k h. h);
    trans = λ {d} {e} {f} p q. within d f (λ k h. is_within e f q k (is_within d e p k h));
    foot = λ d. within 0 d (λ k h. not_none k h);
    left = λ d e. within d _ (λ k h. or_left d e k h);
    right = λ d e. within e _ (λ k h. or_right d e k h);
    least = λ {d} {e} {f} p q. within _ f (λ k h. elim (holds_or d e k h) [ inl x ↦ is_within d f p k x | inr x ↦ is_within e f q k x ]);
    less = λ i op d. within _ d (λ k h. (stays_in i op d k h).0);
    mono = λ {d} {e} i op p. within _ _ (λ k h. let r = stays_in i op d k h in taken_out i op e k (is_within d e p k r.0) r.1);
    keeps = λ {d} i op j op' c c' n p. own_within i op _ (taken_out j op' d _ (is_within _ d p _ (holds_own (4 * i + op)))
        (λ q. n (omega (arith, small c, small c'), omega (arith, small c, small c'))));
    every = λ i op c. own_within i op _ (here T.operations T.instances c.effect op i c.operation c.instance.declared c.instance.effect);
  }

  pub facts : CallSetLaws T
  facts = record {
    laws = laws;
    within = λ d e. (λ h. is_within d e h, λ h. within d e h);
    own = λ i op k. (λ h. own_holds _ k h, λ q. subst (λ m. Holds (weight i op) m) (sym q) (holds_own (4 * i + op)));
    without = λ i op d k. (λ h. stays_in i op d k h, λ h. taken_out i op d k h.0 h.1);
    known = λ d. (
      λ h k p. let r = call_here T.operations T.instances k (is_within d _ h k p) in
          (r.i, r.op, r.is, record { effect = r.e; instance = record { declared = r.short; effect = r.effect }; operation = r.operation }),
      λ h. within d _ (λ k p. let r = h k p in
          subst (λ m. Holds (calls T.operations T.instances) m) (sym r.2)
          (here T.operations T.instances r.3.effect r.1 r.0 r.3.operation r.3.instance.declared r.3.instance.effect)),
    );
  }

pub call_sets : CallSetsAreDirts
call_sets T K = facts T K

-- The test of numbers finds the first row that is not the next.
use Rattle.std.proofs.Common.{◌≡◌, ℕ, zero, suc, ◌+◌, ◌<◌, ◌≤◌, true, eqb, ◌⊎◌, List, [], ◌∷◌, length, get_or, Ok, Err, sym, ◌∙◌, subst, inl, inr, ⊎_elim, zero-add, arith}
use Rattle.std.proofs.lemmas.Bool.Decides.{nat_tests}
use Rattle.std.proofs.lemmas.Bool.{eqb-true, eq-eqb, cond_both}
use Rattle.fault.specs.declared.text.TextFault.{TextFault}
use Rattle.fault.specs.declared.text.TextFault.TheVariants.{Turn}
use Rattle.fault.specs.Search.{Verdict, and_then, First, NoLine}
use Rattle.fault.proofs.Searching.{Found, Told, more, stopped, same_told, searched, earlier}
use Rattle.sheet.specs.declared.rows.Operation.{Operation}
use Rattle.sheet.specs.Rows.{Listing, operation_of, instance_of, type_of, part_of, instance_number, type_number, part_number}
use Rattle.sheet.specs.Faults.{Which, operations, instances, types, parts, count, row_line, InTurn, TurnFault, turn}
use Rattle.sheet.specs.Answer.{numbered, follows, orderly, turned}

abbrev at : List Operation → ℕ → Operation
at os r = get_or os r (operation_of [])

-- the operation at r may come, where op of effect is the next before the first
abbrev Comes : ℕ → ℕ → List Operation → ℕ → Type 0
Comes effect op os zero = follows effect op (at os 0) ≡ true
Comes effect op os (suc r) = follows (at os r).effect ((at os r).op + 1) (at os (suc r)) ≡ true

orderly_told : (b effect op : ℕ) (os : List Operation) → Told Turn b (length os) (Comes effect op os) (orderly b effect op os)
orderly_told b effect op [] = λ r lt. absurd (omega (arith, lt))
orderly_told b effect op (o ∷ os) =
    cond_both (follows effect op o) _ _ (Told Turn b (suc (length os)) (Comes effect op (o ∷ os)))
    (λ e.
    more Turn b (length os) (Comes effect op (o ∷ os)) (Comes o.effect (o.op + 1) os) e
    (λ r. elim r as (λ r. Comes o.effect (o.op + 1) os r → Comes effect op (o ∷ os) (suc r)) [ zero ↦ λ h. h | suc s ↦ λ h. h ])
    (λ r. elim r as (λ r. Comes effect op (o ∷ os) (suc r) → Comes o.effect (o.op + 1) os r) [ zero ↦ λ h. h | suc s ↦ λ h. h ])
    (orderly (b + 1) o.effect (o.op + 1) os) (orderly_told (b + 1) o.effect (o.op + 1) os))
    (λ e. stopped Turn b (length os) (Comes effect op (o ∷ os)) (λ h. let z : ◌≡◌ {A = ℕ} 0 1 = cc in omega arith))

follows_is : (effect op : ℕ) (o : Operation) → follows effect op o ≡ true → ((o.effect ≡ effect) × (o.op ≡ op)) ⊎ ((0 < op) × (o.effect ≡ effect + 1) × (o.op ≡ 0))
follows_is effect op o h = grind (arith, nat_tests)

follows_by : (effect op : ℕ) (o : Operation) → ((o.effect ≡ effect) × (o.op ≡ op)) ⊎ ((0 < op) × (o.effect ≡ effect + 1) × (o.op ≡ 0)) → follows effect op o ≡ true
follows_by effect op o (inl h) = grind (arith, nat_tests)
follows_by effect op o (inr h) = grind (arith, nat_tests)

-- rows numbered from n
numbers : {X : Type 0} (f : X → ℕ) (d : X) (b n : ℕ) (xs : List X) → Told Turn b (length xs) (λ r. f (get_or xs r d) ≡ n + r) (numbered f b n xs)
numbers f d b n xs =
    same_told Turn b (length xs) (λ r. eqb (f (get_or xs r d)) (n + r) ≡ true) (λ r. f (get_or xs r d) ≡ n + r)
    (λ r _ h. eqb-true _ _ h) (λ r _ h. eq-eqb _ _ h) (numbered f b n xs) (searched Turn (λ k r. eqb (f r) k) d b n xs)

module _ (l : Listing) where
  abbrev n : Which → ℕ
  n = count l

  abbrev Of : Which → Verdict TextFault → Type 0
  Of w = Told Turn (row_line n w 0) (n w) (InTurn l w)

  operations_told : Of operations (orderly 2 0 0 l.operations)
  operations_told =
      same_told Turn 2 (n operations) (Comes 0 0 l.operations) (InTurn l operations)
      (λ r _. elim r as (λ r. Comes 0 0 l.operations r → InTurn l operations r) [
        | zero ↦ λ h. ⊎_elim (λ e. e) (λ e. absurd (omega (arith, e.0))) (follows_is 0 0 (at l.operations 0) h)
        | suc s ↦ λ h.
            ⊎_elim (λ e. inl e) (λ e. inr (e.1, e.2)) (follows_is (at l.operations s).effect ((at l.operations s).op + 1) (at l.operations (suc s)) h)
      ])
      (λ r _. elim r as (λ r. InTurn l operations r → Comes 0 0 l.operations r) [
        | zero ↦ λ e. follows_by 0 0 (at l.operations 0) (inl e)
        | suc s ↦ λ h.
            follows_by (at l.operations s).effect ((at l.operations s).op + 1) (at l.operations (suc s)) (⊎_elim (λ e. inl e) (λ e. inr (omega arith, e.0, e.1)) h)
      ])
      (orderly 2 0 0 l.operations) (orderly_told 2 0 0 l.operations)

  instances_told : Of instances (numbered instance_number (row_line n instances 0) 0 l.instances)
  instances_told =
      same_told Turn (row_line n instances 0) (n instances) (λ r. instance_number (get_or l.instances r (instance_of [])) ≡ 0 + r) (InTurn l instances)
      (λ r _ h. h ∙ zero-add r) (λ r _ h. h ∙ sym (zero-add r)) _ (numbers instance_number (instance_of []) (row_line n instances 0) 0 l.instances)

  types_told : Of types (numbered type_number (row_line n types 0) 4 l.types)
  types_told = numbers type_number (type_of []) (row_line n types 0) 4 l.types

  parts_told : Of parts (numbered part_number (row_line n parts 0) 0 l.parts)
  parts_told =
      same_told Turn (row_line n parts 0) (n parts) (λ r. part_number (get_or l.parts r (part_of [])) ≡ 0 + r) (InTurn l parts)
      (λ r _ h. h ∙ zero-add r) (λ r _ h. h ∙ sym (zero-add r)) _ (numbers part_number (part_of []) (row_line n parts 0) 0 l.parts)

  abbrev Whole : Which → Type 0
  Whole w = (r : ℕ) → r < n w → InTurn l w r

  -- the tables before w are in turn
  abbrev Before : Which → Type 0
  Before operations = Unit {0}
  Before instances = Whole operations
  Before types = Whole operations × Whole instances
  Before parts = Whole operations × Whole instances × Whole types

  first : (w : Which) (r : ℕ) → Before w → Found (n w) (InTurn l w) r → (m : ℕ) → TurnFault l m → row_line n w r ≤ m
  first operations r b f m (turn operations s k bad e) = let h : r ≤ s = earlier (InTurn l operations) r s f.before bad in omega (arith, e)
  first operations r b f m (turn instances s k bad e) = omega (arith, e, f.within)
  first operations r b f m (turn types s k bad e) = omega (arith, e, f.within)
  first operations r b f m (turn parts s k bad e) = omega (arith, e, f.within)
  first instances r b f m (turn operations s k bad e) = absurd (bad (b s k))
  first instances r b f m (turn instances s k bad e) = let h : r ≤ s = earlier (InTurn l instances) r s f.before bad in omega (arith, e)
  first instances r b f m (turn types s k bad e) = omega (arith, e, f.within)
  first instances r b f m (turn parts s k bad e) = omega (arith, e, f.within)
  first types r b f m (turn operations s k bad e) = absurd (bad (b.0 s k))
  first types r b f m (turn instances s k bad e) = absurd (bad (b.1 s k))
  first types r b f m (turn types s k bad e) = let h : r ≤ s = earlier (InTurn l types) r s f.before bad in omega (arith, e)
  first types r b f m (turn parts s k bad e) = omega (arith, e, f.within)
  first parts r b f m (turn operations s k bad e) = absurd (bad (b.0 s k))
  first parts r b f m (turn instances s k bad e) = absurd (bad (b.1 s k))
  first parts r b f m (turn types s k bad e) = absurd (bad (b.2 s k))
  first parts r b f m (turn parts s k bad e) = let h : r ≤ s = earlier (InTurn l parts) r s f.before bad in omega (arith, e)

  -- what a verdict on numbers means
  abbrev pub TurnsTold : Verdict TextFault → Type 0
  TurnsTold (Ok x) = NoLine (TurnFault l)
  TurnsTold (Err e) = (e.fault ≡ Turn) × First (TurnFault l) e.line

  -- the first fault of table w
  found : (w : Which) (r m : ℕ) → Before w → Found (n w) (InTurn l w) r → m ≡ row_line n w 0 + r → First (TurnFault l) m
  found w r m b f e =
      let q : m ≡ row_line n w r = e ∙ line w r in
      (turn w r f.within f.bad q, λ o h. subst (λ k. k ≤ o) (sym q) (first w r b f o h))
    where
      line : (w : Which) (r : ℕ) → row_line n w 0 + r ≡ row_line n w r
      line w r = omega arith

  all : (a b c d : Verdict TextFault) → Of operations a → Of instances b → Of types c → Of parts d → TurnsTold (and_then a (and_then b (and_then c d)))
  all (Err e) b c d s t u v = (s.0, found operations s.1.0 e.line tt s.1.1 s.1.2)
  all (Ok x) (Err e) c d s t u v = (t.0, found instances t.1.0 e.line s t.1.1 t.1.2)
  all (Ok x) (Ok y) (Err e) d s t u v = (u.0, found types u.1.0 e.line (s, t) u.1.1 u.1.2)
  all (Ok x) (Ok y) (Ok z) (Err e) s t u v = (v.0, found parts v.1.0 e.line (s, t, u) v.1.1 v.1.2)
  all (Ok x) (Ok y) (Ok z) (Ok w) s t u v = none s t u v
    where
      none : Whole operations → Whole instances → Whole types → Whole parts → NoLine (TurnFault l)
      none s t u v m (turn operations r k bad e) = bad (s r k)
      none s t u v m (turn instances r k bad e) = bad (t r k)
      none s t u v m (turn types r k bad e) = bad (u r k)
      none s t u v m (turn parts r k bad e) = bad (v r k)

  pub turns : TurnsTold (turned l)
  turns = all _ _ _ _ operations_told instances_told types_told parts_told

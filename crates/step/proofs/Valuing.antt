-- Values, successor by successor.
use Rattle.std.proofs.Common.{◌≡◌, ℕ, zero, suc, ◌+◌, ◌<◌, ◌≤◌, Bool, true, false, not, eqb, List, ◌++◌, length, get_or, drop, Some, None, Option, sym, refl, ap, ◌∙◌, arith}
use Rattle.std.specs.Bool.{then_some}
use Rattle.std.proofs.lemmas.Bool.{eqb-true, eqb-false}
use Rattle.std.proofs.lemmas.List.{drop_more, drop_all}
use Rattle.eff.specs.Sorts.{expr}
use Rattle.eff.specs.Syntax.{Term, var, truth, num, succ, unit, inst, fn, handler, flatten, digit}
use Rattle.eff.specs.Questions.{one_more, worth}
use Rattle.eff.specs.declared.kind.Kind.{Kind}
use Rattle.eff.specs.declared.kind.Kind.TheVariants as k
use Rattle.eff.specs.declared.part.Part.{Part}
use Rattle.eff.specs.declared.question.Value.{Value}
use Rattle.eff.specs.declared.question.Value.TheVariants.{Truth, Count, Unit}
use Rattle.step.specs.Values.{shown, shown_kind, shown_value}
use Rattle.step.specs.Valued.{valued_by, valued, shown_first, shown_parts}
use Rattle.step.proofs.Skipping.{blank}

-- n successors more
abbrev pub more : ℕ → Option Value → Option Value
more zero o = o
more (suc n) o = one_more (more n o)

more_inner : (n : ℕ) (o : Option Value) → more n (one_more o) ≡ one_more (more n o)
more_inner zero o = refl
more_inner (suc n) o = ap one_more (more_inner n o)

valued_at : (ps : List Part) (i : ℕ) → i < length ps → valued (drop i ps) ≡ valued_by (get_or ps i blank).kind (get_or ps i blank) (valued (drop (i + 1) ps))
valued_at ps i h = ap valued (drop_more ps i blank h)

pub value_succ : {w : Option Value} (ps : List Part) (i n : ℕ) → i < length ps → (get_or ps i blank).kind ≡ k.Successor → w ≡ more n (valued (drop i ps))
    → w ≡ more (n + 1) (valued (drop (i + 1) ps))
value_succ ps i n h kind e =
    let m : n + 1 ≡ suc n = omega arith in
    e ∙ ap (more n) (valued_at ps i h ∙ ap (λ (k : Kind). valued_by k (get_or ps i blank) (valued (drop (i + 1) ps))) kind)
    ∙ more_inner n (valued (drop (i + 1) ps)) ∙ ap (λ z. more z (valued (drop (i + 1) ps))) (sym m)

-- a value that is met
meets : {w : Option Value} (ps : List Part) (i n : ℕ) (k : Kind) → i < length ps → (get_or ps i blank).kind ≡ k → w ≡ more n (valued (drop i ps))
    → w ≡ more n (valued_by k (get_or ps i blank) (valued (drop (i + 1) ps)))
meets ps i n k h kind e = e ∙ ap (more n) (valued_at ps i h ∙ ap (λ (k : Kind). valued_by k (get_or ps i blank) (valued (drop (i + 1) ps))) kind)

more_count : (n m : ℕ) → more n (Some (Count m)) ≡ Some (Count (n + m))
more_count zero m = ap (λ z. Some (Count z)) (omega arith)
more_count (suc n) m = ap one_more (more_count n m) ∙ ap (λ z. Some (Count z)) (omega arith)

more_none : (n : ℕ) → more n None ≡ None
more_none zero = refl
more_none (suc n) = ap one_more (more_none n)

none_more : (n : ℕ) (o : Option Value) → one_more o ≡ None → (n ≡ 0 → ⊥) → more n o ≡ None
none_more zero o e h = absurd (h refl)
none_more (suc n) o e h = sym (more_inner n o) ∙ ap (more n) e ∙ more_none n

pub value_count : {w : Option Value} (ps : List Part) (i n : ℕ) → i < length ps → (get_or ps i blank).kind ≡ k.Numeral → w ≡ more n (valued (drop i ps))
    → Some (Count (n + (get_or ps i blank).a)) ≡ w
value_count ps i n h kind e = sym (meets ps i n k.Numeral h kind e ∙ more_count n (get_or ps i blank).a)

-- a value on which no successor can stand
first_only : (b : Bool) (n : ℕ) (v : Value) → eqb n 0 ≡ b → one_more (Some v) ≡ None → then_some b v ≡ more n (Some v)
first_only true n v e h = ap (λ m. more m (Some v)) (sym (eqb-true n 0 e))
first_only false n v e h = sym (none_more n (Some v) h (eqb-false n 0 e))

pub value_truth : {w : Option Value} (ps : List Part) (i n : ℕ) → i < length ps → (get_or ps i blank).kind ≡ k.Truth → w ≡ more n (valued (drop i ps))
    → then_some (eqb n 0) (Truth (not (eqb (get_or ps i blank).a 0))) ≡ w
value_truth ps i n h kind e = first_only (eqb n 0) n _ refl refl ∙ sym (meets ps i n k.Truth h kind e)

pub value_unit : {w : Option Value} (ps : List Part) (i n : ℕ) → i < length ps → (get_or ps i blank).kind ≡ k.Unit → w ≡ more n (valued (drop i ps))
    → then_some (eqb n 0) Unit ≡ w
value_unit ps i n h kind e = first_only (eqb n 0) n _ refl refl ∙ sym (meets ps i n k.Unit h kind e)

pub no_value : {w : Option Value} (ps : List Part) (i n : ℕ) → i < length ps → ((get_or ps i blank).kind ≡ k.Successor → ⊥) → ((get_or ps i blank).kind ≡ k.Numeral → ⊥)
    → ((get_or ps i blank).kind ≡ k.Truth → ⊥) → ((get_or ps i blank).kind ≡ k.Unit → ⊥) → w ≡ more n (valued (drop i ps)) → None ≡ w
no_value ps i n h a b c d e = sym (e ∙ ap (more n) (valued_at ps i h ∙ no (get_or ps i blank).kind (valued (drop (i + 1) ps)) a b c d) ∙ more_none n)
  where
    no : (j : Kind) (o : Option Value) → (j ≡ k.Successor → ⊥) → (j ≡ k.Numeral → ⊥) → (j ≡ k.Truth → ⊥) → (j ≡ k.Unit → ⊥) → valued_by j (get_or ps i blank) o ≡ None
    no k.Variable o a b c d = refl
    no k.Truth o a b c d = absurd (c refl)
    no k.Numeral o a b c d = absurd (b refl)
    no k.Successor o a b c d = absurd (a refl)
    no k.Unit o a b c d = absurd (d refl)
    no k.Instance o a b c d = refl
    no k.Function o a b c d = refl
    no k.Handler o a b c d = refl
    no k.Case o a b c d = refl
    no k.Nil o a b c d = refl
    no k.If o a b c d = refl
    no k.Match o a b c d = refl
    no k.Absurd o a b c d = refl
    no k.Apply o a b c d = refl
    no k.Val o a b c d = refl
    no k.Call o a b c d = refl
    no k.Let o a b c d = refl
    no k.LetRec o a b c d = refl
    no k.With o a b c d = refl

pub no_more : {w : Option Value} (ps : List Part) (i n : ℕ) → length ps ≤ i → w ≡ more n (valued (drop i ps)) → None ≡ w
no_more ps i n h e = sym (e ∙ ap (λ l. more n (valued l)) (drop_all i ps h) ∙ more_none n)

-- the value of an expression
truth_of : (b : Bool) → not (eqb (digit b) 0) ≡ b
truth_of true = refl
truth_of false = refl

pub worth_is : (e : Term expr) (rest : List Part) → valued (flatten e ++ rest) ≡ worth e
worth_is (var n) rest = refl
worth_is (truth b) rest = ap (λ z. Some (Truth z)) (truth_of b)
worth_is (num n) rest = refl
worth_is (succ e) rest = ap one_more (worth_is e rest)
worth_is unit rest = refl
worth_is (inst i) rest = refl
worth_is (fn a c) rest = refl
worth_is (handler a c cs) rest = refl

shown_first_is : (e : Term expr) (rest : List Part) → shown_first (flatten e ++ rest) ≡ shown_kind e
shown_first_is (var n) rest = refl
shown_first_is (truth b) rest = refl
shown_first_is (num n) rest = refl
shown_first_is (succ e) rest = refl
shown_first_is unit rest = refl
shown_first_is (inst i) rest = refl
shown_first_is (fn a c) rest = refl
shown_first_is (handler a c cs) rest = refl

pub shown_is : (e : Term expr) (rest : List Part) → shown_parts (flatten e ++ rest) ≡ shown e
shown_is e rest = ap (λ o. shown_value o (shown_first (flatten e ++ rest))) (worth_is e rest) ∙ ap (shown_value (worth e)) (shown_first_is e rest)

-- The types by number: each is what its row says of the types by number, and is declared.
use Rattle.std.proofs.Common.{◌≡◌, ℕ, zero, suc, ◌+◌, ◌-◌, ◌<◌, ◌≤◌, List, [], ◌∷◌, ◌++◌, length, get_or, sym, refl, ap, ◌∙◌, subst, ap₂, add-zero, arith, length-append, eq-eqb, ne_eqb}
use native.Mathlib.Decide.{dec_lt}
use lib.ListN.{get_or-append, get_or-eq_default}
use lib.Seq.{get_or-append_seam}
use Rattle.eff.specs.Types.{Ty}
use Rattle.eff.specs.Types as t
use Rattle.eff.specs.Tables.{Tables, ListedType, no_row, meant, numbered, grounds, type, argument, Listed}
use Rattle.eff.specs.Dirt.{Dirts}
use Rattle.eff.specs.Grounds.{number}
use Rattle.eff.specs.TypeNumbers.{listed, TypesGoByNumber}
use Rattle.eff.specs.declared.ground.Ground.{Ground}
use Rattle.eff.specs.declared.ground.Ground.TheVariants as k
use Rattle.eff.specs.Checked.{Declared, InOrder, a_function, an_instance, a_handler, Checked}

-- a number keeps its type as rows are added
pub kept : (ts : List Ty) (rs : List ListedType) (n : ℕ) → n < length ts → get_or (numbered ts rs) n t.unit ≡ get_or ts n t.unit
kept ts [] n h = refl
kept ts (r ∷ rs) n h = kept (ts ++ (meant ts r ∷ [])) rs n (simp length-append (omega arith)) ∙ get_or-append ts _ t.unit n h

pub long : (ts : List Ty) (rs : List ListedType) → length (numbered ts rs) ≡ length ts + length rs
long ts [] = omega arith
long ts (r ∷ rs) = long (ts ++ (meant ts r ∷ [])) rs ∙ simp length-append (omega arith)

-- the row at i has the number length ts + i, and its type is what the types of all numbers make of it
pub at_row : (ts : List Ty) (rs : List ListedType) (i : ℕ) → i < length rs
    → (us : List Ty) × (length us ≡ length ts + i) × (get_or (numbered ts rs) (length ts + i) t.unit ≡ meant us (get_or rs i no_row))
    × ((n : ℕ) → n < length us → get_or (numbered ts rs) n t.unit ≡ get_or us n t.unit)
at_row ts [] i h = absurd (omega arith)
at_row ts (r ∷ rs) zero h = (
  ts,
  omega arith,
  rw add-zero (kept (ts ++ (meant ts r ∷ [])) rs (length ts) (simp length-append (omega arith)) ∙ get_or-append_seam ts _ [] t.unit),
  λ n l. kept ts (r ∷ rs) n l,
)
at_row ts (r ∷ rs) (suc i) h =
    let vs : List Ty = ts ++ (meant ts r ∷ []) in
    let e : length vs + i ≡ length ts + suc i = simp length-append (omega arith) in
    let x = at_row vs rs i (omega arith) in
    (x.0, x.1 ∙ e, subst (λ m. get_or (numbered vs rs) m t.unit ≡ meant x.0 (get_or rs i no_row)) e x.2, x.3)

-- a row's type by its kind
pub fun_row : (ts : List Ty) (r : ListedType) → r.kind ≡ 4 → meant ts r ≡ t.fun (get_or ts r.a t.unit) (get_or ts r.b t.unit) r.e
fun_row ts r k = rw (eq-eqb r.kind 4 k) refl

pub instance_row : (ts : List Ty) (r : ListedType) → r.kind ≡ 5 → meant ts r ≡ t.instance r.a r.b
instance_row ts r k = rw (ne_eqb r.kind 4 (λ e. omega arith), eq-eqb r.kind 5 k) refl

pub hand_row : (ts : List Ty) (r : ListedType) → r.kind ≡ 6
    → meant ts r ≡ t.hand (get_or ts r.a t.unit) r.d (get_or ts r.b t.unit) r.e
hand_row ts r k = rw (ne_eqb r.kind 4 (λ e. omega arith), ne_eqb r.kind 5 (λ e. omega arith)) refl

module _ (T : Tables) (D : Dirts) (K : Checked T D) where
  row_declared : (n : ℕ) (us : List Ty) (r : ListedType) → InOrder T D (4 + n) r → ((k : ℕ) → k < 4 + n → Declared T D (get_or us k t.unit))
      → Declared T D (meant us r)
  row_declared n us r (a_function k a b e) f = rw (fun_row us r k) (f r.a a, f r.b b, e)
  row_declared n us r (an_instance k e s) f = rw (instance_row us r k) (e, s)
  row_declared n us r (a_handler k a b d e) f = rw (hand_row us r k) (f r.a a, d, f r.b b, e)

  -- every type of a number below 4 + n is declared
  declared_below : (n : ℕ) → n ≤ length T.types → (m : ℕ) → m < 4 + n → Declared T D (get_or (numbered grounds T.types) m t.unit)
  declared_below zero l m h = subst (λ A. Declared T D A) (sym (kept grounds T.types m h)) (go m h)
    where
      go : (m : ℕ) → m < 4 → Declared T D (get_or grounds m t.unit)
      go zero h = tt
      go (suc zero) h = tt
      go (suc (suc zero)) h = tt
      go (suc (suc (suc zero))) h = tt
      go (suc (suc (suc (suc m)))) h = absurd (omega arith)
  declared_below (suc n) l m h = split (dec_lt m (4 + n)) (λ k p. declared_below n (omega arith) k p)
    where
      split : Dec (m < 4 + n) → ((k : ℕ) → k < 4 + n → Declared T D (get_or (numbered grounds T.types) k t.unit))
          → Declared T D (get_or (numbered grounds T.types) m t.unit)
      split (yes p) f = f m p
      split (no p) f = let x = at_row grounds T.types n (omega arith) in
          subst (λ k. Declared T D (get_or (numbered grounds T.types) k t.unit)) (omega arith)
          (subst (λ A. Declared T D A) (sym x.2) (row_declared n x.0 (get_or T.types n no_row) (K.types n (omega arith))
          (λ k q. subst (λ A. Declared T D A) (x.3 k (omega (arith, x.1))) (f k q))))

  -- the type of any number is declared
  pub declared : (n : ℕ) → Declared T D (type T n)
  unfolding type
  declared n = go (dec_lt n (4 + length T.types))
    where
      go : Dec (n < 4 + length T.types) → Declared T D (get_or (numbered grounds T.types) n t.unit)
      go (yes p) = declared_below (length T.types) (omega arith) n p
      go (no p) = subst (λ A. Declared T D A)
          (sym (get_or-eq_default (numbered grounds T.types) t.unit (omega (arith, long grounds T.types)))) tt

  -- the column of a function type's row names its argument type
  of_row : (n a : ℕ) (us : List Ty) (r : ListedType) (A B : Ty) (d : ℕ) → InOrder T D (4 + n) r → meant us r ≡ t.fun A B d
      → (r.a < 4 + n) × (get_or us r.a t.unit ≡ A)
  of_row n a us r A B d (a_function k p q e) m = let z = fun_row us r k in (p, cc)
  of_row n a us r A B d (an_instance k e s) m = let z = instance_row us r k in let w : ◌≡◌ {A = ℕ} 0 1 = cc in absurd (omega arith)
  of_row n a us r A B d (a_handler k p q e s) m = let z = hand_row us r k in let w : ◌≡◌ {A = ℕ} 0 1 = cc in absurd (omega arith)

  ground_no : (a : ℕ) (A B : Ty) (d : ℕ) → a < 4 → get_or grounds a t.unit ≡ t.fun A B d → ⊥
  ground_no zero A B d l h = let w : ◌≡◌ {A = ℕ} 0 1 = cc in omega arith
  ground_no (suc zero) A B d l h = let w : ◌≡◌ {A = ℕ} 0 1 = cc in omega arith
  ground_no (suc (suc zero)) A B d l h = let w : ◌≡◌ {A = ℕ} 0 1 = cc in omega arith
  ground_no (suc (suc (suc zero))) A B d l h = let w : ◌≡◌ {A = ℕ} 0 1 = cc in omega arith
  ground_no (suc (suc (suc (suc a)))) A B d l h = absurd (omega arith)

  pub argument_type : (a : ℕ) (A B : Ty) (d : ℕ) → Listed T a → type T a ≡ t.fun A B d → Listed T (argument T a) × (type T (argument T a) ≡ A)
  unfolding type
  argument_type a A B d l h = go (dec_lt a 4)
    where
      go : Dec (a < 4) → Listed T (argument T a) × (get_or (numbered grounds T.types) (argument T a) t.unit ≡ A)
      go (yes p) = absurd (ground_no a A B d p (sym (kept grounds T.types a p) ∙ h))
      go (no p) =
          let x = at_row grounds T.types (a - 4) (omega arith) in
          let e : 4 + (a - 4) ≡ a = omega arith in
          let y = of_row (a - 4) a x.0 (get_or T.types (a - 4) no_row) A B d (K.types (a - 4) (omega arith))
          (sym x.2 ∙ ap (λ k. get_or (numbered grounds T.types) k t.unit) e ∙ h) in
          (omega (arith, y.0), x.3 (argument T a) (omega (arith, y.0, x.1)) ∙ y.1)

-- a ground type by its number
pub number_type : (T : Tables) (g : Ground) → type T (number g) ≡ t.ground g
unfolding type
number_type T k.Bool = kept grounds T.types 0 (omega arith)
number_type T k.Nat = kept grounds T.types 1 (omega arith)
number_type T k.Unit = kept grounds T.types 2 (omega arith)
number_type T k.Empty = kept grounds T.types 3 (omega arith)

module _ (T : Tables) (D : Dirts) (K : Checked T D) where
  smaller : (n : ℕ) (r : ListedType) → InOrder T D n r → ¬ (r.kind ≡ 5) → (r.a < n) × (r.b < n)
  smaller n r (a_function k p q e) h = (p, q)
  smaller n r (an_instance k e s) h = elim (h k) [ ]
  smaller n r (a_handler k p q d e) h = (p, q)

  pub function_type : (n : ℕ) → n < length T.types → (listed T n).kind ≡ 4
      → type T (4 + n) ≡ t.fun (type T (listed T n).a) (type T (listed T n).b) (listed T n).e
  unfolding type
  function_type n l k =
      let x = at_row grounds T.types n l in
      let s = smaller (4 + n) (listed T n) (K.types n l) (λ h. omega arith) in
      x.2 ∙ fun_row x.0 (listed T n) k
      ∙ sym (ap₂ (λ A B. t.fun A B (listed T n).e) (x.3 _ (omega (arith, x.1, s.0))) (x.3 _ (omega (arith, x.1, s.1))))

  pub instance_type : (n : ℕ) → n < length T.types → (listed T n).kind ≡ 5 → type T (4 + n) ≡ t.instance (listed T n).a (listed T n).b
  unfolding type
  instance_type n l k = let x = at_row grounds T.types n l in x.2 ∙ instance_row x.0 (listed T n) k

  pub handler_type : (n : ℕ) → n < length T.types → (listed T n).kind ≡ 6
      → type T (4 + n) ≡ t.hand (type T (listed T n).a) (listed T n).d (type T (listed T n).b) (listed T n).e
  unfolding type
  handler_type n l k =
      let x = at_row grounds T.types n l in
      let s = smaller (4 + n) (listed T n) (K.types n l) (λ h. omega arith) in
      x.2 ∙ hand_row x.0 (listed T n) k
      ∙ sym (ap₂ (λ A B. t.hand A (listed T n).d B (listed T n).e) (x.3 _ (omega (arith, x.1, s.0))) (x.3 _ (omega (arith, x.1, s.1))))

pub by_number : TypesGoByNumber
by_number T D K = record {
  ground = number_type T;
  a_function = function_type T D K;
  an_instance = instance_type T D K;
  a_handler = handler_type T D K;
  declared = declared T D K;
  argument_is = λ a A B d l h. (argument_type T D K a A B d l h).1;
}

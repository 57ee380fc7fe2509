-- A walk passes over a whole term.
use Rattle.std.proofs.Common.{◌≡◌, ℕ, zero, suc, ◌+◌, ◌<◌, ◌≤◌, List, [], ◌∷◌, ◌++◌, length, get_or, map, take, drop, refl, sym, ap, ◌∙◌, append_assoc, zero-add, arith, lit≤, length-append}
use Rattle.std.specs.Prelude.{⊤}
use mathlib.Core.List.{map-map}
use Rattle.std.proofs.lemmas.List.{drop_all, take_all, take_at, drop_at, get_or-map}
use Rattle.eff.specs.Sorts.{Sort}
use Rattle.eff.specs.Syntax.{Term, var, truth, num, succ, unit, inst, fn, handler, case, nil, if, match, absurd, apply, val, call, bind, rec, handle, flatten}
use Rattle.eff.specs.declared.kind.Kind.{Kind}
use Rattle.eff.specs.declared.kind.Kind.TheVariants.{Variable, Truth, Numeral, Successor, Unit, Instance, Function, Handler, Case, Nil, If, Match, Absurd, Apply, Val, Call, Let, LetRec, With}
use Rattle.eff.specs.declared.part.Part.{Part}
use Rattle.eff.specs.Kinds.{Child, table, child_of, names}
use Rattle.eff.specs.declared.sort.Child.{Child as ChildRow}
use Rattle.eff.specs.declared.sort.Sort.TheVariants.{Expression}
use Rattle.step.specs.Walk.{skip, Splits}

abbrev pub blank : Part
blank = record { kind = Variable; a = 0; b = 0 }

-- how many more names a child stands under
abbrev pub extra : ChildRow → ℕ
extra c = c.names

abbrev pub no_child : ChildRow
no_child = record { sort = Expression; names = 0 }

-- the children of a part of this kind stand under as many more names as the table says
pub extras : (k : Kind) (cs : List ChildRow) → map child_of cs ≡ (table k).children → map extra cs ≡ names k
extras k cs e = sym (map-map (λ (c : Child). c.names) child_of cs) ∙ ap (map (λ (c : Child). c.names)) e

-- parts that are one term
abbrev pub Skips : List Part → Type 0
Skips x = (n : ℕ) (rest : List Part) → skip (suc n) (x ++ rest) ≡ length x + skip n rest

skip_0 : (n : ℕ) (rest : List Part) → 1 + skip (0 + n) rest ≡ suc 0 + skip n rest
skip_0 n rest = rw (zero-add n) refl

skip_1 : (x : List Part) → Skips x → (n : ℕ) (rest : List Part) → 1 + skip (1 + n) (x ++ rest) ≡ suc (length x) + skip n rest
skip_1 x h n rest = let k : 1 + n ≡ suc n = omega arith in rw k (omega (arith, h n rest))

skip_2 : (x y : List Part) → Skips x → Skips y → (n : ℕ) (rest : List Part) → 1 + skip (2 + n) ((x ++ y) ++ rest) ≡ suc (length (x ++ y)) + skip n rest
skip_2 x y h j n rest =
    let k : 2 + n ≡ suc (suc n) = omega arith in
    rw (k, append_assoc) (omega (arith, h (suc n) (y ++ rest), j n rest, length-append x y))

skip_3 : (x y z : List Part) → Skips x → Skips y → Skips z → (n : ℕ) (rest : List Part) → 1 + skip (3 + n) ((x ++ (y ++ z)) ++ rest) ≡ suc (length (x ++ (y ++ z))) + skip n rest
skip_3 x y z h j l n rest =
    let k : 3 + n ≡ suc (suc (suc n)) = omega arith in
    simp (k, append_assoc) (omega (arith, h (suc (suc n)) (y ++ (z ++ rest)), j (suc n) (z ++ rest), l n rest, length-append x (y ++ z), length-append y z))

pub skip_flat : {s : Sort} (t : Term s) → Skips (flatten t)
skip_flat (var a) = skip_0
skip_flat (truth a) = skip_0
skip_flat (num a) = skip_0
skip_flat (succ x) = skip_1 _ (skip_flat x)
skip_flat unit = skip_0
skip_flat (inst a) = skip_0
skip_flat (fn a x) = skip_1 _ (skip_flat x)
skip_flat (handler a x y) = skip_2 _ _ (skip_flat x) (skip_flat y)
skip_flat (case a b x y z) = skip_3 _ _ _ (skip_flat x) (skip_flat y) (skip_flat z)
skip_flat nil = skip_0
skip_flat (if x y z) = skip_3 _ _ _ (skip_flat x) (skip_flat y) (skip_flat z)
skip_flat (match x y z) = skip_3 _ _ _ (skip_flat x) (skip_flat y) (skip_flat z)
skip_flat (absurd x) = skip_1 _ (skip_flat x)
skip_flat (apply x y) = skip_2 _ _ (skip_flat x) (skip_flat y)
skip_flat (val x) = skip_1 _ (skip_flat x)
skip_flat (call a b x y z) = skip_3 _ _ _ (skip_flat x) (skip_flat y) (skip_flat z)
skip_flat (bind x y) = skip_2 _ _ (skip_flat x) (skip_flat y)
skip_flat (rec a x y) = skip_2 _ _ (skip_flat x) (skip_flat y)
skip_flat (handle x y) = skip_2 _ _ (skip_flat x) (skip_flat y)

-- a walk that has no more to pass over is at the end of the term
splits_at : {ps term rest : List Part} (end : ℕ) → skip 1 ps ≡ end → term ≡ take end ps → rest ≡ drop end ps → Splits ps term rest
splits_at {ps} {term} {rest} end f q r = record {
  splits = λ t after e.
      let n : length (flatten t) ≡ end = omega (arith, f, skip_flat t 0 after, ap (skip 1) e) in
      (q ∙ ap (take end) e ∙ take_at (flatten t) after end n, r ∙ ap (drop end) e ∙ drop_at (flatten t) after end n);
}

pub splits_done : {ps term rest : List Part} (end wanted : ℕ) → wanted ≡ 0 → skip 1 ps ≡ end + skip wanted (drop end ps) → term ≡ take end ps → rest ≡ drop end ps → Splits ps term rest
splits_done {ps} end wanted h f q r = splits_at end (f ∙ ap (λ n. end + skip n (drop end ps)) h ∙ omega arith) q r

pub splits_all : {ps : List Part} (end wanted : ℕ) → length ps ≤ end → skip 1 ps ≡ end + skip wanted (drop end ps) → Splits ps ps []
splits_all {ps} end wanted h f =
    splits_at end (f ∙ ap (λ l. end + skip wanted l) (drop_all end ps h) ∙ past wanted) (sym (take_all end ps h)) (sym (drop_all end ps h))
  where
    past : (wanted : ℕ) → end + skip wanted [] ≡ end
    past zero = omega arith
    past (suc n) = omega arith

-- at most two more
abbrev Low : List ℕ → Type 0
Low [] = ⊤
Low (x ∷ xs) = (x ≤ 2) × Low xs

low_at : (xs : List ℕ) → Low xs → (i : ℕ) → get_or xs i 0 ≤ 2
low_at [] l i = lit≤ tt
low_at (x ∷ xs) l zero = l.0
low_at (x ∷ xs) l (suc i) = low_at xs l.1 i

low : (k : Kind) → Low (names k)
low Variable = tt
low Truth = tt
low Numeral = tt
low Successor = (lit≤ tt, tt)
low Unit = tt
low Instance = tt
low Function = (lit≤ tt, tt)
low Handler = (lit≤ tt, (lit≤ tt, tt))
low Case = (lit≤ tt, (lit≤ tt, (lit≤ tt, tt)))
low Nil = tt
low If = (lit≤ tt, (lit≤ tt, (lit≤ tt, tt)))
low Match = (lit≤ tt, (lit≤ tt, (lit≤ tt, tt)))
low Absurd = (lit≤ tt, tt)
low Apply = (lit≤ tt, (lit≤ tt, tt))
low Val = (lit≤ tt, tt)
low Call = (lit≤ tt, (lit≤ tt, (lit≤ tt, tt)))
low Let = (lit≤ tt, (lit≤ tt, tt))
low LetRec = (lit≤ tt, (lit≤ tt, tt))
low With = (lit≤ tt, (lit≤ tt, tt))

-- a child stands under at most two more names
pub low_child : (k : Kind) (cs : List ChildRow) (i : ℕ) → i < length cs → map child_of cs ≡ (table k).children → (get_or cs i no_child).names ≤ 2
low_child k cs i h e =
    let q : get_or (map extra cs) i 0 ≡ extra (get_or cs i no_child) = get_or-map extra cs i no_child 0 h in
    omega (arith, low_at (names k) (low k) i, q, ap (λ xs. get_or xs i 0) (extras k cs e))

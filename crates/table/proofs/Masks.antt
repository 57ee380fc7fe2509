-- Declared effects, regions and calls, row by row.
use Rattle.std.specs.List.{list_any, find}
use Rattle.std.specs.Option.{unwrap_or}
use Rattle.std.proofs.Common.{Option, Some, [], ◌∷◌, ◌||◌, refl, ◌≡◌, ℕ, ◌+◌, ◌*◌, ◌%◌, ◌^◌, ◌<◌, ◌≤◌, max, true, cond, eqb, List, map, length, get_or, drop, sym, ap, ◌∙◌, mod-eq_of_lt, one-mul, add-one, arith}
use lib.Pow.{pow-lt}
use lib.Bits.{bit_or, or_zero_l, or_zero_r}
use Rattle.std.proofs.lemmas.List.{drop_more, drop_all}
use Rattle.std.proofs.lemmas.Bool.{cond_both, cond-true, cond-false}
use Rattle.eff.specs.Sets.{bit}
use Rattle.eff.specs.Tables.{declares, declared, signature}
use Rattle.eff.specs.Dirt.{calls, calls_of, weight}
use Rattle.eff.proofs.Sets.{bit-or, same_set}
use Rattle.sheet.specs.declared.rows.Operation.{Operation}
use Rattle.sheet.specs.declared.rows.Instance.{Instance}
use Rattle.table.specs.Meant.{declaration, effect_of}
use Rattle.table.specs.Tests.{has_effect, instances_of}

pub or_assoc : (a b c : ℕ) → bit_or (bit_or a b) c ≡ bit_or a (bit_or b c)
or_assoc a b c =
    same_set (bit_or (bit_or a b) c) (bit_or a (bit_or b c)) (λ k.
    bit-or (bit_or a b) c k ∙ ap (λ x. max x (bit c k)) (bit-or a b k) ∙ (let m : max (max (bit a k) (bit b k)) (bit c k) ≡ max (bit a k) (max (bit b k) (bit c k)) = omega arith in m)
    ∙ ap (max (bit a k)) (sym (bit-or b c k)) ∙ sym (bit-or a (bit_or b c) k))

-- one more set in front of the rest
pub joined : (whole done this rest : ℕ) → whole ≡ bit_or done (bit_or this rest) → whole ≡ bit_or (bit_or done this) rest
joined whole done this rest h = h ∙ sym (or_assoc done this rest)

pub skipped : (whole done this rest : ℕ) → this ≡ 0 → whole ≡ bit_or done (bit_or this rest) → whole ≡ bit_or done rest
skipped whole done this rest z h = h ∙ ap (λ x. bit_or done (bit_or x rest)) z ∙ ap (bit_or done) (or_zero_l rest)

pub ended : (whole done rest : ℕ) → rest ≡ 0 → whole ≡ bit_or done rest → done ≡ whole
ended whole done rest z h = sym (h ∙ ap (bit_or done) z ∙ or_zero_r done)

-- a bit below 64, as it is shifted
pub shifted : (k : ℕ) → k < 64 → 1 * 2 ^ k % 2 ^ 64 ≡ 2 ^ k
shifted k h = ap (λ x. x % 2 ^ 64) (one-mul (2 ^ k)) ∙ mod-eq_of_lt (pow-lt h)

-- a row that is in, and one that is not: `this` is its set
pub goes_in : (whole done done' this rest k : ℕ) → k < 64 → whole ≡ bit_or done (bit_or this rest) → this ≡ 2 ^ k → done' ≡ bit_or done (1 * 2 ^ k % 2 ^ 64) → whole ≡ bit_or done' rest
goes_in whole done done' this rest k h e q w = joined whole done this rest e ∙ ap (λ x. bit_or x rest) (ap (bit_or done) (q ∙ sym (shifted k h)) ∙ sym w)

pub stays_out : (whole done done' this rest : ℕ) → whole ≡ bit_or done (bit_or this rest) → this ≡ 0 → done' ≡ done → whole ≡ bit_or done' rest
stays_out whole done done' this rest e q w = skipped whole done this rest q e ∙ ap (λ x. bit_or x rest) (sym w)

pub any_effect : (os : List Operation) (e : ℕ) → list_any (λ o. eqb o.effect e) os ≡ has_effect os e
any_effect [] e = refl
any_effect (o ∷ os) e =
    cond_both (eqb o.effect e) true (has_effect os e) (λ b. (eqb o.effect e || list_any (λ o. eqb o.effect e) os) ≡ b) (λ q. ap (λ b. b || list_any (λ o. eqb o.effect e) os) q) (λ q. ap (λ b. b || list_any (λ o. eqb o.effect e) os) q ∙ any_effect os e)

pub any_declares : (os : List Operation) (e op : ℕ) → list_any (λ o. declares (declaration o) e op) os ≡ declared (map declaration os) e op
any_declares [] e op = refl
any_declares (o ∷ os) e op =
    let d = declares (declaration o) e op in
    let rest = list_any (λ o. declares (declaration o) e op) os in
    cond_both d true (declared (map declaration os) e op) (λ b. (d || rest) ≡ b) (λ q. ap (λ b. b || rest) q) (λ q. ap (λ b. b || rest) q ∙ any_declares os e op)

-- an operation of unit to unit
abbrev pub unit_to_unit : ℕ → ℕ → Operation
unit_to_unit e op = record { effect = e; op = op; takes = 2; gives = 2 }

pub found_signature : (os : List Operation) (e op : ℕ) → declaration (unwrap_or (find (λ o. declares (declaration o) e op) os) (unit_to_unit e op)) ≡ signature (map declaration os) e op
found_signature [] e op = refl
found_signature (o ∷ os) e op =
    let found = λ (x : Option Operation). declaration (unwrap_or x (unit_to_unit e op)) in
    let d = declares (declaration o) e op in
    let rest = find (λ o. declares (declaration o) e op) os in
    cond_both d (declaration o) (signature (map declaration os) e op) (λ s. found (cond d (Some o) rest) ≡ s) (λ q. ap found (cond-true d _ _ q)) (λ q. ap found (cond-false d _ _ q) ∙ found_signature os e op)

module _ (rows : List Instance) (i : ℕ) (d : Instance) (h : i < length rows) (e : ℕ) where
  abbrev this : ℕ
  this = cond (eqb (get_or rows i d).effect e) (2 ^ i) 0

  pub instances_more : instances_of e i (drop i rows) ≡ bit_or this (instances_of e (i + 1) (drop (i + 1) rows))
  instances_more = ap (instances_of e i) (drop_more rows i d h) ∙ ap (λ k. bit_or this (instances_of e k (drop (i + 1) rows))) (sym (add-one i))

pub instances_none : (rows : List Instance) (i e : ℕ) → length rows ≤ i → instances_of e i (drop i rows) ≡ 0
instances_none rows i e h = ap (instances_of e i) (drop_all i rows h)

module _ (o : Operation) (rows : List Instance) (i : ℕ) (d : Instance) (h : i < length rows) where
  abbrev here : ℕ
  here = cond (eqb o.effect (get_or rows i d).effect) (weight i o.op) 0

  pub calls_of_more : calls_of (declaration o) i (map effect_of (drop i rows)) ≡ bit_or here (calls_of (declaration o) (i + 1) (map effect_of (drop (i + 1) rows)))
  calls_of_more =
      ap (λ xs. calls_of (declaration o) i (map effect_of xs)) (drop_more rows i d h)
      ∙ ap (λ k. bit_or here (calls_of (declaration o) k (map effect_of (drop (i + 1) rows)))) (sym (add-one i))

pub calls_of_none : (o : Operation) (rows : List Instance) (i : ℕ) → length rows ≤ i → calls_of (declaration o) i (map effect_of (drop i rows)) ≡ 0
calls_of_none o rows i h = ap (λ xs. calls_of (declaration o) i (map effect_of xs)) (drop_all i rows h)

pub calls_more : (rows : List Operation) (is : List Instance) (i : ℕ) (d : Operation) → i < length rows → calls (map declaration (drop i rows)) (map effect_of is) ≡ bit_or (calls_of (declaration (get_or rows i d)) 0 (map effect_of is)) (calls (map declaration (drop (i + 1) rows)) (map effect_of is))
calls_more rows is i d h = ap (λ xs. calls (map declaration xs) (map effect_of is)) (drop_more rows i d h)

-- one operation more
pub calls_on : (rows : List Operation) (is : List Instance) (i : ℕ) (d : Operation) → i < length rows → (done these : ℕ) → calls (map declaration rows) (map effect_of is) ≡ bit_or done (calls (map declaration (drop i rows)) (map effect_of is)) → these ≡ calls_of (declaration (get_or rows i d)) 0 (map effect_of is) → calls (map declaration rows) (map effect_of is) ≡ bit_or (bit_or done these) (calls (map declaration (drop (i + 1) rows)) (map effect_of is))
calls_on rows is i d h done these e q =
    let rest = calls (map declaration (drop (i + 1) rows)) (map effect_of is) in
    let first = calls_of (declaration (get_or rows i d)) 0 (map effect_of is) in
    joined (calls (map declaration rows) (map effect_of is)) done first rest (e ∙ ap (bit_or done) (calls_more rows is i d h)) ∙ ap (λ x. bit_or (bit_or done x) rest) (sym q)

pub calls_none : (rows : List Operation) (is : List Instance) (i : ℕ) → length rows ≤ i → calls (map declaration (drop i rows)) (map effect_of is) ≡ 0
calls_none rows is i h = ap (λ xs. calls (map declaration xs) (map effect_of is)) (drop_all i rows h)

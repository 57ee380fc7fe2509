-- Where terms end, part by part.
use Rattle.std.proofs.Common.{◌≡◌, ℕ, zero, suc, ◌+◌, ◌-◌, ◌<◌, ◌≤◌, List, [], map, length, drop, sym, refl, ap, ◌∙◌, arith}
use Rattle.std.proofs.lemmas.List.{drop_more, drop_all, length-map}
use Rattle.eff.specs.Kinds.{Child, table, kinded, child_of}
use Rattle.eff.specs.declared.sort.Child.{Child as ChildRow}
use Rattle.eff.specs.declared.kind.Kind.{Kind}
use Rattle.eff.specs.declared.kind.Kind.TheVariants as k
use Rattle.sheet.specs.Rows.{Listing, part_of}
use Rattle.claim.specs.Placing.{kind_or, extent, kind_of, row, end_of}

-- no part has more than three children
pub few_children : (k : Kind) → length (table k).children ≤ 3
few_children k.Variable = omega arith
few_children k.Truth = omega arith
few_children k.Numeral = omega arith
few_children k.Successor = omega arith
few_children k.Unit = omega arith
few_children k.Instance = omega arith
few_children k.Function = omega arith
few_children k.Handler = omega arith
few_children k.Case = omega arith
few_children k.Nil = omega arith
few_children k.If = omega arith
few_children k.Match = omega arith
few_children k.Absurd = omega arith
few_children k.Apply = omega arith
few_children k.Val = omega arith
few_children k.Call = omega arith
few_children k.Let = omega arith
few_children k.LetRec = omega arith
few_children k.With = omega arith

module _ (l : Listing) where
  abbrev pub kinds_from : ℕ → List ℕ
  kinds_from r = map kind_of (drop r l.parts)

  pub end_starts : (r : ℕ) → end_of l r ≡ r + extent 1 (kinds_from r)
  unfolding end_of
  end_starts r = refl

  nothing : (w : ℕ) → extent w [] ≡ 0
  nothing zero = refl
  nothing (suc w) = refl

  pub end_past : (r w : ℕ) → length l.parts ≤ r → r + extent w (kinds_from r) ≡ r
  end_past r w h =
      ap (λ ps. r + extent w (map kind_of ps)) (drop_all r l.parts h) ∙ ap (λ n. r + n) (nothing w) ∙ (let q : r + 0 ≡ r = omega arith in q)

  pub end_goes : (r w : ℕ) (cs : List ChildRow) → map child_of cs ≡ (table (kind_or (kinded (row l r).kind))).children → r < length l.parts → 0 < w
      → r + extent w (kinds_from r) ≡ r + 1 + extent (w - 1 + length cs) (kinds_from (r + 1))
  end_goes r zero cs e h g = absurd (omega arith)
  end_goes r (suc w) cs e h g =
      ap (λ ps. r + extent (suc w) (map kind_of ps)) (drop_more l.parts r (part_of []) h)
      ∙ ap (λ n. r + suc (extent (n + w) (kinds_from (r + 1)))) (length-map (table (kind_or (kinded (row l r).kind))).children (λ (c : Child). c.names) ∙ sym (ap length e) ∙ length-map cs child_of)
      ∙ ap (λ n. r + suc (extent n (kinds_from (r + 1)))) (let q : length cs + w ≡ suc w - 1 + length cs = omega arith in q)
      ∙ (let q : r + suc (extent (suc w - 1 + length cs) (kinds_from (r + 1))) ≡ r + 1 + extent (suc w - 1 + length cs) (kinds_from (r + 1)) = omega arith in q)

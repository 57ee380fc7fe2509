-- Where tidy entries are refused, those before can be continued, and with the refused one they cannot.
use Rattle.std.proofs.Common.{◌≡◌, ℕ, suc, ◌+◌, ◌<◌, ◌≤◌, true, false, List, [], ◌∷◌, ◌++◌, length, take, Some, None, Option, sym, refl, ap, ◌∙◌, arith}
use Rattle.fault.specs.declared.shape.ShapeFault.TheVariants as faults
use Rattle.eff.specs.Sorts.{Sort, expr, list, comp}
use Rattle.eff.specs.Syntax.{Term, unit, nil, val}
use Rattle.eff.specs.Scope.{Scoped}
use Rattle.shape.specs.Entries.{Entry, entries, AllTidy}
use Rattle.fault.specs.Search.{refused}
use Rattle.shape.specs.Answer.{Want, standing, noted, next, shape}
use Rattle.shape.proofs.Terms.{after}
use Rattle.eff.proofs.Sorted.{never}
use Rattle.shape.proofs.Forests.{Forest, tidy_grows, whole, ended_whole}

pub record Bad (ws : List Want) (es : List Entry) (k : ℕ) : Type 0 where
  pub inside : k ≤ length es
  pub before : (rest : List Entry) × Forest ws (take k es ++ rest)
  pub stuck : k < length es → (rest : List Entry) (crowd : Option ℕ) (line : ℕ) → whole (shape crowd ws line (take (suc k) es ++ rest)) ≡ true → ⊥

-- a closed term of each sort
some : (s : Sort) → (t : Term s) × ((n : ℕ) → Scoped n t)
some expr = (unit, λ n. tt)
some list = (nil, λ n. tt)
some comp = (val unit, λ n. tt)

-- any places can be filled
least : (ws : List Want) → (es : List Entry) × Forest ws es
least [] = ([], refl)
least (w ∷ ws) = let r = least ws in let t = some w.sort in (entries t.0 ++ r.0, (t.0, r.0, t.1 w.names, refl, r.1))

here : (line : ℕ) → refused line faults.Term ≡ refused (line + 0) faults.Term
here line = ap (λ k. refused k faults.Term) (let q : line ≡ line + 0 = omega arith in q)

pub bads : (es : List Entry) (ws : List Want) (crowd : Option ℕ) (line : ℕ) → AllTidy es → whole (shape crowd ws line es) ≡ false
    → (k : ℕ) × (shape crowd ws line es ≡ refused (line + k) faults.Term) × Bad ws es k
bads [] [] crowd line d h = never (sym h ∙ ended_whole crowd)
bads [] (w ∷ ws) crowd line d h =
    (0, here line, record { inside = omega arith; before = least (w ∷ ws); stuck = λ l rest c n g. absurd (omega (arith, l)) })
bads (e ∷ es) [] crowd line d h =
    (0, here line, record { inside = omega arith; before = ([], refl); stuck = λ l rest c n g. never g })
bads (e ∷ es) (w ∷ ws) crowd line d h = go (standing w e) refl h (λ vs. bads es (vs ++ ws) (noted crowd w.names line) (line + 1) d.1)
  where
    go : (o : Option (List Want)) → standing w e ≡ o → whole (next o line (after crowd w ws line es)) ≡ false
        → ((vs : List Want) → whole (after crowd w ws line es vs) ≡ false
        → (k : ℕ) × (after crowd w ws line es vs ≡ refused (line + 1 + k) faults.Term) × Bad (vs ++ ws) es k)
        → (k : ℕ) × (shape crowd (w ∷ ws) line (e ∷ es) ≡ refused (line + k) faults.Term) × Bad (w ∷ ws) (e ∷ es) k
    go None q h ih = (
      0,
      ap (λ o. next o line (after crowd w ws line es)) q ∙ here line,
      record {
        inside = omega arith;
        before = least (w ∷ ws);
        stuck = λ l rest c n g. never (sym (ap (λ o. whole (next o n (after c w ws n rest))) q) ∙ g);
      },
    )
    go (Some vs) q h ih =
        let r = ih vs h in (
          suc r.0,
          ap (λ o. next o line (after crowd w ws line es)) q ∙ r.1
              ∙ ap (λ k. refused k faults.Term) (let p : line + 1 + r.0 ≡ line + suc r.0 = omega arith in p),
          record {
            inside = omega (arith, r.2.inside);
            before = (r.2.before.0, tidy_grows w e ws (take r.0 es ++ r.2.before.0) d.0 vs q r.2.before.1);
            stuck = λ l rest c n g.
                r.2.stuck (omega (arith, l)) rest (noted c w.names n) (n + 1)
                (sym (ap (λ o. whole (next o n (after c w ws n (take (suc r.0) es ++ rest)))) q) ∙ g);
          },
        )

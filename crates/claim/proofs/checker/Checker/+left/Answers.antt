use Rattle.std.proofs.Common.{◌≡◌, ℕ, ◌+◌, sym, refl, ap, ◌∙◌, subst, ap₂, arith}
use Rattle.eff.specs.Sorts.{list}
use Rattle.eff.specs.Types.{bool}
use Rattle.eff.specs.Tables.{type}
use Rattle.eff.specs.Syntax.{part}
use Rattle.eff.specs.Labels.{Labelled, case, nil, claim}
use Rattle.eff.specs.Handling.{case_leaves, cases_leave}
use Rattle.eff.specs.declared.kind.Kind.TheVariants as k
use Rattle.claim.specs.Checker as s
use Rattle.claim.specs.Placing.{Entry, Placed, labelled}
use Rattle.claim.specs.Node.{View, view, node_at}
use Rattle.claim.specs.declared.checker.Checker.{Checker}
use Rattle.claim.proofs.Laid.{placed_first, kind_is, placed_laid, three, expr_claim}
use Rattle.claim.proofs.checker.Checker.+left.Goals as goal

module _ (x : Checker) (r d : ℕ) (n : View) (is : n ≡ node_at (s.rows x) r) where
  ended : (n.kind ≡ k.Case → ⊥) → (cs : Labelled list) → Placed (s.rows x) list r cs → d ≡ cases_leave (s.dirts x) cs d
  ended other (nil C) h = refl
  ended other (case f op i c cs) h = absurd (other (ap (λ (m : View). m.kind) is ∙ kind_is (s.rows x) r (case f op i c cs) h))

  goes : (m v : ℕ) → n.kind ≡ k.Case → m ≡ case_leaves (s.dirts x) (type (s.declared x) n.first.ty) n.a n.b d
      → ((cs : Labelled list) → Placed (s.rows x) list n.third_at cs → v ≡ cases_leave (s.dirts x) cs m)
      → (cs : Labelled list) → Placed (s.rows x) list r cs → v ≡ cases_leave (s.dirts x) cs d
  goes m v e q f (nil C) h = let z : k.Case ≡ k.Nil = sym e ∙ ap (λ (m : View). m.kind) is ∙ kind_is (s.rows x) r (nil C) h in absurd cc
  goes m v e q f (case g op i c cs) h =
      let y = three (s.rows x) r (labelled (part k.Case g op) (bool, 0)) i c cs (placed_laid (s.rows x) r (case g op i c cs) h) in
      let a : n.a ≡ g = ap (λ (m : View). m.a) is ∙ ap (λ (z : Entry). z.a) y.is in
      let b : n.b ≡ op = ap (λ (m : View). m.b) is ∙ ap (λ (z : Entry). z.b) y.is in
      let t : type (s.declared x) n.first.ty ≡ claim i = ap (λ (m : View). type (s.declared x) m.first.ty) is ∙ expr_claim (s.rows x) (r + 1) i y.first in
      f cs (subst (λ p. Placed (s.rows x) list p cs) (sym (ap (λ (m : View). m.third_at) is)) y.third)
      ∙ ap (cases_leave (s.dirts x) cs) (q ∙ ap (λ X. case_leaves (s.dirts x) X n.a n.b d) t ∙ ap₂ (λ u w. case_leaves (s.dirts x) (claim i) u w d) a b)

pub returns-in-Case : goal.returns-in-Case
returns-in-Case t c = goes c.args.self.now c.args.at c.args.dirt (view c.in-Some.case) c.in-Some.ensures.0 _ _ c.in-Case.is c.case_leaves.ensures c.left.ensures

pub returns-in_default : goal.returns-in_default
returns-in_default t c = λ cs h. absurd (omega (arith, c.in_default.ensures, (placed_first (s.rows c.args.self.now) c.args.at cs h).short))

pub returns-in_default-kind : goal.returns-in_default-kind
returns-in_default-kind t c = ended c.args.self.now c.args.at c.args.dirt (view c.in-Some.case) c.in-Some.ensures.0 c.in_default-kind.not-Case

-- The search for a case goes on case by case.
use Rattle.std.proofs.Common.{◌≡◌, ℕ, ◌≤◌, true, false, cond, ◌&&◌, eqb, List, ◌++◌, length, get_or, drop, Some, None, Option, sym, refl, ap, ◌∙◌, subst, arith}
use Rattle.std.specs.Borrow.{Bor}
use Rattle.std.proofs.Math.Bool.{and-false}
use Rattle.eff.specs.Sorts.{expr, list, comp}
use Rattle.eff.specs.Syntax.{head, Term, var, truth, num, succ, unit, inst, fn, handler, case, nil, flatten}
use Rattle.eff.specs.Outcome.{first, is_instance}
use Rattle.eff.specs.declared.kind.Kind.TheVariants as k
use Rattle.eff.specs.declared.part.Part.{Part}
use Rattle.step.specs.Walk.{Behind}
use Rattle.step.specs.Cases.{names_call, Found, Finds}
use Rattle.step.proofs.Skipping.{blank}
use Rattle.step.proofs.Shapes.{Here, here, alike, is_cases, first_at, kind_at, inside, case_in}

-- the cases still to be searched, which open the parts left, have the case that all of them have
pub record Left (i op : ℕ) (left : List Part) (cs : Term list) (rest : List Part) : Type 0 where
  pub cases : Term list
  pub same : first i op cs ≡ first i op cases
  pub there : Here left 0 cases rest

pub record Searching (i op : ℕ) (ps left : List Part) : Type 0 where
  pub searched : (cs : Term list) (rest : List Part) → Here ps 0 cs rest → Left i op left cs rest

named : (x : Term expr) (c : Part) (i op : ℕ) → names_call c (head x) i op ≡ (eqb c.b op && is_instance x i)
named (inst j) c i op = refl
named (var n) c i op = sym (and-false (eqb c.b op))
named (truth b) c i op = sym (and-false (eqb c.b op))
named (num n) c i op = sym (and-false (eqb c.b op))
named (succ e) c i op = sym (and-false (eqb c.b op))
named unit c i op = sym (and-false (eqb c.b op))
named (fn a b) c i op = sym (and-false (eqb c.b op))
named (handler a b cs) c i op = sym (and-false (eqb c.b op))

-- a case that opens the parts left, and its body
record CaseAt (i op : ℕ) (left body : List Part) (cs : Term list) (rest : List Part) : Type 0 where
  c : Term comp
  more : Term list
  test : first i op cs ≡ cond (names_call (get_or left 0 blank) (get_or left 1 blank) i op) (Some c) (first i op more)
  there : body ≡ flatten c ++ (flatten more ++ rest)

case_at : {left inside body rest : List Part} {cs : Term list} (i op : ℕ) → (get_or left 0 blank).kind ≡ k.Case → inside ≡ drop 1 left → Behind inside body → Here left 0 cs rest
    → CaseAt i op left body cs rest
case_at {left} {inside} {body} {rest} {cs} i op kind q f h =
    let j = is_cases h kind in
    let t = alike j.5 h in
    let x = case_in t in
    record {
      c = j.3;
      more = j.4;
      test = ap (first i op) j.5
          ∙ ap (λ b. cond b (Some j.3) (first i op j.4))
          (sym (named j.2 (head (case j.0 j.1 j.2 j.3 j.4)) i op)
          ∙ ap (λ (p : Part). names_call p (head j.2) i op) (sym (first_at t)) ∙ ap (λ (p : Part). names_call (get_or left 0 blank) p i op) (sym (first_at x)));
      there = f.behind j.2 _ (q ∙ x.there);
    }

pub found : {i op : ℕ} {ps left inside : List Part} (body : Bor (List Part)) → (get_or left 0 blank).kind ≡ k.Case → inside ≡ drop 1 left → Behind inside body.now
    → names_call (get_or left 0 blank) (get_or left 1 blank) i op ≡ true → Searching i op ps left → Finds i op ps (Some body)
found {i} {op} {ps} {left} {inside} body kind q f t s = record {
  found = λ cs rest h.
      let l = s.searched cs rest (here ps 0 cs rest h) in
      let d = case_at i op kind q f l.there in
      subst (λ (o : Option (Term comp)). Found o (Some body)) (sym (l.same ∙ d.test ∙ ap (λ b. cond b (Some d.c) (first i op d.more)) t))
      (flatten d.more ++ rest, d.there);
}

pub on : {i op : ℕ} {ps left inside body then : List Part} → (get_or left 0 blank).kind ≡ k.Case → inside ≡ drop 1 left → Behind inside body → Behind body then
    → names_call (get_or left 0 blank) (get_or left 1 blank) i op ≡ false → Searching i op ps left → Searching i op ps then
on {i} {op} {ps} {left} {inside} {body} {then} kind q f g t s = record {
  searched = λ cs rest h.
      let l = s.searched cs rest h in
      let d = case_at i op kind q f l.there in
      record {
        cases = d.more;
        same = l.same ∙ d.test ∙ ap (λ b. cond b (Some d.c) (first i op d.more)) t;
        there = here then 0 d.more rest (g.behind d.c (flatten d.more ++ rest) d.there);
      };
}

pub ended : {i op : ℕ} {ps left : List Part} → ((get_or left 0 blank).kind ≡ k.Case → ⊥) → Searching i op ps left → Finds i op ps None
ended {i} {op} {ps} {left} n s = record {
  found = λ cs rest e.
      let l = s.searched cs rest (here ps 0 cs rest e) in
      subst (λ (o : Option (Term comp)). Found o None) (sym (l.same ∙ last l.cases (λ z. n (kind_at l.there ∙ z)))) tt;
}
  where
    last : (cs : Term list) → ((head cs).kind ≡ k.Case → ⊥) → first i op cs ≡ None
    last nil n = refl
    last (case e o x c cs) n = absurd (n refl)

pub over : {i op : ℕ} {ps left : List Part} → length left ≤ 1 → Searching i op ps left → Finds i op ps None
over {i} {op} {ps} {left} h s = record {
  found = λ cs rest e.
      let l = s.searched cs rest (here ps 0 cs rest e) in
      subst (λ (o : Option (Term comp)). Found o None) (sym (l.same ∙ last l.cases rest l.there)) tt;
}
  where
    last : (cs : Term list) (rest : List Part) → Here left 0 cs rest → first i op cs ≡ None
    last nil rest t = refl
    last (case e o x c cs) rest t = absurd (omega (arith, inside (case_in t)))

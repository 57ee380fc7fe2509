-- A numeral n means n successors on zero: computations step and ask alike when numerals are spelled out.
use Rattle.std.specs.Prelude.{◌≡◌, ℕ, zero, suc}
use Rattle.eff.specs.Sorts.{Sort, expr, comp}
use Rattle.eff.specs.Syntax.{Term, var, truth, num, succ, unit, inst, fn, handler, case, nil, if, match, absurd, apply, val, call, bind, rec, handle}
use Rattle.eff.specs.Tables.{Tables}
use Rattle.eff.specs.Outcome.{Outcome, value, asks, next, stuck, step}
use Rattle.eff.specs.Questions.{worth}

abbrev pub successors : ℕ → Term expr
successors zero = num 0
successors (suc n) = succ (successors n)

-- every numeral spelled out
abbrev pub spell : {s : Sort} → Term s → Term s
spell (var n) = var n
spell (truth b) = truth b
spell (num n) = successors n
spell (succ e) = succ (spell e)
spell unit = unit
spell (inst i) = inst i
spell (fn a c) = fn a (spell c)
spell (handler a c cs) = handler a (spell c) (spell cs)
spell (case e op i c cs) = case e op (spell i) (spell c) (spell cs)
spell nil = nil
spell (if e c d) = if (spell e) (spell c) (spell d)
spell (match e c d) = match (spell e) (spell c) (spell d)
spell (absurd e) = absurd (spell e)
spell (apply e f) = apply (spell e) (spell f)
spell (val e) = val (spell e)
spell (call e op i w c) = call e op (spell i) (spell w) (spell c)
spell (bind c d) = bind (spell c) (spell d)
spell (rec a c d) = rec a (spell c) (spell d)
spell (handle e c) = handle (spell e) (spell c)

abbrev pub spelled : Outcome → Outcome
spelled (value v) = value (spell v)
spelled (asks e op i v k) = asks e op i (spell v) (spell k)
spelled (next c) = next (spell c)
spelled stuck = stuck

pub record Numerals : Type 0 where
  pub steps : (T : Tables) (c : Term comp) → step T (spell c) ≡ spelled (step T c)
  pub values : (v : Term expr) → worth (spell v) ≡ worth v

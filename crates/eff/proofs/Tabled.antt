-- Terms follow the table of kinds.
use Rattle.std.proofs.Common.{◌≡◌, ℕ, suc, ◌+◌, refl, ap, append-nil, zero-add, one-add, arith}
use Rattle.eff.specs.Sorts.{expr, list, comp}
use Rattle.eff.specs.Syntax.{var, truth, num, succ, unit, inst, fn, handler, case, nil, if, match, absurd, apply, val, call, bind, rec, handle}
use Rattle.eff.specs.Kinds.{Column, unused, place, count, instance, type, function_type, effect, operation}
use Rattle.eff.specs.Kinds as kinds
use Rattle.eff.specs.Tabled.{TermsFollowTheTable}

two_add : (n : ℕ) → 2 + n ≡ suc (suc n)
two_add n = omega arith

-- whether a column is used
abbrev used : Column → ℕ
used unused = 0
used place = 1
used kinds.truth = 1
used count = 1
used instance = 1
used type = 1
used function_type = 1
used effect = 1
used operation = 1

never : {c : Column} {X : Type 0} → used c ≡ 1 → c ≡ unused → X
never {c} u h = let e : used c ≡ 0 = ap used h in let b : ⊥ = omega arith in elim b [ ]

pub follow : TermsFollowTheTable
follow expr (var n) = record { sort = refl; sorts = refl; unused_a = λ h. never refl h; unused_b = λ h. refl; parts = refl; head_stays = λ h n v. elim (h refl) [ ]; put_through = λ h n v. elim (h refl) [ ] }
follow expr (truth b) = record { sort = refl; sorts = refl; unused_a = λ h. never refl h; unused_b = λ h. refl; parts = refl; head_stays = λ h n v. refl; put_through = λ h n v. refl }
follow expr (num n) = record { sort = refl; sorts = refl; unused_a = λ h. never refl h; unused_b = λ h. refl; parts = refl; head_stays = λ h n v. refl; put_through = λ h n v. refl }
follow expr (succ e) = record { sort = refl; sorts = refl; unused_a = λ h. refl; unused_b = λ h. refl; parts = simp append-nil; head_stays = λ h n v. refl; put_through = λ h n v. simp zero-add }
follow expr unit = record { sort = refl; sorts = refl; unused_a = λ h. refl; unused_b = λ h. refl; parts = refl; head_stays = λ h n v. refl; put_through = λ h n v. refl }
follow expr (inst i) = record { sort = refl; sorts = refl; unused_a = λ h. never refl h; unused_b = λ h. refl; parts = refl; head_stays = λ h n v. refl; put_through = λ h n v. refl }
follow expr (fn a c) = record { sort = refl; sorts = refl; unused_a = λ h. never refl h; unused_b = λ h. refl; parts = simp append-nil; head_stays = λ h n v. refl; put_through = λ h n v. simp one-add }
follow expr (handler a c cs) = record { sort = refl; sorts = refl; unused_a = λ h. never refl h; unused_b = λ h. refl; parts = simp append-nil; head_stays = λ h n v. refl; put_through = λ h n v. simp (zero-add, one-add) }
follow list (case e op i c cs) = record { sort = refl; sorts = refl; unused_a = λ h. never refl h; unused_b = λ h. never refl h; parts = simp append-nil; head_stays = λ h n v. refl; put_through = λ h n v. simp (zero-add, two_add) }
follow list nil = record { sort = refl; sorts = refl; unused_a = λ h. refl; unused_b = λ h. refl; parts = refl; head_stays = λ h n v. refl; put_through = λ h n v. refl }
follow comp (if e c d) = record { sort = refl; sorts = refl; unused_a = λ h. refl; unused_b = λ h. refl; parts = simp append-nil; head_stays = λ h n v. refl; put_through = λ h n v. simp zero-add }
follow comp (match e c d) = record { sort = refl; sorts = refl; unused_a = λ h. refl; unused_b = λ h. refl; parts = simp append-nil; head_stays = λ h n v. refl; put_through = λ h n v. simp (zero-add, one-add) }
follow comp (absurd e) = record { sort = refl; sorts = refl; unused_a = λ h. refl; unused_b = λ h. refl; parts = simp append-nil; head_stays = λ h n v. refl; put_through = λ h n v. simp zero-add }
follow comp (apply e f) = record { sort = refl; sorts = refl; unused_a = λ h. refl; unused_b = λ h. refl; parts = simp append-nil; head_stays = λ h n v. refl; put_through = λ h n v. simp zero-add }
follow comp (val e) = record { sort = refl; sorts = refl; unused_a = λ h. refl; unused_b = λ h. refl; parts = simp append-nil; head_stays = λ h n v. refl; put_through = λ h n v. simp zero-add }
follow comp (call e op i w c) = record { sort = refl; sorts = refl; unused_a = λ h. never refl h; unused_b = λ h. never refl h; parts = simp append-nil; head_stays = λ h n v. refl; put_through = λ h n v. simp (zero-add, one-add) }
follow comp (bind c d) = record { sort = refl; sorts = refl; unused_a = λ h. refl; unused_b = λ h. refl; parts = simp append-nil; head_stays = λ h n v. refl; put_through = λ h n v. simp (zero-add, one-add) }
follow comp (rec a c d) = record { sort = refl; sorts = refl; unused_a = λ h. never refl h; unused_b = λ h. refl; parts = simp append-nil; head_stays = λ h n v. refl; put_through = λ h n v. simp (one-add, two_add) }
follow comp (handle e c) = record { sort = refl; sorts = refl; unused_a = λ h. refl; unused_b = λ h. refl; parts = simp append-nil; head_stays = λ h n v. refl; put_through = λ h n v. simp zero-add }

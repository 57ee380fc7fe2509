-- How many names each part of a term stands under.
use Rattle.std.specs.Prelude.{ℕ, suc, List, [], ◌∷◌, ◌++◌}
use Rattle.eff.specs.Sorts.{Sort}
use Rattle.eff.specs.Syntax.{Term, var, truth, num, succ, unit, inst, fn, handler, case, nil, if, match, absurd, apply, val, call, bind, rec, handle}

-- how many names each part of a term stands under, in order; n is for the term itself
abbrev pub names : {s : Sort} → ℕ → Term s → List ℕ
names n (var place) = n ∷ []
names n (truth b) = n ∷ []
names n (num m) = n ∷ []
names n (succ e) = n ∷ names n e
names n unit = n ∷ []
names n (inst i) = n ∷ []
names n (fn a c) = n ∷ names (suc n) c
names n (handler a c cs) = n ∷ (names (suc n) c ++ names n cs)
names n (case e op i c cs) = n ∷ (names n i ++ (names (suc (suc n)) c ++ names n cs))
names n nil = n ∷ []
names n (if e c d) = n ∷ (names n e ++ (names n c ++ names n d))
names n (match e c d) = n ∷ (names n e ++ (names n c ++ names (suc n) d))
names n (absurd e) = n ∷ names n e
names n (apply e f) = n ∷ (names n e ++ names n f)
names n (val e) = n ∷ names n e
names n (call e op i w c) = n ∷ (names n i ++ (names n w ++ names (suc n) c))
names n (bind c d) = n ∷ (names n c ++ names (suc n) d)
names n (rec a c d) = n ∷ (names (suc (suc n)) c ++ names (suc n) d)
names n (handle e c) = n ∷ (names n e ++ names n c)

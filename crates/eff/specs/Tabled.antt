-- Terms follow the table of kinds: their parts, and where a value is written in.
use Rattle.std.specs.Prelude.{◌≡◌, ℕ, ◌+◌, List, [], ◌∷◌, ◌++◌, map}
use Rattle.eff.specs.Sorts.{Sort, expr}
use Rattle.eff.specs.Kinds.{Child, table, unused}
use Rattle.eff.specs.Syntax.{Term, var, truth, num, succ, unit, inst, fn, handler, case, nil, if, match, absurd, apply, val, call, bind, rec, handle, head, flatten, put}
use Rattle.eff.specs.declared.part.Part.{Part}
use Rattle.eff.specs.declared.kind.Kind.TheVariants as k

-- a term of any sort
pub record SomeTerm : Type 0 where
  pub sort : Sort
  pub term : Term sort

abbrev pub any : {s : Sort} → Term s → SomeTerm
any {s} t = record { sort = s; term = t }

-- a term's children in order
abbrev pub children : {s : Sort} → Term s → List SomeTerm
children (var n) = []
children (truth b) = []
children (num n) = []
children (succ e) = any e ∷ []
children unit = []
children (inst i) = []
children (fn a c) = any c ∷ []
children (handler a c cs) = any c ∷ any cs ∷ []
children (case e op i c cs) = any i ∷ any c ∷ any cs ∷ []
children nil = []
children (if e c d) = any e ∷ any c ∷ any d ∷ []
children (match e c d) = any e ∷ any c ∷ any d ∷ []
children (absurd e) = any e ∷ []
children (apply e f) = any e ∷ any f ∷ []
children (val e) = any e ∷ []
children (call e op i w c) = any i ∷ any w ∷ any c ∷ []
children (bind c d) = any c ∷ any d ∷ []
children (rec a c d) = any c ∷ any d ∷ []
children (handle e c) = any e ∷ any c ∷ []

-- the parts of terms, one after another
abbrev pub all_parts : List SomeTerm → List Part
all_parts [] = []
all_parts (t ∷ ts) = flatten t.term ++ all_parts ts

-- v written in for the name of place n into the children of a term, each under its own names more
abbrev pub put_all : ℕ → Term expr → List Child → List SomeTerm → List SomeTerm
put_all n v [] ts = []
put_all n v (c ∷ cs) [] = []
put_all n v (c ∷ cs) (t ∷ ts) = any (put (c.names + n) v t.term) ∷ put_all n v cs ts

-- A term has the sort of its first part's kind, 0 in the columns that the kind does not use, children of the sorts that the kind has, and the
-- parts of these in order after the first; a value is written into a term that is no variable by writing it into each child under the child's
-- own names.
pub record Tabled (s : Sort) (t : Term s) : Type 0 where
  pub sort : (table (head t).kind).sort ≡ s
  pub sorts : map (λ (c : SomeTerm). c.sort) (children t) ≡ map (λ (c : Child). c.sort) (table (head t).kind).children
  pub unused_a : (table (head t).kind).a ≡ unused → (head t).a ≡ 0
  pub unused_b : (table (head t).kind).b ≡ unused → (head t).b ≡ 0
  pub parts : flatten t ≡ head t ∷ all_parts (children t)
  pub head_stays : ¬ ((head t).kind ≡ k.Variable) → (n : ℕ) (v : Term expr) → head (put n v t) ≡ head t
  pub put_through : ¬ ((head t).kind ≡ k.Variable) → (n : ℕ) (v : Term expr)
      → children (put n v t) ≡ put_all n v (table (head t).kind).children (children t)

abbrev pub TermsFollowTheTable : Type 0
TermsFollowTheTable = (s : Sort) (t : Term s) → Tabled s t

-- no term's parts begin another's of the same sort, so parts are of one term at most
abbrev pub PartsAreOfOneTerm : Type 0
PartsAreOfOneTerm = (s : Sort) (t u : Term s) (ps qs : List Part) → flatten t ++ ps ≡ flatten u ++ qs → (t ≡ u) × (ps ≡ qs)

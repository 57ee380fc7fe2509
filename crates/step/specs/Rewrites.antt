-- What stands for a redex, written behind what stands before it.
use Rattle.std.specs.Prelude.{◌≡◌, ℕ, ◌+◌, ◌<◌, List, ◌∷◌, ◌++◌, length, Ok, Err, Result}
use Rattle.std.specs.Borrow.{Bor}
use Rattle.eff.specs.Sorts.{expr, list, comp}
use Rattle.eff.specs.Syntax.{head, Term, inst, fn, handler, val, call, bind, handle, flatten, size, put, part}
use Rattle.eff.specs.Tables.{Tables}
use Rattle.eff.specs.Outcome.{Outcome, value, asks, next, stuck, step}
use Rattle.eff.specs.declared.kind.Kind.{Kind}
use Rattle.eff.specs.declared.kind.Kind.TheVariants as k
use Rattle.eff.specs.declared.part.Part.{Part}
use Rattle.step.specs.declared.halt.Halt.{Halt}
use Rattle.step.specs.declared.halt.Halt.TheVariants.{Stuck, Full}
use Rattle.step.specs.declared.write.Writer.{Writer}
use Rattle.step.specs.Written.{parts}

-- what is written and what is still to be read are what stood before, the next computation b and the rest behind the redex
pub record GoesOn (b : Term comp) (rest left : List Part) (was new : Writer) : Type 0 where
  pub whole : parts new ++ left ≡ parts was ++ (flatten b ++ rest)

-- these have no room
pub record NoRoom (b : Term comp) (rest : List Part) (was : Writer) : Type 0 where
  pub over : length was.to.now < was.filled + (size b + length rest)

-- a rewriting follows an outcome
abbrev pub Rewrites : Outcome → List Part → Writer → Writer → Result (Bor (List Part)) Halt → Type 0
Rewrites (next b) rest was new (Ok left) = GoesOn b rest left.now was new
Rewrites (next b) rest was new (Err Full) = NoRoom b rest was
Rewrites (next b) rest was new (Err Stuck) = ⊥
Rewrites stuck rest was new (Ok left) = ⊥
Rewrites stuck rest was new (Err Full) = ⊥
Rewrites stuck rest was new (Err Stuck) = Unit {0}
Rewrites (value v) rest was new r = Unit {0}
Rewrites (asks e op i v k) rest was new r = Unit {0}

-- What is asked of a computation that is rewritten.
abbrev pub Asked : Type 1
Asked = Tables → Term comp → Type 0

-- nothing
abbrev pub any : Asked
any T u = Unit {0}

-- a computation inside a let or a with that does not step by itself: a val or a call
abbrev pub Rests : Term comp → Type 0
Rests (val v) = Unit {0}
Rests (call e op x v k) = Unit {0}
Rests _ = ⊥

-- a redex: what is inside a let or a with rests
abbrev pub ready : Asked
ready T (bind c d) = Rests c
ready T (handle h c) = Rests c
ready T _ = Unit {0}

-- these are the tables
abbrev pub under : Tables → Asked
under S T u = T ≡ S

-- both
abbrev pub prepared : Tables → Asked
prepared S T u = ready T u × (T ≡ S)

-- a computation of the kind k that opens the parts, of which something is asked, is rewritten as it steps
pub record Rewriting (k : Kind) (P : Asked) (ps : List Part) (was new : Writer) (r : Result (Bor (List Part)) Halt) : Type 0 where
  pub rule : (T : Tables) (u : Term comp) (rest : List Part) → (head u).kind ≡ k → ps ≡ flatten u ++ rest → P T u
      → Rewrites (step T u) rest was new r

-- what stands before a call, which opens the inner parts, goes behind the call's argument v, before the rest
pub record Passes (before inner : List Part) (was new : Writer) (r : Result (Bor (List Part)) Halt) : Type 0 where
  pub passes : (p q : Part) (v : Term expr) (rest after : List Part) (b : Term comp) → inner ≡ p ∷ q ∷ (flatten v ++ rest)
      → (p ∷ q ∷ flatten v) ++ (before ++ rest) ≡ flatten b ++ after → Rewrites (next b) after was new r

-- the parts of a with before the computation that it is over
abbrev pub opening : Term expr → List Part
opening h = part k.With 0 0 ∷ flatten h

-- a with over a call, which opens the inner parts, is rewritten as it steps; its handler's cases open the parts cases
pub record WithCall (T : Tables) (before inner cases : List Part) (was new : Writer) (r : Result (Bor (List Part)) Halt) : Type 0 where
  pub rule : (a : ℕ) (b : Term comp) (cs : Term list) (e op : ℕ) (x v : Term expr) (c : Term comp) (after rest : List Part)
      → before ≡ opening (handler a b cs) → inner ≡ flatten (call e op x v c) ++ rest → cases ≡ flatten cs ++ after
      → Rewrites (step T (handle (handler a b cs) (call e op x v c))) rest was new r

-- a with over a call, which opens the inner parts, is rewritten to the body of a case, with the argument for x and the resumption for k
pub record WithCase (before inner body : List Part) (n : ℕ) (was new : Writer) (r : Result (Bor (List Part)) Halt) : Type 0 where
  pub rule : (h : Term expr) (e op i : ℕ) (v : Term expr) (c b : Term comp) (rest after : List Part)
      → before ≡ opening h → inner ≡ flatten (call e op (inst i) v c) ++ rest → body ≡ flatten b ++ after
      → Rewrites (next (put 0 (fn n (handle h c)) (put 1 v b))) rest was new r

-- a computation of any kind that opens the parts is rewritten as it steps
pub record RewritingAll (P : Asked) (ps : List Part) (was new : Writer) (r : Result (Bor (List Part)) Halt) : Type 0 where
  pub rule : (T : Tables) (u : Term comp) (rest : List Part) → ps ≡ flatten u ++ rest → P T u → Rewrites (step T u) rest was new r

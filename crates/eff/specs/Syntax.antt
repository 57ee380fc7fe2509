-- Terms of core Eff without claims, their parts in order, and a value written in for a name.
use Rattle.std.specs.Prelude.{ℕ, suc, Bool, true, false, cond, List, [], ◌∷◌, ◌++◌, length, ◌==◌}
use Rattle.eff.specs.Sorts.{Sort, expr, list, comp}
use Rattle.eff.specs.declared.part.Part.{Part}
use Rattle.eff.specs.declared.kind.Kind.{Kind}
use Rattle.eff.specs.declared.kind.Kind.TheVariants as k

-- One constructor for each kind of part. A variable is given by its place, which counts bound names outward, the latest being 0; a type, an
-- effect, an operation and an instance by its number.
pub data Term : Sort → Type 0 where
  var : (place : ℕ) → Term expr
  truth : Bool → Term expr
  -- n successors on zero
  num : (n : ℕ) → Term expr
  succ : Term expr → Term expr
  unit : Term expr
  inst : (instance : ℕ) → Term expr
  -- the function of x, of the type, that runs a computation under x
  fn : (type : ℕ) → Term comp → Term expr
  -- the val branch under x, of the type, and the cases
  handler : (type : ℕ) → Term comp → Term list → Term expr
  -- the instance expression, the body under x and then k, and the other cases
  case : (effect op : ℕ) → Term expr → Term comp → Term list → Term list
  nil : Term list
  if : Term expr → Term comp → Term comp → Term comp
  -- the branch for zero, and the branch for a successor under x
  match : Term expr → Term comp → Term comp → Term comp
  absurd : Term expr → Term comp
  apply : Term expr → Term expr → Term comp
  val : Term expr → Term comp
  -- the instance expression, the argument, and the continuation under y
  call : (effect op : ℕ) → Term expr → Term expr → Term comp → Term comp
  -- let x be the first in the second, under x
  bind : Term comp → Term comp → Term comp
  -- let rec f x, f of the function type, be the first, under x and then f, in the second, under f
  rec : (type : ℕ) → Term comp → Term comp → Term comp
  -- with the handler, the computation
  handle : Term expr → Term comp → Term comp

abbrev pub part : Kind → ℕ → ℕ → Part
part k a b = record { kind = k; a = a; b = b }

-- false is 0, true is 1
abbrev pub digit : Bool → ℕ
digit false = 0
digit true = 1

-- a term's first part
abbrev pub head : {s : Sort} → Term s → Part
head (var n) = part k.Variable n 0
head (truth b) = part k.Truth (digit b) 0
head (num n) = part k.Numeral n 0
head (succ e) = part k.Successor 0 0
head unit = part k.Unit 0 0
head (inst i) = part k.Instance i 0
head (fn a c) = part k.Function a 0
head (handler a c cs) = part k.Handler a 0
head (case e op i c cs) = part k.Case e op
head nil = part k.Nil 0 0
head (if e c d) = part k.If 0 0
head (match e c d) = part k.Match 0 0
head (absurd e) = part k.Absurd 0 0
head (apply e f) = part k.Apply 0 0
head (val e) = part k.Val 0 0
head (call e op i w c) = part k.Call e op
head (bind c d) = part k.Let 0 0
head (rec a c d) = part k.LetRec a 0
head (handle e c) = part k.With 0 0

-- a term's parts: each is followed directly by its children in order
abbrev pub flatten : {s : Sort} → Term s → List Part
flatten (var n) = head (var n) ∷ []
flatten (truth b) = head (truth b) ∷ []
flatten (num n) = head (num n) ∷ []
flatten (succ e) = head (succ e) ∷ flatten e
flatten unit = head unit ∷ []
flatten (inst i) = head (inst i) ∷ []
flatten (fn a c) = head (fn a c) ∷ flatten c
flatten (handler a c cs) = head (handler a c cs) ∷ (flatten c ++ flatten cs)
flatten (case e op i c cs) = head (case e op i c cs) ∷ (flatten i ++ (flatten c ++ flatten cs))
flatten nil = head nil ∷ []
flatten (if e c d) = head (if e c d) ∷ (flatten e ++ (flatten c ++ flatten d))
flatten (match e c d) = head (match e c d) ∷ (flatten e ++ (flatten c ++ flatten d))
flatten (absurd e) = head (absurd e) ∷ flatten e
flatten (apply e f) = head (apply e f) ∷ (flatten e ++ flatten f)
flatten (val e) = head (val e) ∷ flatten e
flatten (call e op i w c) = head (call e op i w c) ∷ (flatten i ++ (flatten w ++ flatten c))
flatten (bind c d) = head (bind c d) ∷ (flatten c ++ flatten d)
flatten (rec a c d) = head (rec a c d) ∷ (flatten c ++ flatten d)
flatten (handle e c) = head (handle e c) ∷ (flatten e ++ flatten c)

-- how many parts a term has
abbrev pub size : {s : Sort} → Term s → ℕ
size t = length (flatten t)

-- put n v t: the closed value v for the name of place n, the outermost free one of t; v being closed, nothing is shifted
abbrev pub put : {s : Sort} → ℕ → Term expr → Term s → Term s
put n v (var m) = cond (m == n) v (var m)
put n v (truth b) = truth b
put n v (num m) = num m
put n v (succ e) = succ (put n v e)
put n v unit = unit
put n v (inst i) = inst i
put n v (fn a c) = fn a (put (suc n) v c)
put n v (handler a c cs) = handler a (put (suc n) v c) (put n v cs)
put n v (case e op i c cs) = case e op (put n v i) (put (suc (suc n)) v c) (put n v cs)
put n v nil = nil
put n v (if e c d) = if (put n v e) (put n v c) (put n v d)
put n v (match e c d) = match (put n v e) (put n v c) (put (suc n) v d)
put n v (absurd e) = absurd (put n v e)
put n v (apply e f) = apply (put n v e) (put n v f)
put n v (val e) = val (put n v e)
put n v (call e op i w c) = call e op (put n v i) (put n v w) (put (suc n) v c)
put n v (bind c d) = bind (put n v c) (put (suc n) v d)
put n v (rec a c d) = rec a (put (suc (suc n)) v c) (put (suc n) v d)
put n v (handle e c) = handle (put n v e) (put n v c)

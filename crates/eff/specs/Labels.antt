-- Terms with a claim at each part.
use Rattle.std.specs.Prelude.{ℕ, Bool, List, [], ◌∷◌, ◌++◌}
use Rattle.eff.specs.Sorts.{Sort, expr, list, comp}
use Rattle.eff.specs.Syntax.{Term}
use Rattle.eff.specs.Syntax as y
use Rattle.eff.specs.Types.{Ty, Dirty, bool}
use Rattle.eff.specs.Tables.{Tables}
use Rattle.eff.specs.Dirt.{Dirts}
use Rattle.eff.specs.Checked.{Declared, DeclaredDirty}

-- As terms, each with its claim first: an expression's is a type, a computation's a dirty type; a case has none, and a nil has that of its handler's
-- branches.
pub data Labelled : Sort → Type 0 where
  var : Ty → ℕ → Labelled expr
  truth : Ty → Bool → Labelled expr
  num : Ty → ℕ → Labelled expr
  succ : Ty → Labelled expr → Labelled expr
  unit : Ty → Labelled expr
  inst : Ty → ℕ → Labelled expr
  fn : Ty → ℕ → Labelled comp → Labelled expr
  handler : Ty → ℕ → Labelled comp → Labelled list → Labelled expr
  case : (e op : ℕ) → Labelled expr → Labelled comp → Labelled list → Labelled list
  nil : Dirty → Labelled list
  if : Dirty → Labelled expr → Labelled comp → Labelled comp → Labelled comp
  match : Dirty → Labelled expr → Labelled comp → Labelled comp → Labelled comp
  absurd : Dirty → Labelled expr → Labelled comp
  apply : Dirty → Labelled expr → Labelled expr → Labelled comp
  val : Dirty → Labelled expr → Labelled comp
  call : Dirty → (e op : ℕ) → Labelled expr → Labelled expr → Labelled comp → Labelled comp
  bind : Dirty → Labelled comp → Labelled comp → Labelled comp
  rec : Dirty → ℕ → Labelled comp → Labelled comp → Labelled comp
  handle : Dirty → Labelled expr → Labelled comp → Labelled comp

-- the term without its claims
abbrev pub erase : {s : Sort} → Labelled s → Term s
erase (var A n) = y.var n
erase (truth A b) = y.truth b
erase (num A n) = y.num n
erase (succ A e) = y.succ (erase e)
erase (unit A) = y.unit
erase (inst A i) = y.inst i
erase (fn A a c) = y.fn a (erase c)
erase (handler A a c cs) = y.handler a (erase c) (erase cs)
erase (case e op i c cs) = y.case e op (erase i) (erase c) (erase cs)
erase (nil C) = y.nil
erase (if C e c c') = y.if (erase e) (erase c) (erase c')
erase (match C e c c') = y.match (erase e) (erase c) (erase c')
erase (absurd C e) = y.absurd (erase e)
erase (apply C e f) = y.apply (erase e) (erase f)
erase (val C e) = y.val (erase e)
erase (call C e op i w c) = y.call e op (erase i) (erase w) (erase c)
erase (bind C c c') = y.bind (erase c) (erase c')
erase (rec C a c c') = y.rec a (erase c) (erase c')
erase (handle C e c) = y.handle (erase e) (erase c)

abbrev pub Claim : Sort → Type 0
Claim expr = Ty
Claim list = Dirty
Claim comp = Dirty

-- what a term claims, a case list being spoken for by its nil
abbrev pub claim : {s : Sort} → Labelled s → Claim s
claim (var A n) = A
claim (truth A b) = A
claim (num A n) = A
claim (succ A e) = A
claim (unit A) = A
claim (inst A i) = A
claim (fn A a c) = A
claim (handler A a c cs) = A
claim (case e op i c cs) = claim cs
claim (nil C) = C
claim (if C e c c') = C
claim (match C e c c') = C
claim (absurd C e) = C
claim (apply C e f) = C
claim (val C e) = C
claim (call C e op i w c) = C
claim (bind C c c') = C
claim (rec C a c c') = C
claim (handle C e c) = C

-- The claims of all parts in order, as type and dirt: an expression's dirt is 0, and a case has the type of number 0 and the dirt 0.
abbrev pub columns : {s : Sort} → Labelled s → List Dirty
columns (var A n) = (A, 0) ∷ []
columns (truth A b) = (A, 0) ∷ []
columns (num A n) = (A, 0) ∷ []
columns (succ A e) = (A, 0) ∷ columns e
columns (unit A) = (A, 0) ∷ []
columns (inst A i) = (A, 0) ∷ []
columns (fn A a c) = (A, 0) ∷ columns c
columns (handler A a c cs) = (A, 0) ∷ (columns c ++ columns cs)
columns (case e op i c cs) = (bool, 0) ∷ (columns i ++ (columns c ++ columns cs))
columns (nil C) = C ∷ []
columns (if C e c c') = C ∷ (columns e ++ (columns c ++ columns c'))
columns (match C e c c') = C ∷ (columns e ++ (columns c ++ columns c'))
columns (absurd C e) = C ∷ columns e
columns (apply C e f) = C ∷ (columns e ++ columns f)
columns (val C e) = C ∷ columns e
columns (call C e op i w c) = C ∷ (columns i ++ (columns w ++ columns c))
columns (bind C c c') = C ∷ (columns c ++ columns c')
columns (rec C a c c') = C ∷ (columns c ++ columns c')
columns (handle C e c) = C ∷ (columns e ++ columns c)

module _ (T : Tables) (D : Dirts) where
  -- every claim is a declared type, or a dirty type of a declared type and declared calls
  abbrev pub DeclaredClaims : {s : Sort} → Labelled s → Type 0
  DeclaredClaims (var A n) = Declared T D A
  DeclaredClaims (truth A b) = Declared T D A
  DeclaredClaims (num A n) = Declared T D A
  DeclaredClaims (succ A e) = Declared T D A × DeclaredClaims e
  DeclaredClaims (unit A) = Declared T D A
  DeclaredClaims (inst A i) = Declared T D A
  DeclaredClaims (fn A a c) = Declared T D A × DeclaredClaims c
  DeclaredClaims (handler A a c cs) = Declared T D A × DeclaredClaims c × DeclaredClaims cs
  DeclaredClaims (case e op i c cs) = DeclaredClaims i × DeclaredClaims c × DeclaredClaims cs
  DeclaredClaims (nil C) = DeclaredDirty T D C
  DeclaredClaims (if C e c c') = DeclaredDirty T D C × DeclaredClaims e × DeclaredClaims c × DeclaredClaims c'
  DeclaredClaims (match C e c c') = DeclaredDirty T D C × DeclaredClaims e × DeclaredClaims c × DeclaredClaims c'
  DeclaredClaims (absurd C e) = DeclaredDirty T D C × DeclaredClaims e
  DeclaredClaims (apply C e f) = DeclaredDirty T D C × DeclaredClaims e × DeclaredClaims f
  DeclaredClaims (val C e) = DeclaredDirty T D C × DeclaredClaims e
  DeclaredClaims (call C e op i w c) = DeclaredDirty T D C × DeclaredClaims i × DeclaredClaims w × DeclaredClaims c
  DeclaredClaims (bind C c c') = DeclaredDirty T D C × DeclaredClaims c × DeclaredClaims c'
  DeclaredClaims (rec C a c c') = DeclaredDirty T D C × DeclaredClaims c × DeclaredClaims c'
  DeclaredClaims (handle C e c) = DeclaredDirty T D C × DeclaredClaims e × DeclaredClaims c

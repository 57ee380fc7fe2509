-- The tables that typing and steps are relative to: what operations, instances and types are declared.
use Rattle.std.specs.Prelude.{◌≡◌, ℕ, ◌+◌, ◌-◌, ◌<◌, Bool, true, false, cond, ◌&&◌, List, [], ◌∷◌, ◌++◌, length, ◌==◌, slice_index_or}
use Rattle.eff.specs.Types.{Ty, bool, nat, unit, empty, fun, instance, hand}

-- A declared operation of an effect, with the numbers of the types that it takes and gives.
pub record Operation : Type 0 where
  pub effect : ℕ
  pub op : ℕ
  pub takes : ℕ
  pub gives : ℕ

-- A listed type: 4 is a function A → B!Δ, with A, B and Δ in a, b and e; 5 an instance type E^R, with E and R in a and b; 6 a handler
-- A!Δ ⇒ B!Δ', with A, Δ, B and Δ' in a, d, b and e.
pub record ListedType : Type 0 where
  pub kind : ℕ
  pub a : ℕ
  pub b : ℕ
  pub d : ℕ
  pub e : ℕ

-- The declared operations; the effect of each instance, from instance 0; the listed types, from number 4.
pub record Tables : Type 0 where
  pub operations : List Operation
  pub instances : List ℕ
  pub types : List ListedType

-- whether a row declares operation op of effect e
abbrev pub declares : Operation → ℕ → ℕ → Bool
declares o e op = o.effect == e && o.op == op

-- the first row for operation op of effect e; where there is none, an operation of unit to unit, of which no rule speaks
abbrev pub signature : List Operation → ℕ → ℕ → Operation
signature [] e op = record { effect = e; op = op; takes = 2; gives = 2 }
signature (o ∷ os) e op = cond (declares o e op) o (signature os e op)

-- whether some row declares operation op of effect e
abbrev pub declared : List Operation → ℕ → ℕ → Bool
declared [] e op = false
declared (o ∷ os) e op = cond (declares o e op) true (declared os e op)

-- the type of a row, ts being the types of the smaller numbers; a number that is not smaller stands for unit
abbrev pub meant : List Ty → ListedType → Ty
meant ts r = cond (r.kind == 4) (fun (slice_index_or ts r.a unit) (slice_index_or ts r.b unit) r.e)
    (cond (r.kind == 5) (instance r.a r.b) (hand (slice_index_or ts r.a unit) r.d (slice_index_or ts r.b unit) r.e))

-- the types of all numbers, ts being those before the rows
abbrev pub numbered : List Ty → List ListedType → List Ty
numbered ts [] = ts
numbered ts (r ∷ rs) = numbered (ts ++ (meant ts r ∷ [])) rs

abbrev pub grounds : List Ty
grounds = bool ∷ nat ∷ unit ∷ empty ∷ []

abbrev pub no_row : ListedType
no_row = record { kind = 0; a = 0; b = 0; d = 0; e = 0 }

module _ (T : Tables) where
  -- operation op is declared for the effect e
  abbrev pub Declares : ℕ → ℕ → Type 0
  Declares e op = declared T.operations e op ≡ true

  abbrev pub takes : ℕ → ℕ → ℕ
  takes e op = (signature T.operations e op).takes

  abbrev pub gives : ℕ → ℕ → ℕ
  gives e op = (signature T.operations e op).gives

  -- an effect is declared by its operations
  abbrev pub Effect : ℕ → Type 0
  Effect e = (op : ℕ) × Declares e op

  -- the instance i is declared, of the effect e
  pub record Instance (i e : ℕ) : Type 0 where
    pub declared : i < length T.instances
    pub effect : slice_index_or T.instances i 0 ≡ e

  -- the call i#op is declared: operation op for the effect of the instance i
  pub record Call (i op : ℕ) : Type 0 where
    pub effect : ℕ
    pub instance : Instance i effect
    pub operation : Declares effect op

  -- the number n has a type
  abbrev pub Listed : ℕ → Type 0
  Listed n = n < 4 + length T.types

  -- the type of the number n
  unfoldable pub type : ℕ → Ty
  type n = slice_index_or (numbered grounds T.types) n unit

  -- the number of the argument type of the function type a
  abbrev pub argument : ℕ → ℕ
  argument a = (slice_index_or T.types (a - 4) no_row).a

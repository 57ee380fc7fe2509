-- Which rows are in range.
use Rattle.std.specs.Prelude.{◌≡◌, ℕ, ◌+◌, ◌-◌, ◌^◌, ◌<◌, ◌≤◌, max, ◌⊎◌, [], length, Some, slice_index_or}
use Rattle.eff.specs.Types.{Ty, ground, fun, instance, hand}
use Rattle.eff.specs.Tables.{Tables, Declares, Effect, Listed, type}
use Rattle.eff.specs.Dirt.{Dirts, sets}
use Rattle.eff.specs.Checked.{Known, InOrder}
use Rattle.eff.specs.Kinds.{kinded, table, Column}
use Rattle.eff.specs.Kinds as c
use Rattle.eff.specs.declared.kind.Kind.{Kind}
use Rattle.eff.specs.declared.kind.Kind.TheVariants as k
use Rattle.sheet.specs.declared.rows.Operation.{Operation}
use Rattle.sheet.specs.declared.rows.Instance.{Instance}
use Rattle.sheet.specs.declared.rows.TypeRow.{TypeRow}
use Rattle.sheet.specs.declared.rows.PartRow.{PartRow}
use Rattle.sheet.specs.Rows.{Listing, operation_of, instance_of, type_of, part_of, first_type}
use Rattle.sheet.specs.Faults.{Which, operations, instances, types, parts, count, row_line}
use Rattle.table.specs.Meant.{tables_of, listed_type}

-- What a part claims: a type alone, a type and a dirt, or nothing.
pub data Claims : Type 0 where
  pure dirty none : Claims

-- a case claims nothing, and a nil what its handler's branches do
abbrev pub claims : Kind → Claims
claims k.Variable = pure
claims k.Truth = pure
claims k.Numeral = pure
claims k.Successor = pure
claims k.Unit = pure
claims k.Instance = pure
claims k.Function = pure
claims k.Handler = pure
claims k.Case = none
claims k.Nil = dirty
claims k.If = dirty
claims k.Match = dirty
claims k.Absurd = dirty
claims k.Apply = dirty
claims k.Val = dirty
claims k.Call = dirty
claims k.Let = dirty
claims k.LetRec = dirty
claims k.With = dirty

-- how high a type nests: one that names no type is 1
abbrev pub height : Ty → ℕ
height (ground g) = 1
height (fun A B d) = 1 + max (height A) (height B)
height (instance e R) = 1
height (hand A d B e) = 1 + max (height A) (height B)

-- at most 8 effects of at most 4 operations, which take and give ground types
pub record OperationRange (o : Operation) : Type 0 where
  pub effect : o.effect < 8
  pub op : o.op < 4
  pub takes : o.takes < 4
  pub gives : o.gives < 4

-- a column without a use is 0: d of a function, d and e of an instance type
pub record Unused (t : TypeRow) : Type 0 where
  pub function : t.kind ≡ 4 → t.d ≡ 0
  pub instance : t.kind ≡ 5 → (t.d ≡ 0) × (t.e ≡ 0)

module _ (l : Listing) where
  abbrev T : Tables
  T = tables_of l

  abbrev D : Dirts
  D = sets T

  -- the effect has an operation
  abbrev pub InstanceRange : Instance → Type 0
  InstanceRange i = Effect T i.effect

  -- the row names smaller types, declared calls and instances of a declared effect, and nests at most 12 high
  pub record TypeRange (n : ℕ) (t : TypeRow) : Type 0 where
    pub order : InOrder T D n (listed_type t)
    pub unused : Unused t
    pub low : height (type T n) ≤ 12

  -- n is the number of a function type
  abbrev pub FunctionType : ℕ → Type 0
  FunctionType n = (first_type ≤ n) × Listed T n × ((slice_index_or l.types (n - first_type) (type_of [])).kind ≡ 4)

  -- a value of a column, e being the part's column a; an effect is judged with its operation, and a variable's place is not looked at here
  abbrev pub InColumn : Column → ℕ → ℕ → Type 0
  InColumn c.unused e v = v ≡ 0
  InColumn c.place e v = Unit {0}
  InColumn c.truth e v = v < 2
  InColumn c.count e v = v < 2 ^ 32
  InColumn c.instance e v = v < length l.instances
  InColumn c.type e v = Listed T v
  InColumn c.function_type e v = FunctionType v
  InColumn c.effect e v = Unit {0}
  InColumn c.operation e v = Declares T e v

  -- the columns a and b of a part of this kind
  abbrev pub Columns : Kind → ℕ → ℕ → Type 0
  Columns kind a b = InColumn (table kind).a a a × InColumn (table kind).b a b

  -- the columns type and dirt
  abbrev pub Claim : Claims → ℕ → ℕ → Type 0
  Claim pure n d = Listed T n × (d ≡ 0)
  Claim dirty n d = Listed T n × Known T D d
  Claim none n d = (n ≡ 0) × (d ≡ 0)

  pub record PartRange (p : PartRow) : Type 0 where
    pub kind : Kind
    pub numbered : kinded p.kind ≡ Some kind
    pub columns : Columns kind p.a p.b
    pub claim : Claim (claims kind) p.ty p.dirt

  -- the row of a table is in range
  abbrev pub InRange : Which → ℕ → Type 0
  InRange operations r = OperationRange (slice_index_or l.operations r (operation_of []))
  InRange instances r = InstanceRange (slice_index_or l.instances r (instance_of []))
  InRange types r = TypeRange (first_type + r) (slice_index_or l.types r (type_of []))
  InRange parts r = PartRange (slice_index_or l.parts r (part_of []))

  -- all rows of a table are in range
  abbrev pub Within : Which → Type 0
  Within w = (r : ℕ) → r < count l w → InRange w r

  -- every row is in range
  pub record AllInRange : Type 0 where
    pub operations : Within operations
    pub instances : Within instances
    pub types : Within types
    pub parts : Within parts

  -- a row of this table is out of range
  pub data RowFault (w : Which) (line : ℕ) : Type 0 where
    row : (r : ℕ) → r < count l w → (InRange w r → ⊥) → line ≡ row_line (count l) w r → RowFault w line

  -- a row of the first three tables is out of range
  abbrev pub ColumnFault : ℕ → Type 0
  ColumnFault line = RowFault operations line ⊎ (RowFault instances line ⊎ RowFault types line)

  -- a part is out of range
  abbrev pub PartFault : ℕ → Type 0
  PartFault line = RowFault parts line

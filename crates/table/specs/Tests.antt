-- Whether rows are in range, as tests.
use Rattle.std.specs.Prelude.{ℕ, suc, ◌+◌, ◌-◌, ◌^◌, Bool, true, false, cond, ◌&&◌, List, [], ◌∷◌, length, Some, None, Option, ◌==◌, bit_or, nat_le, nat_lt, slice_index_or}
use Rattle.eff.specs.Tables.{declared, type}
use Rattle.eff.specs.Sets.{inside}
use Rattle.eff.specs.Dirt.{sets}
use Rattle.eff.specs.Kinds.{kinded, table, Column}
use Rattle.eff.specs.Kinds as c
use Rattle.eff.specs.declared.kind.Kind.{Kind}
use Rattle.sheet.specs.declared.rows.Operation.{Operation}
use Rattle.sheet.specs.declared.rows.Instance.{Instance}
use Rattle.sheet.specs.declared.rows.TypeRow.{TypeRow}
use Rattle.sheet.specs.declared.rows.PartRow.{PartRow}
use Rattle.sheet.specs.Rows.{Listing, type_of, first_type}
use Rattle.table.specs.Meant.{tables_of}
use Rattle.table.specs.Ranges.{height, Claims, pure, dirty, none, claims}

abbrev pub operation_ok : Operation → Bool
operation_ok o = nat_lt o.effect 8 && (nat_lt o.op 4 && (nat_lt o.takes 4 && nat_lt o.gives 4))

-- some operation is of the effect
abbrev pub has_effect : List Operation → ℕ → Bool
has_effect [] e = false
has_effect (o ∷ os) e = cond (o.effect == e) true (has_effect os e)

-- the instances of an effect as a region, the first row being instance i
abbrev pub instances_of : ℕ → ℕ → List Instance → ℕ
instances_of e i [] = 0
instances_of e i (x ∷ xs) = bit_or (cond (x.effect == e) (2 ^ i) 0) (instances_of e (suc i) xs)

module _ (l : Listing) where
  abbrev pub instance_ok : Instance → Bool
  instance_ok i = has_effect l.operations i.effect

  -- a set of declared calls
  abbrev pub dirt_ok : ℕ → Bool
  dirt_ok d = inside d (sets (tables_of l)).all

  abbrev pub function_ok : ℕ → TypeRow → Bool
  function_ok n t = nat_lt t.a n && (nat_lt t.b n && (t.d == 0 && dirt_ok t.e))

  abbrev pub region_ok : TypeRow → Bool
  region_ok t = has_effect l.operations t.a && (inside t.b (instances_of t.a 0 l.instances) && (t.d == 0 && t.e == 0))

  abbrev pub handler_ok : ℕ → TypeRow → Bool
  handler_ok n t = nat_lt t.a n && (nat_lt t.b n && (dirt_ok t.d && dirt_ok t.e))

  -- the columns of the row of number n, by kind
  abbrev pub columns_ok : ℕ → TypeRow → Bool
  columns_ok n t = cond (t.kind == 4) (function_ok n t) (cond (t.kind == 5) (region_ok t) (cond (t.kind == 6) (handler_ok n t) false))

  abbrev pub type_ok : ℕ → TypeRow → Bool
  type_ok n t = columns_ok n t && nat_le (height (type (tables_of l) n)) 12

  -- n is the number of a type
  abbrev pub listed_ok : ℕ → Bool
  listed_ok n = nat_lt n (first_type + length l.types)

  abbrev pub function_type_ok : ℕ → Bool
  function_type_ok n = nat_le first_type n && (listed_ok n && (slice_index_or l.types (n - first_type) (type_of [])).kind == 4)

  abbrev pub column_ok : Column → ℕ → ℕ → Bool
  column_ok c.unused e v = v == 0
  column_ok c.place e v = true
  column_ok c.truth e v = nat_lt v 2
  column_ok c.count e v = nat_lt v (2 ^ 32)
  column_ok c.instance e v = nat_lt v (length l.instances)
  column_ok c.type e v = listed_ok v
  column_ok c.function_type e v = function_type_ok v
  column_ok c.effect e v = true
  column_ok c.operation e v = declared (tables_of l).operations e v

  abbrev pub use_ok : Kind → ℕ → ℕ → Bool
  use_ok k a b = column_ok (table k).a a a && column_ok (table k).b a b

  abbrev pub claim_ok : Claims → ℕ → ℕ → Bool
  claim_ok pure n d = listed_ok n && d == 0
  claim_ok dirty n d = listed_ok n && dirt_ok d
  claim_ok none n d = n == 0 && d == 0

  abbrev pub kind_ok : Option Kind → PartRow → Bool
  kind_ok None p = false
  kind_ok (Some k) p = use_ok k p.a p.b && claim_ok (claims k) p.ty p.dirt

  abbrev pub part_ok : PartRow → Bool
  part_ok p = kind_ok (kinded p.kind) p

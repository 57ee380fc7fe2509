-- The table of the kinds of parts.
use Rattle.std.specs.Prelude.{ℕ, List, [], ◌∷◌, map, Option, Result}
use Rattle.eff.specs.Numbers as numbers
use Rattle.eff.specs.Sorts.{Sort, expr, list, comp}
use Rattle.eff.specs.declared.number.NoSuchNumber.{NoSuchNumber}
use Rattle.eff.specs.declared.sort.Sort.{Sort as SortName}
use Rattle.eff.specs.declared.sort.Sort.TheVariants.{Expression, Cases, Computation}
use Rattle.eff.specs.declared.sort.Child.{Child as ChildRow}
use Rattle.eff.specs.declared.kind.Kind.{Kind}
use Rattle.eff.specs.declared.kind.Kind.TheVariants.{Variable, Truth, Numeral, Successor, Unit, Instance, Function, Handler, Case, Nil, If, Match, Absurd, Apply, Val, Call, Let, LetRec, With}

-- A child: its sort, and how many more names it stands under than its parent.
pub record Child : Type 0 where
  pub sort : Sort
  pub names : ℕ

abbrev pub under : ℕ → Sort → Child
under n s = record { sort = s; names = n }

-- What a column of a part holds, each by its number: nothing, a variable's place, 0 or 1 for a truth, a count, a declared instance, a type, a type that is a
-- function type, a declared effect, or an operation of the effect in the other column.
pub data Column : Type 0 where
  unused place truth count instance type function_type effect operation : Column

-- What a kind is: its number, its sort, its columns a and b, and its children in order.
pub record Row : Type 0 where
  pub number : ℕ
  pub sort : Sort
  pub a : Column
  pub b : Column
  pub children : List Child

abbrev pub row : ℕ → Sort → Column → Column → List Child → Row
row n s a b cs = record { number = n; sort = s; a = a; b = b; children = cs }

abbrev pub table : Kind → Row
table Variable = row 0 expr place unused []
table Truth = row 1 expr truth unused []
table Numeral = row 2 expr count unused []
table Successor = row 3 expr unused unused (under 0 expr ∷ [])
table Unit = row 4 expr unused unused []
table Instance = row 5 expr instance unused []
table Function = row 6 expr type unused (under 1 comp ∷ [])
table Handler = row 7 expr type unused (under 1 comp ∷ under 0 list ∷ [])
table Case = row 8 list effect operation (under 0 expr ∷ under 2 comp ∷ under 0 list ∷ [])
table Nil = row 9 list unused unused []
table If = row 10 comp unused unused (under 0 expr ∷ under 0 comp ∷ under 0 comp ∷ [])
table Match = row 11 comp unused unused (under 0 expr ∷ under 0 comp ∷ under 1 comp ∷ [])
table Absurd = row 12 comp unused unused (under 0 expr ∷ [])
table Apply = row 13 comp unused unused (under 0 expr ∷ under 0 expr ∷ [])
table Val = row 14 comp unused unused (under 0 expr ∷ [])
table Call = row 15 comp effect operation (under 0 expr ∷ under 0 expr ∷ under 1 comp ∷ [])
table Let = row 16 comp unused unused (under 0 comp ∷ under 1 comp ∷ [])
table LetRec = row 17 comp function_type unused (under 2 comp ∷ under 1 comp ∷ [])
table With = row 18 comp unused unused (under 0 expr ∷ under 0 comp ∷ [])

abbrev pub number : Kind → ℕ
number k = (table k).number

-- all kinds
abbrev pub kinds : List Kind
kinds = Variable ∷ Truth ∷ Numeral ∷ Successor ∷ Unit ∷ Instance ∷ Function ∷ Handler ∷ Case ∷ Nil ∷ If ∷ Match ∷ Absurd ∷ Apply ∷ Val ∷ Call
    ∷ Let ∷ LetRec ∷ With ∷ []

-- the kind that has the number n
abbrev pub kinded : ℕ → Option Kind
kinded n = numbers.numbered number kinds n

-- the kind that has the number n, or that none has
abbrev pub by_number : ℕ → Result Kind NoSuchNumber
by_number n = numbers.by_number number kinds n

-- the sort that a sort of the code names
abbrev pub sort_of : SortName → Sort
sort_of Expression = expr
sort_of Cases = list
sort_of Computation = comp

-- the child that one of the code is
abbrev pub child_of : ChildRow → Child
child_of c = under c.names (sort_of c.sort)

-- for each child of a part of this kind, how many more names it stands under
abbrev pub names : Kind → List ℕ
names k = map (λ (c : Child). c.names) (table k).children

-- the sort of each child
abbrev pub sorts : Kind → List Sort
sorts k = map (λ (c : Child). c.sort) (table k).children

-- Whether a sheet's parts are one closed computation within the limit on names, or the first refusal with its line.
use Rattle.std.specs.Prelude.{ℕ, zero, suc, ◌+◌, Bool, true, cond, ◌&&◌, List, [], ◌∷◌, ◌++◌, Some, None, Ok, Err, Option, ◌==◌, nat_lt}
use Rattle.fault.specs.declared.shape.ShapeFault.{ShapeFault}
use Rattle.fault.specs.declared.shape.ShapeFault.TheVariants as faults
use Rattle.eff.specs.Sorts.{Sort, comp, same}
use Rattle.eff.specs.Kinds.{Child, table, number, kinded}
use Rattle.eff.specs.declared.kind.Kind.{Kind}
use Rattle.eff.specs.declared.kind.Kind.TheVariants.{Variable}
use Rattle.sheet.specs.Rows.{Listing}
use Rattle.sheet.specs.Faults.{parts, count, row_line}
use Rattle.fault.specs.Search.{Verdict, refused, First, NoLine}
use Rattle.shape.specs.Entries.{Entry}
use Rattle.shape.specs.Faults.{saying, Whole, TermFault, NamesFault}

-- A place still to be filled: the sort of what stands there, and the number of names that it stands under.
pub record Want : Type 0 where
  pub sort : Sort
  pub names : ℕ

abbrev pub want : Sort → ℕ → Want
want s n = record { sort = s; names = n }

-- k more than n
abbrev pub more : ℕ → ℕ → ℕ
more zero n = n
more (suc k) n = suc (more k n)

-- the places of these children, their parent standing under n names
abbrev pub below : ℕ → List Child → List Want
below n [] = []
below n (c ∷ cs) = want c.sort (more c.names n) ∷ below n cs

-- a variable's place is below the number of names that it stands under
abbrev pub in_scope : Kind → ℕ → ℕ → Bool
in_scope k a n = cond (number k == number Variable) (nat_lt a n) true

-- the places of its children, where a part of this kind, with this column a, can stand in the place w: it has a kind, the kind's sort is the
-- place's, and a variable is in scope
abbrev pub filling : Want → ℕ → Option Kind → Option (List Want)
filling w a None = None
filling w a (Some k) = cond (same (table k).sort w.sort && in_scope k a w.names) (Some (below w.names (table k).children)) None

-- the same for what is said of a part
abbrev pub standing : Want → Entry → Option (List Want)
standing w e = filling w e.a (kinded e.kind)

-- the first line under more than 256 names, once a part that stands under n has come at this line
abbrev pub noted : Option ℕ → ℕ → ℕ → Option ℕ
noted (Some first) n line = Some first
noted None n line = cond (nat_lt 256 n) (Some line) None

-- all places are filled: the verdict by the first line under more than 256 names
abbrev pub ended : Option ℕ → Verdict ShapeFault
ended None = Ok tt
ended (Some line) = refused line faults.Names

-- what follows an entry: refusal 6 at its line where it cannot stand
abbrev pub next : Option (List Want) → ℕ → (List Want → Verdict ShapeFault) → Verdict ShapeFault
next None line on = refused line faults.Term
next (Some vs) line on = on vs

-- entries fill the wanted places one after another, the first entry at this line
abbrev pub shape : Option ℕ → List Want → ℕ → List Entry → Verdict ShapeFault
shape crowd [] line [] = ended crowd
shape crowd [] line (e ∷ es) = refused line faults.Term
shape crowd (w ∷ ws) line [] = refused line faults.Term
shape crowd (w ∷ ws) line (e ∷ es) = next (standing w e) line (λ vs. shape (noted crowd w.names line) (vs ++ ws) (line + 1) es)

-- the rows of the parts as one closed computation
abbrev pub answer : Listing → Verdict ShapeFault
answer l = shape None (want comp 0 ∷ []) (row_line (count l) parts 0) (saying l)

-- what a refusal of each kind means for these rows
abbrev pub Refused : Listing → ℕ → ShapeFault → Type 0
Refused l line (faults.Table f) = ⊥
Refused l line faults.Term = (Whole l → ⊥) × First (TermFault l) line
Refused l line faults.Names = Whole l × First (NamesFault l) line

-- what an answer means for these rows
abbrev pub Answered : Listing → Verdict ShapeFault → Type 0
Answered l (Ok u) = Whole l × NoLine (NamesFault l)
Answered l (Err e) = Refused l e.line e.fault

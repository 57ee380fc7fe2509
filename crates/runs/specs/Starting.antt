-- The start of a run.
use Rattle.std.specs.Prelude.{◌≡◌, ℕ, cond, [], length, Ok, None}
use Rattle.fault.specs.Search.{Verdict, refused}
use Rattle.fault.specs.declared.start.StartFault.{StartFault}
use Rattle.fault.specs.declared.start.StartFault.TheVariants.{Unready}
use Rattle.host.specs.Meaning.{Replies, Known}
use Rattle.sheet.specs.Rows.{Listing}
use Rattle.table.specs.Meant.{tables_of}
use Rattle.claim.specs.Recipes.{listed_term}
use Rattle.machine.specs.Calls.{ready, made}
use Rattle.machine.specs.Views.{View, view_of}
use Rattle.machine.specs.Uses.{Use}

-- refusal 9 at line 0 where a recipe of so many parts cannot run in slabs of these lengths
abbrev pub tested : (size first second : ℕ) → Verdict StartFault
tested size first second = cond (ready size first second) (Ok tt) (refused 0 Unready)

-- the view of a run as it is made, from the rows of its recipe and the lengths of its slabs: an advance by 0, over any host
abbrev pub making : Listing → (first second : ℕ) → View
making l first second = view_of l first second (made (tables_of l) (length l.parts) (listed_term l) first second (λ qs q. None))

-- a use begins with these rows, slab lengths and meaning, and no allowance yet
pub record Begins (l : Listing) (first second : ℕ) (m : Replies) (k : Known) (u : Use) : Type 0 where
  pub recipe : u.recipe ≡ l
  pub first_is : u.first ≡ first
  pub second_is : u.second ≡ second
  pub replies : u.replies ≡ m
  pub known : u.known ≡ k
  pub allowances : u.allowances ≡ []

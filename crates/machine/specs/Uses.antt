-- A use of a recipe: what a run's report, questions and computation come from, and what is guaranteed at every use.
use Rattle.std.specs.Prelude.{◌≡◌, ℕ, ◌<◌, min, true, false, ◌⊎◌, List, ◌∷◌, length}
use Rattle.eff.specs.Dirt.{sets}
use Rattle.eff.specs.Safety.{AllProper}
use Rattle.eff.specs.declared.question.Question.{Question}
use Rattle.host.specs.Meaning.{Replies, Known, SameKnown, Lawful, Alike}
use Rattle.sheet.specs.Rows.{Listing}
use Rattle.table.specs.Meant.{tables_of}
use Rattle.claim.specs.Recipes.{listed_term}
use Rattle.recipe.specs.Admitted.{Admitted, claimed}
use Rattle.machine.specs.Turns.{Gone, after_all}
use Rattle.machine.specs.Calls.{ready, unmade, total, called}
use Rattle.machine.specs.Guarantee.{StandsWell}
use Rattle.machine.specs.Ends.{Ran}
use Rattle.machine.specs.Views.{View, view_of, report, computation}

-- A recipe by its rows, which are admitted unless there are none; the lengths of the two slabs; a lawful meaning, that of the host at the making;
-- and the allowances so far, the latest first.
pub record Use : Type 0 where
  pub recipe : Listing
  pub sound : 0 < length recipe.parts → Admitted recipe
  pub first : ℕ
  pub second : ℕ
  pub replies : Replies
  pub known : Known
  pub lawful : Lawful replies known
  pub allowances : List ℕ

-- the use after an advance by n
abbrev pub more : Use → ℕ → Use
more u n = record {
  recipe = u.recipe;
  sound = u.sound;
  first = u.first;
  second = u.second;
  replies = u.replies;
  known = u.known;
  lawful = u.lawful;
  allowances = n ∷ u.allowances;
}

-- how many parts the recipe has
abbrev pub size_of : Use → ℕ
size_of u = length u.recipe.parts

abbrev pub room_of : Use → ℕ
room_of u = min u.first u.second

-- how far the run has gone
abbrev pub gone : Use → Gone
gone u = called (tables_of u.recipe) (size_of u) (listed_term u.recipe) u.first u.second u.replies u.allowances

-- the view of the run
abbrev pub view : Use → View
view u = view_of u.recipe u.first u.second (gone u)

-- the questions put so far
abbrev pub put_so_far : Use → List Question
put_so_far u = (gone u).put

-- what the host means now
abbrev pub replies_now : Use → Replies
replies_now u = after_all (put_so_far u) u.replies

-- A run with this view and a host with this meaning stand at a use.
pub record Stands (u : Use) (v : View) (m : Replies) (k : Known) : Type 0 where
  pub seen : v ≡ view u
  pub means : Alike m (replies_now u)
  pub knows : SameKnown u.known k

-- the run was refused by the test before a start: it has no computation and no question, and takes no step
pub record Unmade (u : Use) : Type 0 where
  pub refused : ready (size_of u) u.first u.second ≡ false
  pub none : gone u ≡ unmade

-- The run of a recipe that is ready: its term reaches the computation by the report's steps, with the questions put (a refused one appended), and
-- the run rests there for a reason; no other run is so related to the term, the room, the replies and the sum of the allowances; it stands well.
pub record Made (u : Use) : Type 0 where
  pub ready_made : ready (size_of u) u.first u.second ≡ true
  pub ran : Ran (tables_of u.recipe) (room_of u) u.replies (listed_term u.recipe) (total u.allowances) (gone u)
  pub only : (g : Gone) → Ran (tables_of u.recipe) (room_of u) u.replies (listed_term u.recipe) (total u.allowances) g → g ≡ gone u
  pub stands : StandsWell (tables_of u.recipe) (claimed u.recipe).0 (claimed u.recipe).1 (room_of u) (gone u).computation (gone u).steps
      (gone u).state

-- Two uses of one recipe with slabs equally long, over hosts of any kind that replied alike at the makings, with allowances of one sum.
pub record Comparable (u u' : Use) : Type 0 where
  pub recipe : u.recipe ≡ u'.recipe
  pub first : u.first ≡ u'.first
  pub second : u.second ≡ u'.second
  pub replies : Alike u.replies u'.replies
  pub sum : total u.allowances ≡ total u'.allowances

-- equal reports, the same questions in order, the same computation, and the hosts as they now are still reply alike
pub record Same (u u' : Use) : Type 0 where
  pub reports : report (view u) ≡ report (view u')
  pub questions : put_so_far u ≡ put_so_far u'
  pub computations : computation (view u) ≡ computation (view u')
  pub replies : Alike (replies_now u) (replies_now u')

-- The guarantee at a use.
pub record Guaranteed (u : Use) : Type 0 where
  -- refused by the test, done with a value of the claimed type, stopped at a call of the claimed dirt, full, at its limit, or paused before a step
  -- or a call of that dirt
  pub state : Unmade u ⊎ Made u
  -- every question put so far names a call of the claimed dirt, with an argument of the call's taken type
  pub proper : AllProper (tables_of u.recipe) (sets (tables_of u.recipe)) (claimed u.recipe).1 (put_so_far u)
  -- the report, the questions and the computation come from the recipe, the slab lengths, the host's replies and the sum of the allowances alone
  pub alike : (u' : Use) → Comparable u u' → Same u u'

abbrev pub EveryUseIsGuaranteed : Type 0
EveryUseIsGuaranteed = (u : Use) → Guaranteed u

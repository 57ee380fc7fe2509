-- How a run is as it is made.
use Rattle.std.proofs.Common.{◌≡◌, ℕ, ◌<◌, ◌≤◌, min, max, Bool, true, false, List, [], ◌++◌, length, take, None, sym, refl, ap, ◌∙◌, subst, arith, length-take-le}
use Rattle.std.proofs.lemmas.Bool.Decides.{nat_tests}
use Rattle.eff.specs.Sorts.{comp}
use Rattle.eff.specs.Syntax.{Term, val, unit, flatten, size as size_of}
use Rattle.eff.specs.Tables.{Tables}
use Rattle.eff.specs.Dirt.{sets}
use Rattle.eff.specs.Claims.{HasType}
use Rattle.eff.specs.Outcome.{step}
use Rattle.eff.specs.Spelling.{term_of, Whole}
use Rattle.eff.specs.declared.part.Part.{Part}
use Rattle.eff.proofs.Spelling.{parts_whole, whole_parts}
use Rattle.host.specs.Meaning.{Replies, Known, Lawful}
use Rattle.sheet.specs.Rows.{Listing}
use Rattle.table.specs.Meant.{tables_of}
use Rattle.claim.specs.Recipes.{parts_of, listed_term}
use Rattle.recipe.specs.Admitted.{Admitted, claimed}
use Rattle.recipe.specs.Readers.{rows, size}
use Rattle.recipe.specs.declared.recipe.Recipe.{Recipe}
use Rattle.recipe.proofs.Admitted.{whole, typed, admitted}
use Rattle.machine.specs.declared.report.State.{State}
use Rattle.machine.specs.Turns.{Gone, rest, turn, rests, going, only_if}
use Rattle.machine.specs.Calls.{ready, unmade, made, called}
use Rattle.machine.specs.Views.{View, view_of}
use Rattle.machine.specs.Uses.{Use, gone, Stands}
use Rattle.machine.proofs.Going.{Turned, ended, spent, turned, at_zero, with_none}
use Rattle.runs.specs.Running.{Running}
use Rattle.runs.specs.Starting.{making, Begins}

abbrev mute : Replies
mute = λ qs q. None

-- the making asks nothing, so any host serves
same_made : (T : Tables) (n : ℕ) (c : Term comp) (f s : ℕ) (m m' : Replies) → made T n c f s m ≡ made T n c f s m'
same_made T n c f s m m' = by (ready n f s)
  where
    by : (b : Bool) → only_if b unmade (λ _. going T (min f s) 0 m 0 c) ≡ only_if b unmade (λ _. going T (min f s) 0 m' 0 c)
    by true = with_none T (min f s) m m' 0 c
    by false = refl

none_put : (T : Tables) (room : ℕ) (m : Replies) (c : Term comp) → Turned T room 0 (step T c) → (going T room 0 m 0 c).put ≡ []
none_put T room m c (ended s f e e') = ap (λ (g : Gone). g.put) (at_zero T room m 0 c s e)
none_put T room m c (spent e) = ap (λ (g : Gone). g.put) (at_zero T room m 0 c _ e)

made_put : (T : Tables) (n : ℕ) (c : Term comp) (f s : ℕ) (m : Replies) → (made T n c f s m).put ≡ []
made_put T n c f s m = by (ready n f s)
  where
    by : (b : Bool) → (only_if b unmade (λ _. going T (min f s) 0 m 0 c)).put ≡ []
    by true = none_put T (min f s) m c (turned T (min f s) 0 (step T c))
    by false = refl

-- a run as it is made stands at every use that begins with it
pub begun_stands : (l : Listing) (f s : ℕ) (v : View) → v ≡ making l f s → (m : Replies) (k : Known) (u : Use) → Begins l f s m k u → Stands u v m k
begun_stands l f s v is m k u b =
    let g : gone u ≡ made (tables_of l) (length l.parts) (listed_term l) f s m =
    λ i. called (tables_of (b.recipe i)) (length (b.recipe i).parts) (listed_term (b.recipe i)) (b.first_is i) (b.second_is i) (b.replies i) (b.allowances i) in
    record {
      seen = is ∙ ap (view_of l f s) (same_made (tables_of l) (length l.parts) (listed_term l) f s mute m ∙ sym g)
          ∙ (λ i. view_of (sym b.recipe i) (sym b.first_is i) (sym b.second_is i) (gone u));
      means = record {
        same = λ qs q. ap (λ (r : Replies). r qs q) (sym b.replies)
            ∙ ap (λ x. u.replies (x ++ qs) q) (sym (ap (λ (x : Gone). x.put) g ∙ made_put (tables_of l) (length l.parts) (listed_term l) f s m));
      };
      knows = λ c. ap (λ (x : Known). x c) (sym b.known);
    }

pub some_use : (r : Recipe) (f s : ℕ) (m : Replies) (k : Known) → Lawful m k → (u : Use) × Begins (rows r) f s m k u
some_use r f s m k lw = (
  record { recipe = rows r; sound = λ h. admitted r (λ e. omega (arith, h, e)); first = f; second = s; replies = m; known = k; lawful = lw; allowances = [] },
  record { recipe = refl; first_is = refl; second_is = refl; replies = refl; known = refl; allowances = refl },
)

-- the view of a run made against the test
pub unready_view : (l : Listing) (f s : ℕ) → ready (length l.parts) f s ≡ false → view_of l f s unmade ≡ making l f s
unready_view l f s e = ap (λ b. view_of l f s (only_if b unmade (λ _. going (tables_of l) (min f s) 0 mute 0 (listed_term l)))) (sym e)

-- and of one that is ready, which rests in a state
pub ready_view : (l : Listing) (f s : ℕ) (st : State) → ready (length l.parts) f s ≡ true → turn (tables_of l) (min f s) true 0 (listed_term l) ≡ rests st
    → view_of l f s (rest st 0 (listed_term l)) ≡ making l f s
ready_view l f s st e t =
    ap (view_of l f s) (sym (at_zero (tables_of l) (min f s) mute 0 (listed_term l) st t))
    ∙ ap (λ b. view_of l f s (only_if b unmade (λ _. going (tables_of l) (min f s) 0 mute 0 (listed_term l)))) (sym e)

-- what the test says
pub record Roomy (n f s : ℕ) : Type 0 where
  pub some : 0 < n
  pub room : n ≤ min f s
  pub long : max f s ≤ 16384

pub roomy : (n f s : ℕ) → ready n f s ≡ true → Roomy n f s
roomy n f s e = record { some = grind (arith, nat_tests); room = grind (arith, nat_tests); long = grind (arith, nat_tests) }

module _ (r : Recipe) (n : 0 < size r) where
  a : Admitted (rows r)
  a = admitted r (λ e. omega (arith, n, e))

  -- the parts of a recipe are a computation's, of the claimed type
  pub recipe_whole : (ps : List Part) → ps ≡ parts_of (rows r) → Whole ps
  recipe_whole ps e = parts_whole ps (listed_term (rows r)) (e ∙ sym (whole (rows r) a))

  pub recipe_runs : (ps : List Part) → ps ≡ parts_of (rows r) → Running (rows r) ps
  recipe_runs ps e = record { some = n; whole = recipe_whole ps e; typed = subst (λ qs. Typed qs) (sym e) (typed (rows r) a) }
    where
      Typed : List Part → Type 0
      Typed qs = HasType (tables_of (rows r)) (sets (tables_of (rows r))) comp (term_of qs) (claimed (rows r))

-- parts of a computation that open a slab
pub opens_so : (slab : List Part) (n : ℕ) → n ≤ length slab → Whole (take n slab) → take (size_of (term_of (take n slab))) slab ≡ flatten (term_of (take n slab))
opens_so slab n h w =
    let e = whole_parts (take n slab) w in
    ap (λ k. take k slab) (sym (ap length e) ∙ length-take-le n slab h) ∙ e

-- no parts stand for a val of unit
pub no_parts : (slab : List Part) → term_of (take 0 slab) ≡ val unit
unfolding term_of
no_parts slab = refl

-- Every use is guaranteed, and calls lead from use to use.
use Rattle.std.proofs.Common.{◌≡◌, ℕ, zero, suc, ◌<◌, ◌≤◌, min, max, Bool, true, false, cond, not, ◌&&◌, ◌==◌, nat_le, ◌++◌, length, Some, None, sym, refl, ap, ◌∙◌, subst, ap₂, inl, inr, append_assoc, append-nil, add-zero, arith, length-append, leb-true}
use Rattle.std.proofs.lemmas.List.{length-map}
use Rattle.eff.specs.Sorts.{comp}
use Rattle.eff.specs.Syntax.{size}
use Rattle.eff.specs.Tables.{takes, gives}
use Rattle.eff.specs.Dirt.{sets}
use Rattle.eff.specs.Grounds.{grounded}
use Rattle.eff.specs.declared.ground.Ground.{Ground}
use Rattle.eff.specs.declared.ground.Ground.TheVariants as g
use Rattle.eff.specs.Checked.{Checked}
use Rattle.eff.specs.Claims.{HasType}
use Rattle.eff.specs.Safety.{AllProper}
use Rattle.host.specs.Meaning.{Replies, Known, SameKnown, Alike}
use Rattle.sheet.specs.Rows.{Listing}
use Rattle.table.specs.Meant.{tables_of}
use Rattle.claim.specs.Recipes.{row_part, listed_term}
use Rattle.recipe.specs.Admitted.{Admitted, claimed}
use Rattle.recipe.proofs.Admitted.{whole, checked, typed, ground}
use Rattle.machine.specs.Turns.{Gone, going, only_if, paused, having_put, after_all, rest}
use Rattle.machine.specs.Calls.{most, ready, unmade, total, called}
use Rattle.machine.specs.Ends.{Ran}
use Rattle.machine.specs.Views.{View, view_of, begun, onward, gone_to, advance_view, questions}
use Rattle.machine.specs.Uses.{Use, more, size_of, room_of, gone, view, put_so_far, replies_now, Stands, Comparable, Same, Guaranteed}
use Rattle.machine.proofs.Going.{same_going}
use Rattle.machine.proofs.Calling.{by_sum, same_called}
use Rattle.machine.proofs.Keeping.{GroundSignatures, Kept, keeps}
use Rattle.machine.proofs.Determining.{only}

-- what an admitted sheet supplies for a run
pub record Supplied (l : Listing) : Type 0 where
  pub checked : Checked (tables_of l) (sets (tables_of l))
  pub typed : HasType (tables_of l) (sets (tables_of l)) comp (listed_term l) (claimed l)
  pub ground : GroundSignatures (tables_of l)

a_ground : (n : ℕ) → n < 4 → (g : Ground) × (grounded n ≡ Some g)
a_ground zero h = (g.Bool, refl)
a_ground (suc zero) h = (g.Nat, refl)
a_ground (suc (suc zero)) h = (g.Unit, refl)
a_ground (suc (suc (suc zero))) h = (g.Empty, refl)
a_ground (suc (suc (suc (suc n)))) h = absurd (omega arith)

supply : (l : Listing) → Admitted l → Supplied l
supply l a = record {
  checked = checked l a;
  typed = typed l a;
  ground = record {
    taken = λ e op d. a_ground (takes (tables_of l) e op) (ground l a.ranges e op).0;
    given = λ e op d. a_ground (gives (tables_of l) e op) (ground l a.ranges e op).1;
  };
}

some_parts : (n f s : ℕ) → ready n f s ≡ true → 0 < n
some_parts zero f s e = absurd (let z : ◌≡◌ {A = Bool} false true = e in let o : ◌≡◌ {A = ℕ} 0 1 = cc in omega arith)
some_parts (suc n) f s e = omega arith

-- the room holds the recipe
holds : (n f s : ℕ) → ready n f s ≡ true → n ≤ min f s
holds n f s e = leb-true n (min f s) (second (n == 0) (nat_le n (min f s)) (nat_le (max f s) most) e)
  where
    second : (a b c : Bool) → not a && (b && c) ≡ true → b ≡ true
    second a true c h = refl
    second true false c h = h
    second false false c h = h

fits_room : (u : Use) → Admitted u.recipe → ready (size_of u) u.first u.second ≡ true → size (listed_term u.recipe) ≤ room_of u
fits_room u a e = omega (arith, holds (size_of u) u.first u.second e, ap length (whole u.recipe a), length-map u.recipe.parts row_part)

-- by the test
gone_is : (u : Use) (b : Bool) → ready (size_of u) u.first u.second ≡ b
    → gone u ≡ only_if b unmade (λ _. going (tables_of u.recipe) (room_of u) (total u.allowances) u.replies 0 (listed_term u.recipe))
gone_is u b e =
    by_sum (tables_of u.recipe) (size_of u) (listed_term u.recipe) u.first u.second u.replies u.allowances
    ∙ ap (λ b. only_if b unmade (λ _. going (tables_of u.recipe) (room_of u) (total u.allowances) u.replies 0 (listed_term u.recipe))) e

abbrev KeptAt : Use → Gone → Type 0
KeptAt u g = Kept (tables_of u.recipe) (claimed u.recipe).0 (claimed u.recipe).1 (room_of u) u.replies (listed_term u.recipe) (total u.allowances) g

kept_at : (u : Use) → ready (size_of u) u.first u.second ≡ true → KeptAt u (gone u)
kept_at u e =
    let a = u.sound (some_parts (size_of u) u.first u.second e) in
    let s = supply u.recipe a in
    subst (KeptAt u) (sym (gone_is u true e))
    (keeps (tables_of u.recipe) (claimed u.recipe).0 (claimed u.recipe).1 s.ground (room_of u) u.replies s.checked u.known u.lawful
    (listed_term u.recipe) s.typed (fits_room u a e) (total u.allowances))

only_at : (u : Use) → ready (size_of u) u.first u.second ≡ true → (g : Gone)
    → Ran (tables_of u.recipe) (room_of u) u.replies (listed_term u.recipe) (total u.allowances) g → g ≡ gone u
only_at u e g r = only (tables_of u.recipe) (room_of u) u.replies (listed_term u.recipe) (total u.allowances) g r ∙ sym (gone_is u true e)

same_gone : (u u' : Use) → Comparable u u' → gone u ≡ gone u'
same_gone u u' h =
    ap (λ l. called (tables_of l) (length l.parts) (listed_term l) u.first u.second u.replies u.allowances) h.recipe
    ∙ ap₂ (λ f s. called (tables_of u'.recipe) (size_of u') (listed_term u'.recipe) f s u.replies u.allowances) h.first h.second
    ∙ same_called (tables_of u'.recipe) (size_of u') (listed_term u'.recipe) u'.first u'.second u.replies u'.replies h.replies u.allowances u'.allowances h.sum

same_at : (u u' : Use) → Comparable u u' → Same u u'
same_at u u' h = let e = same_gone u u' h in record {
  reports = ap (λ (g : Gone). record { state = g.state; steps = g.steps; asked = length g.put }) e;
  questions = ap (λ (g : Gone). g.put) e;
  computations = ap (λ (g : Gone). cond (begun g.state) (Some g.computation) None) e;
  replies = record { same = λ qs q. h.replies.same (put_so_far u ++ qs) q ∙ ap (λ (g : Gone). u'.replies (g.put ++ qs) q) e };
}

guaranteed_by : (u : Use) (b : Bool) → ready (size_of u) u.first u.second ≡ b → Guaranteed u
guaranteed_by u true e = let k = kept_at u e in record {
  state = inr (record { ready_made = e; ran = k.ran; only = only_at u e; stands = k.stands });
  proper = k.proper;
  alike = same_at u;
}
guaranteed_by u false e = let g = gone_is u false e in record {
  state = inl (record { refused = e; none = g });
  proper = subst (λ (x : Gone). AllProper (tables_of u.recipe) (sets (tables_of u.recipe)) (claimed u.recipe).1 x.put) (sym g) tt;
  alike = same_at u;
}

pub every_use : (u : Use) → Guaranteed u
every_use u = guaranteed_by u (ready (size_of u) u.first u.second) refl

-- by what the run is seen to go to, over a host that now means m
gone_more : (u : Use) (n : ℕ) (m : Replies) → Alike m (replies_now u) → gone (more u n) ≡ having_put (put_so_far u) (onward m n (view u))
gone_more u n m h = by (paused (gone u).state)
  where
    by : (b : Bool)
        → only_if b (gone u) (λ _. having_put (put_so_far u) (going (tables_of u.recipe) (room_of u) n (replies_now u) (gone u).steps (gone u).computation))
        ≡ having_put (put_so_far u) (only_if b (rest (gone u).state (gone u).steps (gone u).computation) (λ _. going (tables_of u.recipe) (room_of u) n m (gone u).steps (gone u).computation))
    by true = ap (having_put (put_so_far u)) (sym (same_going (tables_of u.recipe) (room_of u) n m (replies_now u) h (gone u).steps (gone u).computation))
    by false = λ i. record { state = (gone u).state; steps = (gone u).steps; put = sym (append-nil (put_so_far u)) i; computation = (gone u).computation }

-- an advance leads from a use to the use extended by it
pub stands_more : (u : Use) (n : ℕ) (v v' : View) (m m' : Replies) (k k' : Known) → Stands u v m k → v' ≡ advance_view m n v
    → Alike m' (after_all (questions m n v) m) → SameKnown k k' → Stands (more u n) v' m' k'
stands_more u n v v' m m' k k' s is al kn =
    let g = gone_more u n m s.means in
    let o = onward m n (view u) in
    record {
      seen = is ∙ ap (advance_view m n) s.seen
          ∙ (λ i. record { recipe = u.recipe; shorter = (view u).shorter; longer = (view u).longer; state = o.state; steps = o.steps; asked = sym (length-append (put_so_far u) o.put) i; term = o.computation })
          ∙ ap (view_of u.recipe u.first u.second) (sym g);
      means = record {
        same = λ qs q. al.same qs q ∙ ap (λ (w : View). m (questions m n w ++ qs) q) s.seen ∙ s.means.same (o.put ++ qs) q
            ∙ ap (λ x. u.replies x q) (sym (append_assoc (put_so_far u) o.put qs)) ∙ ap (λ (x : Gone). u.replies (x.put ++ qs) q) (sym g);
      };
      knows = λ c. kn c ∙ s.knows c;
    }

-- an advance leaves a run that is not paused as it is
still_onward : (m : Replies) (n : ℕ) (v : View) → paused v.state ≡ false → onward m n v ≡ rest v.state v.steps v.term
still_onward m n v e = ap (λ b. only_if b (rest v.state v.steps v.term) (λ _. going (tables_of v.recipe) v.shorter n m v.steps v.term)) e

pub still_view : (m : Replies) (n : ℕ) (v : View) → paused v.state ≡ false → v ≡ advance_view m n v
still_view m n v e =
    (λ i. record { recipe = v.recipe; shorter = v.shorter; longer = v.longer; state = v.state; steps = v.steps; asked = sym (add-zero v.asked) i; term = v.term })
    ∙ ap (gone_to v) (sym (still_onward m n v e))

pub still_means : (m : Replies) (n : ℕ) (v : View) → paused v.state ≡ false → Alike m (after_all (questions m n v) m)
still_means m n v e = subst (λ (g : Gone). Alike m (after_all g.put m)) (sym (still_onward m n v e)) (record { same = λ qs q. refl })

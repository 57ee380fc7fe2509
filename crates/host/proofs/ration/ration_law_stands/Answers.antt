-- The law of the ration, from how it takes one question.
use Rattle.std.proofs.Common.{◌≡◌, ℕ, zero, suc, ◌<◌, ◌≤◌, Bool, true, false, List, [], ◌∷◌, length, Some, None, refl, ap, arith, rules}
use Rattle.eff.specs.declared.question.Question.{Question}
use Rattle.eff.specs.Questions.{Reply}
use Rattle.host.specs.Meaning.{Replies, Known, Lawful, Refusal, Alike, after}
use Rattle.host.specs.Rationing.{known_among, rationed, left_after, below_after, told, answered, answers}
use Rattle.host.proofs.ration.ration_law_stands.Goals as goal

-- A question that is refused and changes nothing.
abbrev Ignored : Replies → Question → Type 0
Ignored replies q = Refusal (replies [] q) × Alike (after q replies) replies

lawful : (below : Replies) (known : Known) (count : ℕ) → Lawful below known → Lawful (rationed below known count) known
lawful below known count h = search rules

unknown : (below : Replies) (known : Known) (count : ℕ) (q : Question) → known q.call ≡ false → Ignored (rationed below known count) q
unknown below known count q u = search rules

at_zero : (below : Replies) (known : Known) (q : Question) → Ignored (rationed below known 0) q
at_zero below known q = search rules

passes : (below : Replies) (known : Known) (count : ℕ) (q : Question) → known q.call ≡ true
    → (rationed below known (suc count) [] q ≡ below [] q)
    × Alike (after q (rationed below known (suc count))) (rationed (after q below) known count)
passes below known count q k = search rules

keeps : (below : Replies) (known : Known) (count : ℕ) (q : Question) → known q.call ≡ false
    → (left_after known count q ≡ count) × Alike (below_after known count q below) below
keeps below known count q u = search rules

keeps_at_zero : (below : Replies) (known : Known) (q : Question) → (left_after known 0 q ≡ 0) × Alike (below_after known 0 q below) below
keeps_at_zero below known q = search rules

spends : (below : Replies) (known : Known) (count : ℕ) (q : Question) → known q.call ≡ true
    → (left_after known (suc count) q ≡ count) × Alike (below_after known (suc count) q below) (after q below)
spends below known count q k = search rules

as_below : (below : Replies) (known : Known) (count : ℕ) (qs : List Question) (q : Question) → known q.call ≡ true
    → length (known_among known qs) < count
    → rationed below known count qs q ≡ below (known_among known qs) q
as_below below known count qs q k l = search rules

told_alike : (a b : Replies) → Alike a b → (qs : List Question) → told a qs ≡ told b qs
told_alike a b e [] = refl
told_alike a b e (q ∷ qs) =
    let first = e.same [] q in
    let rest = told_alike (after q a) (after q b) (record { same = λ ps. e.same (q ∷ ps) }) qs in
    cc

refused_counts : (r : Reply) → Refusal r → answered r ≡ 0
refused_counts (Some v) h = elim h [ ]
refused_counts None h = refl

counts_one : (r : Reply) → answered r ≤ 1
counts_one (Some v) = omega arith
counts_one None = omega arith

ignored_at_most : (replies : Replies) (count : ℕ) (q : Question) (qs : List Question) → Ignored replies q
    → answers (told replies qs) ≤ count → answers (told replies (q ∷ qs)) ≤ count
ignored_at_most replies count q qs h k =
    omega (arith, refused_counts (replies [] q) h.0, ap answers (told_alike (after q replies) replies h.1 qs))

-- One more question in front, its call known or not.
one_more : (known : Known) (q : Question) (qs : List Question)
    → ((below : Replies) (count : ℕ) → answers (told (rationed below known count) qs) ≤ count)
    → (b : Bool) → known q.call ≡ b → (below : Replies) (count : ℕ)
    → answers (told (rationed below known count) (q ∷ qs)) ≤ count
one_more known q qs ih false u below count =
    ignored_at_most (rationed below known count) count q qs (unknown below known count q u) (ih below count)
one_more known q qs ih true k below zero =
    ignored_at_most (rationed below known 0) 0 q qs (at_zero below known q) (ih below 0)
one_more known q qs ih true k below (suc n) =
    let e = ap answers (told_alike (after q (rationed below known (suc n))) (rationed (after q below) known n) (passes below known n q k).1 qs) in
    omega (arith, counts_one (rationed below known (suc n) [] q), e, ih (after q below) n)

at_most : (known : Known) (qs : List Question) (below : Replies) (count : ℕ) → answers (told (rationed below known count) qs) ≤ count
at_most known [] below count = omega arith
at_most known (q ∷ qs) below count = one_more known q qs (at_most known qs) (known q.call) refl below count

pub returns : goal.returns
returns c below known =
    record {
      lawful = lawful below known;
      at_most = λ count qs. at_most known qs below count;
      as_below = as_below below known;
      unknown = unknown below known;
      at_zero = at_zero below known;
      passes = passes below known;
      keeps = keeps below known;
      keeps_at_zero = keeps_at_zero below known;
      spends = spends below known;
    }

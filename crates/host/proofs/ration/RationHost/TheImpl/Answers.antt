-- A ration does what the trait asks, from what it promises of its count and of the host below.
use Rattle.std.proofs.Common.{◌≡◌, refl, ◌∙◌, ℕ, List, [], ◌∷◌, rules}
use Rattle.eff.specs.declared.question.Call.{Call}
use Rattle.eff.specs.declared.question.Question.{Question}
use Rattle.host.specs.Meaning.{Replies, Known, Alike}
use Rattle.host.specs.Rationing.{known_among, rationed, left_after, below_after}
use Rattle.host.proofs.ration.RationHost.TheImpl.Goals as goal

one_question : (below : Replies) (known : Known) (left : ℕ) (q : Question) (qs : List Question) (p : Question)
    → rationed (below_after known left q below) known (left_after known left q) qs p ≡ rationed below known left (q ∷ qs) p
one_question below known left q qs p = search rules

known_among_same : (j k : Known) → ((c : Call) → j c ≡ k c) → (qs : List Question) → known_among j qs ≡ known_among k qs
known_among_same j k e [] = refl
known_among_same j k e (q ∷ qs) = let h = e q.call in let t = known_among_same j k e qs in cc

rationed_same : (a b : Replies) (j k : Known) (m n : ℕ) → Alike a b → ((c : Call) → j c ≡ k c) → m ≡ n
    → (qs : List Question) (p : Question) → rationed a j m qs p ≡ rationed b k n qs p
rationed_same a b j k m n s e l qs p =
    let h = e p.call in
    let t = known_among_same j k e qs in
    let r = s.same (known_among k qs) p in
    cc

pub ask-tells : goal.ask-tells
ask-tells g c =
    let below = g.H.Host.replies c.args.self.now.host in
    let known = g.H.Host.known c.args.self.now.host in
    let left = c.args.self.now.left in
    record {
      reply = c.ensures.reply;
      afterwards = record {
        same = λ qs p.
            rationed_same _ (below_after known left c.args.question below) _ known _ (left_after known left c.args.question)
            c.ensures.below c.ensures.known c.ensures.left qs p
            ∙ one_question below known left c.args.question qs p;
      };
      known = c.ensures.known;
    }

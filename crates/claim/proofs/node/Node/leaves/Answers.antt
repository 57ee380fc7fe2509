use Rattle.std.proofs.Common.{◌≡◌, ℕ, ◌*◌, ◌%◌, ◌^◌, ◌<◌, ◌≤◌, Option, Some, None, rules, tests, sym, ◌∙◌, arith, MatchOption}
use lib.Bits.{bit_xor, bit_and}
use Rattle.std.proofs.lemmas.Iterator.{first_from_Range}
use Rattle.eff.specs.Tables.{Tables}
use Rattle.eff.specs.Dirt.{sets, weight, leaves}
use Rattle.table.proofs.Masks.{shifted}
use Rattle.claim.proofs.Calls.{leaves_at, leaves_all}
use Rattle.claim.proofs.node.Node.leaves.Goals as goal

-- the instance that the code looks for
abbrev Is : ℕ → ℕ → Type 0
Is R i = R ≡ 1 * 2 ^ i % 2 ^ 64

abbrev Finds : ℕ → Option ℕ → Type 0
Finds R r = MatchOption r ((i : ℕ) → 0 ≤ i → i < 16 → Is R i → ⊥) (λ i. (0 ≤ i) × (i < 16) × Is R i × ((k : ℕ) → 0 ≤ k → k < i → Is R k → ⊥))

weaken : {X : Type 0} (o : Option X) {N M : Type 0} {P Q : X → Type 0} → (N → M) → ((x : X) → P x → Q x) → MatchOption o N P → MatchOption o M Q
weaken None f g h = f h
weaken (Some x) f g h = g x h

module _ (T : Tables) (R op d v : ℕ) where
  by_found : (r : Option ℕ) → Finds R r → MatchOption r (v ≡ d) (λ i. v ≡ bit_xor d (bit_and d (weight i op))) → v ≡ leaves (sets T) R op d
  by_found None h e = e ∙ sym (leaves_all (sets T) R op d (λ i l q. h i (omega arith) l (q ∙ sym (shifted i (omega (arith, l))))))
  by_found (Some i) h e = e ∙ sym (leaves_at (sets T) R op d i h.1 (h.2 ∙ shifted _ (omega (arith, h.1))))

pub returns : goal.returns
returns c = λ T.
    let h : Finds c.args.region c.find-found.result = first_from_Range _ _ _ c.find-found.result (Is c.args.region) (λ i. Is c.args.region i → ⊥) c.find-found.ensures.ran (λ x q k. search (rules, tests)) (λ x q k. search (rules, tests)) in
    by_found T c.args.region c.args.self.now.b c.args.dirt c.map_or.result c.find-found.result h (weaken c.find-found.result (λ e. e) (λ i q. search (rules, tests)) c.map_or.ensures)

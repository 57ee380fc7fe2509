use Rattle.std.proofs.Common.{◌≡◌, length, ap, sym, ◌∙◌, arith}
use Rattle.std.proofs.lemmas.List.{length-map}
use native.Mathlib.Decide.{dec_lt}
use Rattle.eff.specs.Kinds.{table, child_of}
use Rattle.claim.specs.Checker as s
use Rattle.claim.proofs.Extents.{few_children, end_starts, end_past, end_goes}
use Rattle.claim.proofs.checker.Checker.end.Goals as goal

pub loop-next-init : goal.loop-next-init
loop-next-init c = record { small = omega arith; reached = end_starts (s.rows c.args.self.now) c.args.at }

pub loop-next-preserved : goal.loop-next-preserved
loop-next-preserved c =
    let i = c.loop-next.invariant in record {
      small = omega (arith, few_children c.kind.result, ap length c.children.ensures, length-map c.children.result.now child_of);
      reached =
          i.reached
          ∙ end_goes (s.rows c.args.self.now) c.loop-next.next c.loop-next.wanted c.children.result.now (c.children.ensures ∙ ap (λ k. (table k).children) c.kind.ensures)
          (omega (arith, c.size-next-end.ensures.value)) (omega arith);
    }

pub returns-clause-value : goal.returns-clause-value
returns-clause-value c =
    let l = s.rows c.args.self.now in
    elim (dec_lt c.size.result c.args.at) [
      | yes h ↦
          let last : c.max.result ≡ c.args.at = omega (arith, c.max.ensures) in
          last ∙ sym (end_starts l c.args.at ∙ end_past l c.args.at 1 (omega (arith, c.size.ensures.value)))
      | no h ↦
          let next = c.loop-next.next in
          let last : c.max.result ≡ next = omega (arith, c.max.ensures, c.loop-next.auto.next-end, c.size.ensures.value, c.size-next-end.ensures.value) in
          last ∙ sym (c.loop-next.invariant.reached ∙ end_past l next c.loop-next.wanted (omega (arith, c.size-next-end.ensures.value)))
    ]

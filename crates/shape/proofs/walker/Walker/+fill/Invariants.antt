use Rattle.std.proofs.Common.{◌≡◌, ◌∷◌, ◌++◌, ◌<◌, List, map, length, drop}
use Rattle.eff.specs.Kinds.{child_of, sort_of}
use Rattle.shape.specs.Answer.{Want, want, below}
use Rattle.shape.specs.Walk.{rows_of, sees}
use Rattle.shape.proofs.walker.Walker.+fill.Given as goal

abbrev pub decreases-fill : goal.decreases-fill
decreases-fill l = length l.self.now.rest.now

abbrev pub invariant-loop-child : goal.invariant-loop-child
invariant-loop-child l = record {
  fewer : length (rows_of l.self) < length (rows_of l.fn.self);
  onward : l.fn.self.line < l.self.line;
  seen : (ws : List Want) → sees (want (sort_of l.fn.sort) l.names ∷ ws) l.fn.self ≡ sees (below l.names (map child_of (drop l.child-index l.child-items)) ++ ws) l.self;
}

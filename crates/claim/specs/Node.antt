-- A part as a node of its term, and when the rule of its kind holds at it.
use Rattle.std.specs.Prelude.{◌≡◌, ℕ, ◌+◌, ◌-◌, ◌^◌, ◌<◌, ◌≤◌, Some, None, Option, length, Bool, true, ◌&&◌, slice_index, bit_or}
use Rattle.eff.specs.Sorts.{list}
use Rattle.eff.specs.Types.{Ty}
use Rattle.eff.specs.Types as t
use Rattle.eff.specs.Tables.{takes, type}
use Rattle.eff.specs.Rules.{Cxt}
use Rattle.eff.specs.Kinds.{kinded}
use Rattle.eff.specs.Labels.{Labelled}
use Rattle.eff.specs.Handling.{cases_leave}
use Rattle.eff.specs.declared.kind.Kind.{Kind}
use Rattle.eff.specs.declared.kind.Kind.TheVariants as k
use Rattle.sheet.specs.Rows.{Listing}
use Rattle.sheet.specs.Dirty.{dirty_of}
use Rattle.claim.specs.Below.{below, below_dirty}
use Rattle.claim.specs.Checker.{rows, declared, dirts}
use Rattle.claim.specs.Decoded as decoded
use Rattle.claim.specs.Placing.{row, end_of, Placed}
use Rattle.claim.specs.Recipes.{kind_or}
use Rattle.claim.specs.Test.{name_ok, handler_ok, case_ok, apply_ok, call_ok, rec_ok, handle_ok, choice_ok}
use Rattle.claim.specs.declared.checker.Checker.{Checker}
use Rattle.sheet.specs.declared.dirty.Dirty.{Dirty}
use Rattle.claim.specs.declared.node.Node.{Node}
use Rattle.claim.specs.declared.node.Way.{Way}

-- what the row r claims, its type by number
abbrev pub claim_at : Listing → ℕ → Dirty
claim_at l r = dirty_of (row l r)

-- a node without its facts, which a row has only in range
pub record View : Type 0 where
  pub kind : Kind
  pub a : ℕ
  pub b : ℕ
  pub own : Dirty
  pub at : ℕ
  pub first : Dirty
  pub second_at : ℕ
  pub second : Dirty
  pub third_at : ℕ
  pub third : Dirty

abbrev pub view : Node → View
view n = record {
  kind = n.kind;
  a = n.a;
  b = n.b;
  own = n.own;
  at = n.at;
  first = n.first;
  second_at = n.second_at;
  second = n.second;
  third_at = n.third_at;
  third = n.third;
}

-- what the part r is as a node
abbrev pub node_at : Listing → ℕ → View
node_at l r = record {
  kind = kind_or (kinded (row l r).kind);
  a = (row l r).a;
  b = (row l r).b;
  own = claim_at l r;
  at = r;
  first = claim_at l (r + 1);
  second_at = end_of l (r + 1);
  second = claim_at l (end_of l (r + 1));
  third_at = end_of l (end_of l (r + 1));
  third = claim_at l (end_of l (end_of l (r + 1)));
}

-- what the way down from a node reads of it
abbrev pub way : View → Way
way n = record {
  kind = n.kind;
  a = n.a;
  b = n.b;
  first_ty = n.first.ty;
  second_at = n.second_at;
  third_at = n.third_at;
}

-- what is told of the part r: its node, if there is one
abbrev pub Found : Listing → ℕ → Option Node → Type 0
Found l r None = length l.parts ≤ r
Found l r (Some n) = (view n ≡ node_at l r) × (r < length l.parts)

module _ (x : Checker) (Γ : Cxt) (n : View) where
  abbrev ty : ℕ → Ty
  ty m = type (declared x) m

  abbrev dirty : Dirty → t.Dirty
  dirty C = decoded.dirty (declared x) C

  -- what the nil of the case list at a part claims
  abbrev nil : ℕ → t.Dirty
  nil r = dirty (claim_at (rows x) (end_of (rows x) r - 1))

  -- what the test of a kind says of the node
  abbrev pub RuledAs : Kind → Bool → Type 0
  RuledAs k.Variable b = b ≡ name_ok (dirts x) Γ n.a (ty n.own.ty)
  RuledAs k.Truth b = b ≡ below (dirts x) t.bool (ty n.own.ty)
  RuledAs k.Numeral b = b ≡ below (dirts x) t.nat (ty n.own.ty)
  RuledAs k.Successor b = b ≡ (below (dirts x) (ty n.first.ty) t.nat && below (dirts x) t.nat (ty n.own.ty))
  RuledAs k.Unit b = b ≡ below (dirts x) t.unit (ty n.own.ty)
  RuledAs k.Instance b = n.a < length (rows x).instances → b ≡ below (dirts x) (t.instance (slice_index (declared x).instances n.a) (2 ^ n.a)) (ty n.own.ty)
  RuledAs k.Function b = b ≡ below (dirts x) (t.fun (ty n.a) (ty n.first.ty) n.first.dirt) (ty n.own.ty)
  RuledAs k.Handler b = (cs : Labelled list) → Placed (rows x) list n.second_at cs → b ≡ handler_ok (dirts x) (ty n.own.ty) (ty n.a) (dirty n.first) (nil n.second_at) (cases_leave (dirts x) cs)
  RuledAs k.Case b = b ≡ case_ok (dirts x) n.a (ty n.first.ty) (dirty n.second) (nil n.third_at)
  RuledAs k.Nil b = b ≡ true
  RuledAs k.If b = b ≡ choice_ok (dirts x) t.bool (dirty n.own) (ty n.first.ty) (dirty n.second) (dirty n.third)
  RuledAs k.Match b = b ≡ choice_ok (dirts x) t.nat (dirty n.own) (ty n.first.ty) (dirty n.second) (dirty n.third)
  RuledAs k.Absurd b = b ≡ below (dirts x) (ty n.first.ty) t.empty
  RuledAs k.Apply b = b ≡ apply_ok (dirts x) (dirty n.own) (ty n.first.ty) (ty n.second.ty)
  RuledAs k.Val b = b ≡ below_dirty (dirts x) (ty n.first.ty, 0) (dirty n.own)
  RuledAs k.Call b = b ≡ call_ok (dirts x) (dirty n.own) n.a n.b (ty (takes (declared x) n.a n.b)) (ty n.first.ty) (ty n.second.ty) (dirty n.third)
  RuledAs k.Let b = b ≡ below_dirty (dirts x) (ty n.second.ty, bit_or n.first.dirt n.second.dirt) (dirty n.own)
  RuledAs k.LetRec b = b ≡ rec_ok (dirts x) (dirty n.own) (ty n.a) (dirty n.first) (dirty n.second)
  RuledAs k.With b = b ≡ handle_ok (dirts x) (dirty n.own) (ty n.first.ty) (dirty n.second)

  -- whether the rule of the node's kind holds at it
  pub record Ruled (b : Bool) : Type 0 where
    pub by : RuledAs n.kind b

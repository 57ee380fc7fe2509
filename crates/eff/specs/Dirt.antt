-- Kinds of dirt: what typing asks of dirts, and call sets, which meet it.
use Rattle.std.specs.Prelude.{◌≡◌, ℕ, zero, suc, ◌+◌, ◌*◌, ◌^◌, Bool, true, cond, List, [], ◌∷◌, ◌==◌, bit_and, bit_or, bit_xor}
use Rattle.eff.specs.Sets.{Holds, inside}
use Rattle.eff.specs.Tables.{Tables, Operation, Call}

-- A kind of dirt: whether one lies within another, the dirt of nothing, the join of two, the own dirt of the call i#op, what handling i#op
-- leaves of a dirt, and the dirt of every declared call.
pub record Dirts : Type 0 where
  pub within : ℕ → ℕ → Bool
  pub none : ℕ
  pub join : ℕ → ℕ → ℕ
  pub own : ℕ → ℕ → ℕ
  pub without : ℕ → ℕ → ℕ → ℕ
  pub all : ℕ

module _ (D : Dirts) where
  -- d lies within e
  infix 50 ◌⊆◌
  abbrev pub ◌⊆◌ : ℕ → ℕ → Type 0
  ◌⊆◌ d e = D.within d e ≡ true

  -- d admits i#op for each instance i of the region R
  abbrev pub Admits : ℕ → ℕ → ℕ → Type 0
  Admits R op d = (i : ℕ) → Holds R i → D.own i op ⊆ d

  -- what a case on op at the region R leaves of d: it handles i#op where R is just {i}, i being below n, and else nothing
  abbrev pub leaves_below : ℕ → ℕ → ℕ → ℕ → ℕ
  leaves_below zero R op d = d
  leaves_below (suc n) R op d = cond (R == 2 ^ n) (D.without n op d) (leaves_below n R op d)

  -- no instance is above 15
  unfoldable pub leaves : ℕ → ℕ → ℕ → ℕ
  leaves R op d = leaves_below 16 R op d

module _ (T : Tables) (D : Dirts) where
  open D use {none, join, own, without, all}

  infix 50 ◌⊑◌
  abbrev ◌⊑◌ : ℕ → ℕ → Type 0
  ◌⊑◌ d e = ◌⊆◌ D d e

  -- The laws of a kind of dirt over the declared calls.
  pub record Laws : Type 0 where
    -- lying within is an order with none at its foot
    pub self : (d : ℕ) → d ⊑ d
    pub trans : {d e f : ℕ} → d ⊑ e → e ⊑ f → d ⊑ f
    pub foot : (d : ℕ) → none ⊑ d
    -- the join is the least that includes both sides
    pub left : (d e : ℕ) → d ⊑ join d e
    pub right : (d e : ℕ) → e ⊑ join d e
    pub least : {d e f : ℕ} → d ⊑ f → e ⊑ f → join d e ⊑ f
    -- handling adds nothing, leaves no more of a smaller dirt, and leaves every call but the one handled
    pub less : (i op d : ℕ) → without i op d ⊑ d
    pub mono : {d e : ℕ} (i op : ℕ) → d ⊑ e → without i op d ⊑ without i op e
    pub keeps : {d : ℕ} (i op j op' : ℕ) → Call T i op → Call T j op' → ¬ ((i ≡ j) × (op ≡ op')) → own i op ⊑ d → own i op ⊑ without j op' d
    -- every declared call is in the dirt of all
    pub every : (i op : ℕ) → Call T i op → own i op ⊑ all

-- the weight of the call i#op
abbrev pub weight : ℕ → ℕ → ℕ
weight i op = 2 ^ (4 * i + op)

-- the calls of one operation on the instances of its effect, given by their effects from the instance i
abbrev pub calls_of : Operation → ℕ → List ℕ → ℕ
calls_of o i [] = 0
calls_of o i (e ∷ es) = bit_or (cond (o.effect == e) (weight i o.op) 0) (calls_of o (suc i) es)

abbrev pub calls : List Operation → List ℕ → ℕ
calls [] is = 0
calls (o ∷ os) is = bit_or (calls_of o 0 is) (calls os is)

-- Call sets: a handled call is taken out.
abbrev pub sets : Tables → Dirts
sets T = record {
  within = inside;
  none = 0;
  join = bit_or;
  own = weight;
  without = λ i op d. bit_xor d (bit_and d (weight i op));
  all = calls T.operations T.instances;
}

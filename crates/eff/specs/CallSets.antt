-- Call sets are a kind of dirt.
use Rattle.std.specs.Prelude.{◌≡◌, ℕ, ◌+◌, ◌*◌, ◌↔◌}
use Rattle.eff.specs.Sets.{Holds, Within}
use Rattle.eff.specs.Tables.{Tables, Call}
use Rattle.eff.specs.Dirt.{Laws, ◌⊆◌, sets, weight}
use Rattle.eff.specs.Checked.{Checked, Known}

-- Call sets: they obey the laws; one lies within another when all its calls are the other's; a call's own dirt holds it alone; handling takes
-- just one call out; and the dirts of declared calls only are those whose every call is declared.
pub record CallSetLaws (T : Tables) : Type 0 where
  pub laws : Laws T (sets T)
  pub within : (d e : ℕ) → (◌⊆◌ (sets T) d e) ↔ (Within d e)
  pub own : (i op k : ℕ) → (Holds (weight i op) k) ↔ (k ≡ 4 * i + op)
  pub without : (i op d k : ℕ) → (Holds ((sets T).without i op d) k) ↔ ((Holds d k) × ¬ (k ≡ 4 * i + op))
  pub known : (d : ℕ) → (Known T (sets T) d) ↔ ((k : ℕ) → Holds d k → (i op : ℕ) × (k ≡ 4 * i + op) × Call T i op)

abbrev pub CallSetsAreDirts : Type 0
CallSetsAreDirts = (T : Tables) → Checked T (sets T) → CallSetLaws T

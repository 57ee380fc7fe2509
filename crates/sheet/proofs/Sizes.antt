-- The test of sizes finds the first line of a table over its room, or of no part.
use Rattle.std.proofs.Common.{◌≡◌, ℕ, ◌<◌, ◌≤◌, true, eqb, ltb, Ok, Err, refl, arith}
use Rattle.std.proofs.lemmas.Bool.{ltb-true, ltb-false, eqb-true, eqb-false, cond_both}
use Rattle.fault.specs.declared.text.TextFault.{TextFault}
use Rattle.fault.specs.declared.text.TextFault.TheVariants.{Size}
use Rattle.fault.specs.Search.{Verdict, refused, First, NoLine}
use Rattle.sheet.specs.Faults.{Which, operations, instances, types, parts, room, row_line, SizeFault, many, bare}
use Rattle.sheet.specs.Answer.{sized}

module _ (n : Which → ℕ) where
  -- what a verdict on sizes means
  abbrev pub SizesTold : Verdict TextFault → Type 0
  SizesTold (Ok x) = NoLine (SizeFault n)
  SizesTold (Err e) = (e.fault ≡ Size) × First (SizeFault n) e.line

  -- the tables before w are within their rooms
  abbrev Before : Which → Type 0
  Before operations = Unit {0}
  Before instances = n operations ≤ 32
  Before types = (n operations ≤ 32) × (n instances ≤ 16)
  Before parts = (n operations ≤ 32) × (n instances ≤ 16) × (n types ≤ 252)

  first_many : (w : Which) → Before w → room w < n w → (m : ℕ) → SizeFault n m → row_line n w (room w) ≤ m
  first_many operations b h m (many operations k e) = omega (arith, e)
  first_many operations b h m (many instances k e) = omega (arith, e)
  first_many operations b h m (many types k e) = omega (arith, e)
  first_many operations b h m (many parts k e) = omega (arith, e)
  first_many operations b h m (bare k e) = omega (arith, e)
  first_many instances b h m (many operations k e) = omega (arith, e)
  first_many instances b h m (many instances k e) = omega (arith, e)
  first_many instances b h m (many types k e) = omega (arith, e)
  first_many instances b h m (many parts k e) = omega (arith, e)
  first_many instances b h m (bare k e) = omega (arith, e)
  first_many types b h m (many operations k e) = omega (arith, b.0)
  first_many types b h m (many instances k e) = omega (arith, b.1)
  first_many types b h m (many types k e) = omega (arith, e)
  first_many types b h m (many parts k e) = omega (arith, e)
  first_many types b h m (bare k e) = omega (arith, e)
  first_many parts b h m (many operations k e) = omega (arith, b.0)
  first_many parts b h m (many instances k e) = omega (arith, b.1)
  first_many parts b h m (many types k e) = omega (arith, b.2)
  first_many parts b h m (many parts k e) = omega (arith, e)
  first_many parts b h m (bare k e) = omega arith

  first_bare : Before parts → n parts ≡ 0 → (m : ℕ) → SizeFault n m → row_line n parts 0 ≤ m
  first_bare b h m (many operations k e) = omega (arith, b.0)
  first_bare b h m (many instances k e) = omega (arith, b.1)
  first_bare b h m (many types k e) = omega (arith, b.2)
  first_bare b h m (many parts k e) = omega (arith, e)
  first_bare b h m (bare k e) = omega (arith, e)

  none : Before parts → n parts ≤ 1024 → (n parts ≡ 0 → ⊥) → NoLine (SizeFault n)
  none b h z m (many operations k e) = omega (arith, b.0)
  none b h z m (many instances k e) = omega (arith, b.1)
  none b h z m (many types k e) = omega (arith, b.2)
  none b h z m (many parts k e) = omega arith
  none b h z m (bare k e) = z k

  found : (w : Which) → Before w → ltb (room w) (n w) ≡ true → SizesTold (refused (row_line n w (room w)) Size)
  found w b h = let k : room w < n w = ltb-true (room w) (n w) h in (refl, (many w k refl, first_many w b k))

  pub sizes : SizesTold (sized n)
  sizes =
      cond_both (ltb 32 (n operations)) _ _ SizesTold (found operations tt) (λ a.
      let a : n operations ≤ 32 = ltb-false 32 (n operations) a in
      cond_both (ltb 16 (n instances)) _ _ SizesTold (found instances a) (λ b.
      let b : n instances ≤ 16 = ltb-false 16 (n instances) b in
      cond_both (ltb 252 (n types)) _ _ SizesTold (found types (a, b)) (λ c.
      let c : n types ≤ 252 = ltb-false 252 (n types) c in
      cond_both (ltb 1024 (n parts)) _ _ SizesTold (found parts (a, b, c)) (λ d.
      cond_both (eqb (n parts) 0) _ _ SizesTold
      (λ z. let k : n parts ≡ 0 = eqb-true (n parts) 0 z in (refl, (bare k refl, first_bare (a, b, c) k)))
      (λ z. none (a, b, c) (ltb-false 1024 (n parts) d) (eqb-false (n parts) 0 z))))))

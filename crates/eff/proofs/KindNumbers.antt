-- Kinds and ground types go by number one for one.
use Rattle.std.proofs.Common.{◌≡◌, ℕ, zero, suc, ◌<◌, Bool, true, false, cond, eqb, List, [], ◌∷◌, Some, refl, ap, ◌∙◌, arith, eqb-true}
use Rattle.eff.specs.Numbers.{numbered}
use Rattle.eff.specs.Kinds as kinds
use Rattle.eff.specs.Grounds as grounds
use Rattle.eff.specs.KindNumbers.{Numbers}
use Rattle.eff.specs.declared.kind.Kind.{Kind}
use Rattle.eff.specs.declared.kind.Kind.TheVariants as k
use Rattle.eff.specs.declared.ground.Ground.{Ground}
use Rattle.eff.specs.declared.ground.Ground.TheVariants as g

kind_found : (k : Kind) → kinds.kinded (kinds.number k) ≡ Some k
kind_found k.Variable = refl
kind_found k.Truth = refl
kind_found k.Numeral = refl
kind_found k.Successor = refl
kind_found k.Unit = refl
kind_found k.Instance = refl
kind_found k.Function = refl
kind_found k.Handler = refl
kind_found k.Case = refl
kind_found k.Nil = refl
kind_found k.If = refl
kind_found k.Match = refl
kind_found k.Absurd = refl
kind_found k.Apply = refl
kind_found k.Val = refl
kind_found k.Call = refl
kind_found k.Let = refl
kind_found k.LetRec = refl
kind_found k.With = refl

module _ {A : Type 0} (number : A → ℕ) where
  number_is : (xs : List A) (n : ℕ) (x : A) → numbered number xs n ≡ Some x → number x ≡ n
  number_is [] n x h = let z : ◌≡◌ {A = ℕ} 0 1 = cc in absurd (omega arith)
  number_is (y ∷ xs) n x h = go (eqb (number y) n) refl h (λ p. number_is xs n x p)
    where
      go : (b : Bool) → eqb (number y) n ≡ b → cond b (Some y) (numbered number xs n) ≡ Some x → (numbered number xs n ≡ Some x → number x ≡ n)
          → number x ≡ n
      go true e p f = let z : x ≡ y = cc in ap number z ∙ eqb-true _ _ e
      go false e p f = f p

every_kind : (n : ℕ) → n < 19 → (k : Kind) × (kinds.number k ≡ n)
every_kind zero h = (k.Variable, refl)
every_kind (suc zero) h = (k.Truth, refl)
every_kind (suc (suc zero)) h = (k.Numeral, refl)
every_kind (suc (suc (suc zero))) h = (k.Successor, refl)
every_kind (suc (suc (suc (suc zero)))) h = (k.Unit, refl)
every_kind (suc (suc (suc (suc (suc zero))))) h = (k.Instance, refl)
every_kind (suc (suc (suc (suc (suc (suc zero)))))) h = (k.Function, refl)
every_kind (suc (suc (suc (suc (suc (suc (suc zero))))))) h = (k.Handler, refl)
every_kind (suc (suc (suc (suc (suc (suc (suc (suc zero)))))))) h = (k.Case, refl)
every_kind (suc (suc (suc (suc (suc (suc (suc (suc (suc zero))))))))) h = (k.Nil, refl)
every_kind (suc (suc (suc (suc (suc (suc (suc (suc (suc (suc zero)))))))))) h = (k.If, refl)
every_kind (suc (suc (suc (suc (suc (suc (suc (suc (suc (suc (suc zero))))))))))) h = (k.Match, refl)
every_kind (suc (suc (suc (suc (suc (suc (suc (suc (suc (suc (suc (suc zero)))))))))))) h = (k.Absurd, refl)
every_kind (suc (suc (suc (suc (suc (suc (suc (suc (suc (suc (suc (suc (suc zero))))))))))))) h = (k.Apply, refl)
every_kind (suc (suc (suc (suc (suc (suc (suc (suc (suc (suc (suc (suc (suc (suc zero)))))))))))))) h = (k.Val, refl)
every_kind (suc (suc (suc (suc (suc (suc (suc (suc (suc (suc (suc (suc (suc (suc (suc zero))))))))))))))) h = (k.Call, refl)
every_kind (suc (suc (suc (suc (suc (suc (suc (suc (suc (suc (suc (suc (suc (suc (suc (suc zero)))))))))))))))) h = (k.Let, refl)
every_kind (suc (suc (suc (suc (suc (suc (suc (suc (suc (suc (suc (suc (suc (suc (suc (suc (suc zero))))))))))))))))) h = (k.LetRec, refl)
every_kind (suc (suc (suc (suc (suc (suc (suc (suc (suc (suc (suc (suc (suc (suc (suc (suc (suc (suc zero)))))))))))))))))) h = (k.With, refl)
every_kind (suc (suc (suc (suc (suc (suc (suc (suc (suc (suc (suc (suc (suc (suc (suc (suc (suc (suc (suc n))))))))))))))))))) h = absurd (omega arith)

ground_found : (g : Ground) → grounds.grounded (grounds.number g) ≡ Some g
ground_found g.Bool = refl
ground_found g.Nat = refl
ground_found g.Unit = refl
ground_found g.Empty = refl

-- the ground type of a number
pub ground_number : (n : ℕ) (g : Ground) → grounds.grounded n ≡ Some g → grounds.number g ≡ n
ground_number n g h = number_is grounds.number grounds.grounds n g h

every_ground : (n : ℕ) → n < 4 → (g : Ground) × (grounds.number g ≡ n)
every_ground zero h = (g.Bool, refl)
every_ground (suc zero) h = (g.Nat, refl)
every_ground (suc (suc zero)) h = (g.Unit, refl)
every_ground (suc (suc (suc zero))) h = (g.Empty, refl)
every_ground (suc (suc (suc (suc n)))) h = absurd (omega arith)

pub numbers : Numbers
numbers = record {
  kind = kind_found;
  kind_number = λ n k h. number_is kinds.number kinds.kinds n k h;
  every_kind = every_kind;
  ground = ground_found;
  ground_number = ground_number;
  every_ground = every_ground;
}

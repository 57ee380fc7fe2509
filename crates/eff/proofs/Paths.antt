-- A function of several equal arguments.
use Rattle.std.proofs.Common.{◌≡◌, ap, ◌∙◌, ap₂}

pub ap₃ : {A B C E : Type 0} (f : A → B → C → E) {a a' : A} {b b' : B} {c c' : C} → a ≡ a' → b ≡ b' → c ≡ c' → f a b c ≡ f a' b' c'
ap₃ f {a} {a'} {b} {b'} {c} {c'} p q r = ap₂ (λ x y. f x y c) p q ∙ ap (f a' b') r

pub ap₄ : {A B C E F : Type 0} (f : A → B → C → E → F) {a a' : A} {b b' : B} {c c' : C} {e e' : E} → a ≡ a' → b ≡ b' → c ≡ c' → e ≡ e' → f a b c e ≡ f a' b' c' e'
ap₄ f {a} {a'} {b} {b'} {c} {c'} {e} {e'} p q r o = ap₃ (λ x y z. f x y z e) p q r ∙ ap (f a' b' c') o

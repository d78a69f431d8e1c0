-- Laws of `pick`: callers need not open it. Assumes nothing.
use mathlib.Core.Path.{◌≡◌, refl, ap}
use mathlib.Core.Bool.{Bool, true, false, not}
use lib.Dec.{T}
use Rattle.lists.specs.Choice.{pick}
use Rattle.lists.proofs.Booleans.{never}

-- what holds of both choices, each under its test, holds of the one picked
pub pick-ok {ℓ} : {A : Type 0} (P : A → Type ℓ) (b : Bool) (x y : A) → (T b → P x) → (T (not b) → P y) → P (pick b x y)
unfolding pick
pick-ok P true x y f g = f tt
pick-ok P false x y f g = g tt

-- the same, the test as an equation
pub pick-holds {ℓ} : {A : Type 0} (P : A → Type ℓ) (b : Bool) (x y : A) → (b ≡ true → P x) → (b ≡ false → P y) → P (pick b x y)
unfolding pick
pick-holds P true x y f g = f refl
pick-holds P false x y f g = g refl

module _ {A : Type 0} where
  pub pick_true : (b : Bool) (x y : A) → b ≡ true → pick b x y ≡ x
  unfolding pick
  pick_true true x y e = refl
  pick_true false x y e = never e

  pub pick-false : (b : Bool) (x y : A) → b ≡ false → pick b x y ≡ y
  unfolding pick
  pick-false b x y e = ap (λ t. pick t x y) e

  -- what is equal where the test holds makes equal choices
  pub pick_same : (b : Bool) (x x' y : A) → (b ≡ true → x ≡ x') → pick b x y ≡ pick b x' y
  unfolding pick
  pick_same true x x' y h = h refl
  pick_same false x x' y h = refl

-- Laws of `first_of`: one condition after the other. Assumes nothing.
use mathlib.Core.Path.{◌≡◌, refl, ◌∙◌}
use mathlib.Core.Bool.{Bool, true, false}
use mathlib.Core.List.{List, [], ◌∷◌, ◌++◌}
use Prim.Native.Nat.{ℕ, ◌≤◌}
use native.Mathlib.Omega.{arith}
use Rattle.lists.specs.Choice.{pick}
use Rattle.lists.specs.Refusals.{Refusal, refusal, first_of}
use Rattle.lists.proofs.Choice.{pick_true, pick-false}

pub none-holds : first_of [] ≡ 0
unfolding first_of
none-holds = refl

module _ (number : ℕ) (b : Bool) (rs : List Refusal) where
  -- the first condition holds
  pub first_holds : b ≡ true → first_of (refusal number b ∷ rs) ≡ number
  unfolding first_of
  first_holds e = pick_true b number (first_of rs) e

  -- it does not, and the others decide
  pub first-fails : b ≡ false → first_of (refusal number b ∷ rs) ≡ first_of rs
  unfolding first_of
  first-fails e = pick-false b number (first_of rs) e

-- nothing is refused: the first condition does not hold, and none of the others does
pub passed : (number : ℕ) (b : Bool) (rs : List Refusal) → 1 ≤ number → first_of (refusal number b ∷ rs) ≡ 0 → (b ≡ false) × (first_of rs ≡ 0)
unfolding first_of pick
passed number true rs h e = absurd (omega arith)
passed number false rs h e = (refl, e)

-- ---- a list of refusals, and others after it

-- a condition more
step : (t : Bool) (number x y : ℕ) → ((x ≡ 0 → ⊥) → x ≡ y) → (pick t number x ≡ 0 → ⊥) → pick t number x ≡ pick t number y
unfolding pick
step true number x y next n = refl
step false number x y next n = next n

-- one of the first is made: it comes first
pub refused-first : (rs more : List Refusal) → (first_of rs ≡ 0 → ⊥) → first_of rs ≡ first_of (rs ++ more)
unfolding first_of
refused-first [] more n = absurd (n refl)
refused-first (r ∷ rs) more n = step r.holds r.number (first_of rs) (first_of (rs ++ more)) (refused-first rs more) n

-- the first is not made, and others decide
module _ (number : ℕ) (t : Bool) (rs more : List Refusal) where
  pub then-passed : 1 ≤ number → first_of (refusal number t ∷ rs) ≡ 0 → (first_of rs ≡ 0 → first_of (rs ++ more) ≡ first_of more)
      → first_of ((refusal number t ∷ rs) ++ more) ≡ first_of more
  then-passed h e next = let p = passed number t rs h e in first-fails number t (rs ++ more) p.0 ∙ next p.1

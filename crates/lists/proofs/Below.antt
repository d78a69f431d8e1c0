-- Laws of `all_below` and `any_below`: one number more, what a test that holds of all, or fails at one, tells, and equal tests. Assumes nothing.
use mathlib.Core.Path.{◌≡◌, refl, ap₂}
use mathlib.Core.Bool.{Bool, true, false, ◌&&◌, ◌||◌}
use Prim.Native.Nat.{ℕ, zero, suc, ◌+◌, ◌<◌}
use native.Mathlib.Omega.{arith}
use native.Mathlib.Numerals.{add-one}
use lib.Dec.{eqb}
use borrow.Author.Tests.{eqb-true, eqb-false}
use Rattle.lists.specs.Below.{all_below, any_below}
use Rattle.lists.proofs.Booleans.{both, second-fails}

module _ (test : ℕ → Bool) where
  pub all_none : all_below 0 test ≡ true
  unfolding all_below
  all_none = refl

  pub all-next : (n : ℕ) → all_below (n + 1) test ≡ all_below n test && test n
  unfolding all_below
  all-next n = rw add-one

  pub all_more : (n : ℕ) → all_below n test ≡ true → test n ≡ true → all_below (n + 1) test ≡ true
  unfolding all_below
  all_more n h t = rw (add-one, h, t)

  pub all_of : (n : ℕ) → ((k : ℕ) → k < n → test k ≡ true) → all_below n test ≡ true
  unfolding all_below
  all_of zero h = refl
  all_of (suc n) h = rw (all_of n (λ k l. h k (omega arith)), h n (omega arith))

  at-step : (n k : ℕ) (t : Bool) → eqb k n ≡ t → (k < n → test k ≡ true) → test n ≡ true → k < suc n → test k ≡ true
  at-step n k true e below here l = rw (eqb-true k n e) here
  at-step n k false e below here l = below (omega (arith, eqb-false k n e))

  pub all-at : (n k : ℕ) → all_below n test ≡ true → k < n → test k ≡ true
  unfolding all_below
  all-at zero k h l = absurd (omega arith)
  all-at (suc n) k h l = let p = both (all_below n test) (test n) h in at-step n k (eqb k n) refl (all-at n k p.0) p.1 l

  fails_step : (n k : ℕ) (t : Bool) → eqb k n ≡ t → (k < n → all_below n test ≡ false) → test k ≡ false → k < suc n
      → (all_below n test && test n) ≡ false
  fails_step n k true e below here l = second-fails (all_below n test) (test n) (rw (eqb-true k n e) at here)
  fails_step n k false e below here l = rw (below (omega (arith, eqb-false k n e)))

  pub one-fails : (n k : ℕ) → k < n → test k ≡ false → all_below n test ≡ false
  unfolding all_below
  one-fails zero k l t = absurd (omega arith)
  one-fails (suc n) k l t = fails_step n k (eqb k n) refl (λ q. one-fails n k q t) t l

  pub any_none : any_below 0 test ≡ false
  unfolding any_below
  any_none = refl

  pub any_next : (n : ℕ) → any_below (n + 1) test ≡ any_below n test || test n
  unfolding any_below
  any_next n = rw add-one

-- tests that agree on each number below n
pub any_same : (n : ℕ) (f g : ℕ → Bool) → ((k : ℕ) → k < n → f k ≡ g k) → any_below n f ≡ any_below n g
unfolding any_below
any_same zero f g h = refl
any_same (suc n) f g h = ap₂ (λ (a b : Bool). a || b) (any_same n f g (λ k l. h k (omega arith))) (h n (omega arith))

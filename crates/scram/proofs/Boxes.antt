-- Sets of boxes: two sets of the boxes 1 to n whose sizes add up to more than n share a box; the boxes heard. Assumes nothing.
use mathlib.Core.Path.{◌≡◌, refl}
use mathlib.Core.Logic.{◌⊎◌, inl, inr}
use mathlib.Core.Bool.{Bool, true, false}
use mathlib.Core.List.{List, [], ◌∷◌}
use Prim.Native.Nat.{ℕ, zero, suc, ◌+◌, ◌<◌}
use native.Mathlib.Omega.{arith}
use lib.Dec.{T}
use lib.ListN.{replicate}
use Rattle.lists.specs.Choice.{pick}
use Rattle.scram.specs.Quorum.{majority, nobody, among, with, count}

-- "3 gives 2, 4 gives 3, 9 gives 5": two majorities are more than the group
pub two-majorities : (n : ℕ) → n < majority n + majority n
unfolding majority
two-majorities n = omega arith

pub meet : (p q : ℕ → Bool) (n : ℕ) → n < count p n + count q n → (i : ℕ) × T (p i) × T (q i)
unfolding count pick
meet p q zero h = absurd (omega arith)
meet p q (suc n) h = go (p (suc n)) (q (suc n)) refl refl (meet p q n) h
  where
    go : (b c : Bool) → p (suc n) ≡ b → q (suc n) ≡ c → (n < count p n + count q n → (i : ℕ) × T (p i) × T (q i))
        → suc n < (pick b 1 0 + count p n) + (pick c 1 0 + count q n) → (i : ℕ) × T (p i) × T (q i)
    go true true e f ih l = (suc n, rw e tt, rw f tt)
    go true false e f ih l = ih (omega arith)
    go false true e f ih l = ih (omega arith)
    go false false e f ih l = ih (omega arith)

-- a box heard after box i was entered is box i, or was heard before
pub heard-before : (heard : List Bool) (i j : ℕ) → T (among (with heard i) j) → (j ≡ i) ⊎ T (among heard j)
heard-before [] i j t = inr t
heard-before (b ∷ heard) zero zero t = inl refl
heard-before (b ∷ heard) zero (suc j) t = inr t
heard-before (b ∷ heard) (suc i) zero t = inr t
heard-before (b ∷ heard) (suc i) (suc j) t = up (heard-before heard i j t)
  where
    up : (j ≡ i) ⊎ T (among heard j) → (suc j ≡ suc i) ⊎ T (among heard j)
    up (inl e) = inl (rw e refl)
    up (inr u) = inr u

none-heard : (n j : ℕ) → T (among (replicate n false) j) → ⊥
none-heard zero j t = t
none-heard (suc n) zero t = t
none-heard (suc n) (suc j) t = none-heard n j t

-- where box i alone was entered, it is the only one heard
pub only-heard : (i j : ℕ) → T (among (with nobody i) j) → j ≡ i
only-heard i j t = go (heard-before nobody i j t)
  where
    go : (j ≡ i) ⊎ T (among nobody j) → j ≡ i
    go (inl e) = e
    go (inr u) = absurd (none-heard 10 j u)

-- Rows: the readings that an estimate was made from, one a period, the newest first; and the order of bases. Assumes nothing.
use mathlib.Core.Path.{◌≡◌, refl, sym}
use mathlib.Core.Logic.{◌⊎◌, inl, inr}
use mathlib.Core.List.{List, [], ◌∷◌}
use Prim.Native.Nat.{ℕ, ◌≤◌, ◌<◌}
use native.Mathlib.Omega.{arith}
use native.Mathlib.Decide.{dec_le}
use lib.ListN.{length}

-- l is a beginning of another list: that one goes on from l
pub data Begins {A : Type 0} (l : List A) : List A → Type 0 where
  all : Begins l l
  then : {m : List A} (y : A) → Begins l m → Begins l (y ∷ m)

module _ {A : Type 0} where
  pub begins-trans : {l m n : List A} → Begins l m → Begins m n → Begins l n
  begins-trans p all = p
  begins-trans p (then y q) = then y (begins-trans p q)

  pub begins-length : {l m : List A} → Begins l m → length l ≤ length m
  begins-length all = omega arith
  begins-length (then y q) = let h = begins-length q in omega arith

  pub begins-same : {l m : List A} → Begins l m → length m ≤ length l → l ≡ m
  begins-same all h = refl
  begins-same (then y q) h = let e = begins-length q in absurd (omega arith)

  pub begins-nil : (l : List A) → Begins [] l
  begins-nil [] = all
  begins-nil (y ∷ l) = then y (begins-nil l)

pub le-or-lt : (a b : ℕ) → (a ≤ b) ⊎ (b < a)
le-or-lt a b = go (dec_le a b)
  where
    go : Dec (a ≤ b) → (a ≤ b) ⊎ (b < a)
    go (yes h) = inl h
    go (no h) = inr (omega arith)

pub lt-or-eq : (a b : ℕ) → (a < b) ⊎ ((a ≡ b) ⊎ (b < a))
lt-or-eq a b = go (le-or-lt a b) (le-or-lt b a)
  where
    go : (a ≤ b) ⊎ (b < a) → (b ≤ a) ⊎ (a < b) → (a < b) ⊎ ((a ≡ b) ⊎ (b < a))
    go (inr h) k = inr (inr h)
    go (inl h) (inl k) = inr (inl (omega arith))
    go (inl h) (inr k) = inl k

-- view v and period k are at or below view w and period j: by the view first, then by the period
abbrev pub AtMost : ℕ → ℕ → ℕ → ℕ → Type 0
AtMost v k w j = (v < w) ⊎ ((v ≡ w) × (k ≤ j))

pub at-most-refl : (v k : ℕ) → AtMost v k v k
at-most-refl v k = inr (refl, omega arith)

pub at-most-trans : {a b c d e f : ℕ} → AtMost a b c d → AtMost c d e f → AtMost a b e f
at-most-trans (inl p) (inl q) = inl (omega arith)
at-most-trans (inl p) (inr q) = inl (omega arith)
at-most-trans (inr p) (inl q) = inl (omega arith)
at-most-trans (inr p) (inr q) = inr (omega arith)

pub at-most-total : (a b c d : ℕ) → AtMost a b c d ⊎ AtMost c d a b
at-most-total a b c d = first (lt-or-eq a c)
  where
    second : a ≡ c → (b ≤ d) ⊎ (d < b) → AtMost a b c d ⊎ AtMost c d a b
    second e (inl h) = inl (inr (e, h))
    second e (inr h) = inr (inr (sym e, omega arith))

    first : (a < c) ⊎ ((a ≡ c) ⊎ (c < a)) → AtMost a b c d ⊎ AtMost c d a b
    first (inl h) = inl (inl h)
    first (inr (inl e)) = second e (le-or-lt b d)
    first (inr (inr h)) = inr (inl h)

-- what is at most a base is at most a later view and period
pub at-most-up : {v k a b : ℕ} (w p : ℕ) → AtMost v k a b → a ≤ w → k ≤ p → AtMost v k w p
at-most-up {v} {k} {a} {b} w p h x y = go h (le-or-lt w v)
  where
    go : AtMost v k a b → (w ≤ v) ⊎ (v < w) → AtMost v k w p
    go h (inr z) = inl z
    go (inl h) (inl z) = absurd (omega arith)
    go (inr h) (inl z) = inr (omega arith)

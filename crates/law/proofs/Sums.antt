-- Laws of `sum` and `table_in_range`: one more, the size of a sum, equal terms, and what a table in range says of its rows. Assumes nothing.
use Rattle.std.proofs.Common.{◌≡◌, refl, true, List, ℕ, zero, suc, ◌+◌, ◌*◌, ◌≤◌, ◌<◌, arith, ℤ, pos, ◌+ℤ◌}
use Rattle.std.proofs.Math.Path.{ap₂}
use Rattle.std.proofs.Math.Numerals.{add-one}
use Rattle.std.proofs.Math.IntN.{nat_abs}
use Rattle.std.proofs.Math.Nat as NatL
use Rattle.law.specs.Fixed.{sum}
use Rattle.lists.specs.Below.{all_below}
use Rattle.lists.specs.Places.{entry}
use Rattle.lists.proofs.Below.{all_of, all-at}
use Rattle.law.specs.Settings.{cell, in_range, table_in_range}
use Rattle.law.proofs.Integers.{sum-size}

pub sum-none : (f : ℕ → ℤ) → sum 0 f ≡ pos 0
unfolding sum
sum-none f = refl

pub sum_more : (i : ℕ) (f : ℕ → ℤ) → sum (i + 1) f ≡ sum i f +ℤ f i
unfolding sum
sum_more i f = rw add-one

pub sum-more-size : (B i : ℕ) (f : ℕ → ℤ) → nat_abs (sum i f) ≤ i * B → nat_abs (f i) ≤ B → nat_abs (sum (i + 1) f) ≤ (i + 1) * B
sum-more-size B i f h k = rw (sum_more i f) (omega (arith, sum-size (sum i f) (f i)))

pub sum_same : (n : ℕ) (f g : ℕ → ℤ) → ((i : ℕ) → i < n → f i ≡ g i) → sum n f ≡ sum n g
unfolding sum
sum_same zero f g h = refl
sum_same (suc n) f g h = ap₂ (λ (a b : ℤ). a +ℤ b) (sum_same n f g (λ i l. h i (NatL.lt_trans l (NatL.lt-suc_self n)))) (h n (NatL.lt-suc_self n))

-- a table all whose places are in range is in range
pub table-holds : (table : List ℤ) (places stride rows columns : ℕ) → columns ≤ stride → rows * stride ≤ places
    → all_below places (λ i. in_range (entry table i)) ≡ true → table_in_range (cell table stride) rows columns ≡ true
unfolding table_in_range
table-holds table places stride rows columns w h t =
    all_of _ rows (λ i l. all_of _ columns (λ j k. all-at (λ m. in_range (entry table m)) places (i * stride + j) t (inside i j l k)))
  where
    inside : (i j : ℕ) → i < rows → j < columns → i * stride + j < places
    inside i j l k = let m = NatL.mul-le-mul_right stride l in omega (arith, m, k, w, h)

-- a row of a table that is in range
pub row-holds : (table : ℕ → ℕ → ℤ) (rows columns i : ℕ) → i < rows → table_in_range table rows columns ≡ true
    → all_below columns (λ j. in_range (table i j)) ≡ true
unfolding table_in_range
row-holds table rows columns i l h = all-at (λ k. all_below columns (λ j. in_range (table k j))) rows i h l

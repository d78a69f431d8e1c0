-- How long text is that is put together. Assumes nothing.
use mathlib.Core.Bool.{Bool}
use mathlib.Core.List.{List, [], ◌∷◌}
use Prim.Native.Nat.{ℕ, zero, suc, ◌+◌, ◌*◌, ◌/◌, ◌%◌, ◌≤◌}
use native.Mathlib.Omega.{arith}
use lib.Dec.{ltb}
use lib.IntN.{ℤ, pos, negsuc}
use lib.ListN.{length, length-append}
use Rattle.lists.specs.Choice.{pick}
use Rattle.lists.proofs.Choice.{pick-ok}
use Rattle.text.specs.Printing.{digits_before, decimal, signed, after_commas, listed}

pub pick-length : (t : Bool) (a b : List ℕ) (n : ℕ) → length a ≤ n → length b ≤ n → length (pick t a b) ≤ n
pick-length t a b n h l = pick-ok (λ (w : List ℕ). length w ≤ n) t a b (λ _. h) (λ _. l)

digits-length : (k n : ℕ) (tail : List ℕ) → length (digits_before k n tail) ≤ k + length tail
unfolding digits_before
digits-length zero n tail = omega arith
digits-length (suc k) n tail =
    pick-length (ltb n 10) _ _ _ (omega arith) (let h = digits-length k (n / 10) ((48 + n % 10) ∷ tail) in omega arith)

pub decimal-length : (n : ℕ) → length (decimal n) ≤ 10
unfolding decimal
decimal-length n = digits-length 10 n []

pub signed-length : (z : ℤ) → length (signed z) ≤ 11
unfolding signed
signed-length (pos n) = omega (arith, decimal-length n)
signed-length (negsuc k) = omega (arith, decimal-length (suc k))

commas-length : (values : List ℤ) → length (after_commas values) ≤ 12 * length values
unfolding after_commas
commas-length [] = omega arith
commas-length (z ∷ zs) = omega (arith, length-append (signed z) (after_commas zs), signed-length z, commas-length zs)

pub listed-length : (values : List ℤ) → length (listed values) ≤ 12 * length values
unfolding listed
listed-length [] = omega arith
listed-length (z ∷ zs) = omega (arith, length-append (signed z) (after_commas zs), signed-length z, commas-length zs)

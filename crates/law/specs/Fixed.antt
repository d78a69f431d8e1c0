-- Fixed point: the numbers are whole, and a coefficient counts units of 1/65536. Sums are over the integers of mathematics, where nothing overflows.
use Rattle.std.specs.Prelude.{ℕ, zero, suc, ◌+◌, ◌*◌, ◌/◌, ◌%◌, Bool, ◌||◌, ltb, ℤ, pos, negsuc, neg_ℤ, ◌+ℤ◌}
use Rattle.std.specs.Int.Signed.{lt_z}
use Rattle.lists.specs.Choice.{pick}

-- −n
abbrev pub minus : ℕ → ℤ
minus n = neg_ℤ (pos n)

-- a / 65536 "to the nearest whole number, ties to the even one". With the quotient q and the remainder r: q where r is below a half, q + 1 where it
-- is above, and at exactly a half the even one of the two
abbrev pub nearest : ℕ → ℕ
nearest a =
    let q = a / 65536 in
    let r = a % 65536 in
    pick (ltb r 32768) q (pick (ltb 32768 r) (q + 1) (q + q % 2))

-- "From now on all three go to the nearest whole number, ties to the even one": z / 65536. `negsuc a` is −(a + 1), and its quotient is that of a + 1
-- with a minus
unfoldable pub divided : ℤ → ℤ
divided (pos a) = pos (nearest a)
divided (negsuc a) = minus (nearest (suc a))

-- "sum over i", i counted from 0: f 0 + .. + f (n − 1)
unfoldable pub sum : ℕ → (ℕ → ℤ) → ℤ
sum zero f = pos 0
sum (suc n) f = sum n f +ℤ f n

-- "brought into its own limits": the lower limit where z is below it, the upper where z is above it, else z
unfoldable pub limited : ℤ → ℤ → ℤ → ℤ
limited lower upper z = pick (lt_z z lower) lower (pick (lt_z upper z) upper z)

-- "Clamp means: into the i32 range."
unfoldable pub clamp : ℤ → ℤ
clamp z = limited (minus 2147483648) (pos 2147483647) z

-- whether limits "changed any value": z is below the lower or above the upper, so not at one of them (`changes-means` of proofs/Changes.antt: `limited` then
-- gives another number than z, and else z)
unfoldable pub limits_change : ℤ → ℤ → ℤ → Bool
limits_change lower upper z = lt_z z lower || lt_z upper z

-- whether clamping does
unfoldable pub clamp_changes : ℤ → Bool
clamp_changes z = limits_change (minus 2147483648) (pos 2147483647) z

-- the size of the largest product of a coefficient and an i32
abbrev pub largest_product : ℕ
largest_product = 16777216 * 2147483648

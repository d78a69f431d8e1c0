-- "A single is multiplied by 65536 exactly and rounded toward minus infinity, worked out from its bits."
use Rattle.std.specs.Prelude.{ℕ, ◌+◌, ◌-◌, ◌*◌, ◌/◌, ◌%◌, ◌^◌, Bool, leb, eqb, ℤ, pos, negsuc, neg_ℤ}
use Rattle.lists.specs.Choice.{pick}

-- ---- the 32 bits of a single: one for the sign, 8 for the exponent, 23 for the fraction

-- the sign: whether the single is negative, −0.0 among them
abbrev pub negative : ℕ → Bool
negative bits = leb (2 ^ 31) bits

-- the exponent, from 0 to 255
unfoldable pub exponent : ℕ → ℕ
exponent bits = bits % 2 ^ 31 / 2 ^ 23

-- the fraction
abbrev pub fraction : ℕ → ℕ
fraction bits = bits % 2 ^ 23

-- ---- the number that they stand for is ± magnitude × 2^(scale − 150)

-- the fraction with a leading digit, which an exponent of 0 does not have
unfoldable pub magnitude : ℕ → ℕ
magnitude bits = pick (eqb (exponent bits) 0) (fraction bits) (2 ^ 23 + fraction bits)

-- the exponent, where 0 counts as 1
unfoldable pub scale : ℕ → ℕ
scale bits = pick (eqb (exponent bits) 0) 1 (exponent bits)

-- a size under its sign
abbrev pub signed : Bool → ℕ → ℤ
signed minus n = pick minus (neg_ℤ (pos n)) (pos n)

-- ---- 65536 times that number, ± magnitude × 2^(scale − 134)

-- a / d "rounded toward minus infinity": `negsuc a` is −(a + 1), and −(a + 1) / d is rounded to −(a / d + 1) (`floor-is` of proofs/Floor.antt)
unfoldable pub floor : ℤ → ℕ → ℤ
floor (pos a) d = pos (a / d)
floor (negsuc a) d = negsuc (a / d)

-- the single in units of 1/65536, "multiplied .. exactly and rounded": one of the two powers is 1, since a difference of natural numbers that would be
-- below 0 is 0
unfoldable pub in_units : ℕ → ℤ
in_units bits = floor (signed (negative bits) (magnitude bits * 2 ^ (scale bits - 134))) (2 ^ (134 - scale bits))

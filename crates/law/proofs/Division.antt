-- How `divide` comes to the nearest quotient by 65536: from the quotient toward minus infinity and what is left above it. Assumes nothing.
use Rattle.std.proofs.Common.{◌≡◌, ℕ, zero, suc, ◌-◌, ◌/◌, ◌%◌, ◌≤◌, ◌<◌, true, false, ℤ, pos, negsuc, ◌+ℤ◌, refl, sym, ap, ◌∙◌, subst, arith, w64, FitsSigned, to_z, of_z}
use Rattle.std.proofs.Math.IntN.{nat_abs, suc_ℤ, +ℤ_one}
use Rattle.std.proofs.Math.Facts.{to_z-of_z}
use Rattle.std.specs.Int.{int_div_euclid, int_rem_euclid}
use Rattle.std.specs.Int.Signed.{rem_z, lt_z}
use Rattle.std.proofs.lemmas.Bool.{ltb-true, ltb-false}
use Rattle.law.specs.Fixed.{minus, nearest, divided}
use Rattle.law.proofs.Integers.{small-fits, sum-size, minus-size}
use Rattle.law.proofs.Nearest.{nearest-is, tie-is}

-- the quotient is no larger than what is divided
pub divided-size : (x : ℤ) → nat_abs (divided x) ≤ nat_abs x
unfolding divided
divided-size (pos a) = omega (arith, nearest-is a)
divided-size (negsuc a) = omega (arith, nearest-is (suc a), minus-size (pos (nearest (suc a))))

-- ---- the code's numbers

-- the quotient toward minus infinity
abbrev pub below : ℤ → ℤ
below x = int_div_euclid x (pos 65536)

-- what is left of x above it
abbrev pub left : ℤ → ℤ
left x = int_rem_euclid x (pos 65536)

-- what is left, as a number of its own
abbrev rest : ℤ → ℕ
rest (pos a) = a % 65536
rest (negsuc a) = 65535 - a % 65536

left_is : (x : ℤ) → left x ≡ pos (rest x)
left_is (pos a) = refl
left_is (negsuc a) = refl

remainder-size : (x : ℤ) (d : ℕ) → nat_abs (rem_z x (pos d)) ≡ nat_abs x % d
remainder-size (pos a) d = refl
remainder-size (negsuc a) d = minus-size (pos (suc a % d))

odd-fits : (q : ℤ) → FitsSigned w64 (rem_z q (pos 2))
odd-fits q = small-fits w64 _ (omega (arith, remainder-size q 2))

-- one above the quotient fits
pub next_fits : (x : ℤ) → FitsSigned w64 x → FitsSigned w64 (below x +ℤ pos 1)
next_fits x f = small-fits w64 _ (omega (arith, size x f, sum-size (below x) (pos 1)))
  where
    size : (z : ℤ) → FitsSigned w64 z → nat_abs (below z) ≤ 140737488355328
    size (pos a) g = let h = g.sfits in omega arith
    size (negsuc a) g = let h = g.sfits in omega arith

-- ---- which quotient is the nearest, by what is left

successor : (k n : ℕ) → k ≡ n → suc_ℤ (negsuc k) ≡ minus n
successor zero n e = ap minus e
successor (suc k) n e = ap minus e

under : (x : ℤ) → rest x < 32768 → below x ≡ divided x
unfolding divided
under (pos a) h = ap pos (omega (arith, nearest-is a))
under (negsuc a) h = ap minus {x = suc (a / 65536)} {y = nearest (suc a)} (omega (arith, nearest-is (suc a)))

over : (x : ℤ) → 32768 < rest x → below x +ℤ pos 1 ≡ divided x
unfolding divided
over (pos a) h = ap pos (omega (arith, nearest-is a))
over (negsuc a) h = +ℤ_one (negsuc (a / 65536)) ∙ successor (a / 65536) (nearest (suc a)) (omega (arith, nearest-is (suc a)))

-- a tie, and the quotient toward minus infinity is even
even : (x : ℤ) → rest x ≡ 32768 → nat_abs (below x) % 2 ≡ 0 → below x ≡ divided x
unfolding divided
even (pos a) h e = ap pos (omega (arith, tie-is a h))
even (negsuc a) h e = ap minus {x = suc (a / 65536)} {y = nearest (suc a)} (omega (arith, tie-is (suc a) (omega arith)))

-- a tie, and it is odd
odd : (x : ℤ) → rest x ≡ 32768 → nat_abs (below x) % 2 ≡ 1 → below x +ℤ pos 1 ≡ divided x
unfolding divided
odd (pos a) h e = ap pos (omega (arith, tie-is a h))
odd (negsuc a) h e = +ℤ_one (negsuc (a / 65536)) ∙ successor (a / 65536) (nearest (suc a)) (omega (arith, tie-is (suc a) (omega arith)))

-- ---- what the code returns

left_by : (x : ℤ) (P : ℤ → Type 0) → P (left x) → P (pos (rest x))
left_by x P h = subst P (left_is x) h

pub divided-under : (x : ℤ) → lt_z (left x) (pos 32768) ≡ true → below x ≡ divided x
divided-under x h = under x (ltb-true (rest x) 32768 (left_by x (λ z. lt_z z (pos 32768) ≡ true) h))

pub divided-over : (x : ℤ) → lt_z (pos 32768) (left x) ≡ true → below x +ℤ pos 1 ≡ divided x
divided-over x h = over x (ltb-true 32768 (rest x) (left_by x (λ z. lt_z (pos 32768) z ≡ true) h))

-- a number is 0 exactly where its bits are
zero_of : (z : ℤ) → FitsSigned w64 z → of_z w64 z ≡ 0 → nat_abs z ≡ 0
zero_of z f h = ap nat_abs (sym (to_z-of_z f) ∙ ap (to_z w64) h)

of_zero : (z : ℤ) → nat_abs z ≡ 0 → of_z w64 z ≡ 0
of_zero (pos zero) e = refl
of_zero (pos (suc n)) e = absurd (omega arith)
of_zero (negsuc n) e = absurd (omega arith)

module _ (x : ℤ) (under : lt_z (left x) (pos 32768) ≡ false) (over : lt_z (pos 32768) (left x) ≡ false) where
  tie : rest x ≡ 32768
  tie =
      let least = ltb-false (rest x) 32768 (left_by x (λ z. lt_z z (pos 32768) ≡ false) under) in
      let most = ltb-false 32768 (rest x) (left_by x (λ z. lt_z (pos 32768) z ≡ false) over) in
      omega (arith, least, most)

  parity : nat_abs (rem_z (below x) (pos 2)) ≡ nat_abs (below x) % 2
  parity = remainder-size (below x) 2

  pub divided-even : of_z w64 (rem_z (below x) (pos 2)) ≡ 0 → below x ≡ divided x
  divided-even h = even x tie (sym parity ∙ zero_of (rem_z (below x) (pos 2)) (odd-fits (below x)) h)

  pub divided-odd : (of_z w64 (rem_z (below x) (pos 2)) ≡ 0 → ⊥) → below x +ℤ pos 1 ≡ divided x
  divided-odd h = odd x tie (by (nat_abs (below x) % 2) refl)
    where
      by : (k : ℕ) → nat_abs (below x) % 2 ≡ k → nat_abs (below x) % 2 ≡ 1
      by zero e = absurd (h (of_zero (rem_z (below x) (pos 2)) (parity ∙ e)))
      by (suc k) e = omega arith

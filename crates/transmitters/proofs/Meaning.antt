-- The theorem: in the toolchain's account of IEEE 754, a finite single is converted to the floor of 65536 times the number that it is, an infinity
-- and a NaN are missing, and 32 bits are converted as the single that they stand for. Assumes nothing.
use mathlib.Core.Path.{◌≡◌, refl, sym, ap, ◌∙◌, subst}
use mathlib.Core.Bool.{Bool, true, false, not, cond}
use Prim.Native.Nat.{ℕ, zero, suc, ◌+◌, ◌-◌, ◌*◌, ◌^◌, ◌<◌}
use native.Mathlib.Nat as NatL
use native.Mathlib.Omega.{arith}
use lib.Dec.{T, eqb, eqb-suc-zero}
use lib.IntN.{ℤ}
use lib.Pow.{pow_pos}
use lib.Ieee.{Float, nan, inf, fin, binary32, up, down, odd, fits, is_nan, nan_bits, of_fields, of_bits, to_bits}
use lib.Ieee.Fits.{down_pos}
use lib.Ieee.Bits.{of_bits-to_bits, to_bits-of_bits, nan_bits_is}
use lib.Ieee.Exact.{HasValue, odd_sign}
use Rattle.lists.specs.Choice.{pick}
use Rattle.lists.proofs.Booleans.{both}
use Rattle.lists.proofs.Choice.{pick_true, pick-false}
use Rattle.transmitters.specs.Single.{negative, exponent, fraction, magnitude, scale, signed, floor, in_units}
use Rattle.transmitters.specs.Conversion.{missing, within_i32, converted_single, converted_newtons}
use Rattle.transmitters.specs.Meaning.{Floored, SinglesMean}
use Rattle.transmitters.proofs.Floor.{floor-is, floor-same}
use Rattle.transmitters.proofs.Bits.{scale-pos, powers}
use Rattle.transmitters.proofs.Newtons.{newtons-nan, newtons-bits, nan-only}

-- ---- exponent and fraction, as lib.Ieee reads them

of_bits_is : (b : ℕ) → of_bits binary32 b ≡ of_fields binary32 (negative b) (exponent b) (fraction b)
unfolding of_bits exponent
of_bits_is b = refl

-- below an exponent of 255 the value is ± magnitude × 2^(scale − 1) / 2^149
abbrev Read : Bool → ℕ → ℕ → Float → Type 0
Read s x t v = (eqb x 255 ≡ false) × HasValue v s (pick (eqb x 0) t (2 ^ 23 + t) * 2 ^ (pick (eqb x 0) 1 x - 1)) (2 ^ 149)

abbrev finite : Float → Bool
finite nan = false
finite (inf s) = false
finite (fin s m e) = true

suc-pred : (x : ℕ) → suc x - 1 ≡ x
suc-pred x = omega arith

-- by the test of 255
at-255 : (b c : Bool) (s : Bool) (v : Float) → T (finite (cond b (cond c (inf s) nan) v)) → b ≡ false
at-255 true true s v f = absurd f
at-255 true false s v f = absurd f
at-255 false c s v f = refl

read : (s : Bool) (x t : ℕ) → T (finite (of_fields binary32 s x t)) → Read s x t (of_fields binary32 s x t)
unfolding of_fields pick
read s zero t f = (refl, odd_sign 24 s t 0 149)
read s (suc x) t f =
    let below : eqb (suc x) 255 ≡ false = at-255 (eqb (suc x) 255) (eqb t 0) s (odd 24 s (2 ^ 23 + t) x 149) f in
    let same : pick (eqb (suc x) 0) t (2 ^ 23 + t) * 2 ^ (pick (eqb (suc x) 0) 1 (suc x) - 1) ≡ (2 ^ 23 + t) * 2 ^ x =
    ap (λ (b : Bool). pick b t (2 ^ 23 + t) * 2 ^ (pick b 1 (suc x) - 1)) (eqb-suc-zero x) ∙ ap (λ (i : ℕ). (2 ^ 23 + t) * 2 ^ i) (suc-pred x) in (
      below,
      subst (λ (v : Float). HasValue v s (pick (eqb (suc x) 0) t (2 ^ 23 + t) * 2 ^ (pick (eqb (suc x) 0) 1 (suc x) - 1)) (2 ^ 149))
          (sym (ap (λ (b : Bool). cond b (cond (eqb t 0) (inf s) nan) (odd 24 s (2 ^ 23 + t) x 149)) below))
          (subst (λ (a : ℕ). HasValue (odd 24 s (2 ^ 23 + t) x 149) s a (2 ^ 149)) (sym same) (odd_sign 24 s (2 ^ 23 + t) x 149)),
    )

-- of the bits of a finite single
read-bits : (b : ℕ) (v : Float) → of_bits binary32 b ≡ v → T (finite v)
    → (eqb (exponent b) 255 ≡ false) × HasValue v (negative b) (magnitude b * 2 ^ (scale b - 1)) (2 ^ 149)
unfolding magnitude scale
read-bits b v e f =
    let is : of_fields binary32 (negative b) (exponent b) (fraction b) ≡ v = sym (of_bits_is b) ∙ e in
    subst (λ (w : Float). Read (negative b) (exponent b) (fraction b) w) is
    (read (negative b) (exponent b) (fraction b) (subst (λ (w : Float). T (finite w)) (sym is) f))

-- ---- from ± magnitude × 2^(scale − 1) / 2^149 to ± magnitude × 2^(scale − 134) / 2^16

rescaled : (u d a p : ℕ) → 0 < p → u * 2 ^ 149 ≡ a * 2 ^ (p - 1) * d → a * 2 ^ (p - 134) * d ≡ u * 65536 * 2 ^ (134 - p)
rescaled u d a p h e =
    let k = p - 1 - (p - 134) in
    let ups : p - 134 + k ≡ p - 1 = omega arith in
    let downs : 16 + (134 - p) + k ≡ 149 = omega arith in
    NatL.eq_of_mul-eq-mul_right (2 ^ k) (pow_pos k) (a * 2 ^ (p - 134) * d) (u * 65536 * 2 ^ (134 - p))
    (NatL.mul_right_comm (a * 2 ^ (p - 134)) d (2 ^ k)
    ∙ ap (λ (x : ℕ). x * d) (powers a (p - 134) k ∙ ap (λ (i : ℕ). a * 2 ^ i) ups)
    ∙ sym e
    ∙ ap (λ (i : ℕ). u * 2 ^ i) (sym downs)
    ∙ sym (powers u (16 + (134 - p)) k)
    ∙ ap (λ (x : ℕ). x * 2 ^ k) (sym (powers u 16 (134 - p))))

-- ---- a finite single

module _ (s : Bool) (m : ℕ) (e : ℤ) (held : T (fits binary32 (fin s m e))) where
  abbrev bits : ℕ
  bits = to_bits binary32 (fin s m e)

  -- 65536 times its number is a / down e
  abbrev a : ℤ
  a = signed s (m * up e * 65536)

  held-bits : (eqb (exponent bits) 255 ≡ false) × (s ≡ negative bits) × (m * up e * 2 ^ 149 ≡ magnitude bits * 2 ^ (scale bits - 1) * down e)
  held-bits =
      let r = read-bits bits (fin s m e) (of_bits-to_bits binary32 (fin s m e) held) tt in
      (r.0, r.1.0, r.1.1)

  units-is : in_units bits ≡ floor a (down e)
  unfolding in_units
  units-is =
      let p = scale bits in
      floor-same (negative bits) (magnitude bits * 2 ^ (p - 134)) (2 ^ (134 - p)) (m * up e * 65536) (down e) (pow_pos (134 - p)) (down_pos e)
      (rescaled (m * up e) (down e) (magnitude bits) p (scale-pos bits) held-bits.2)
      ∙ ap (λ (t : Bool). floor (signed t (m * up e * 65536)) (down e)) (sym held-bits.1)

  newtons-finite : converted_newtons (fin s m e) ≡ within_i32 (floor a (down e))
  unfolding converted_single is_nan
  newtons-finite = newtons-bits (fin s m e) refl ∙ pick-false _ _ _ held-bits.0 ∙ ap within_i32 units-is

  floored : Floored s m e
  floored = record { z = floor a (down e); floor = floor-is (down e) (down_pos e) a; value = newtons-finite }

-- ---- an infinity

newtons-infinite : (s : Bool) → converted_newtons (inf s) ≡ missing
unfolding converted_newtons converted_single is_nan to_bits exponent pick
newtons-infinite true = refl
newtons-infinite false = refl

-- ---- 32 bits

nan-bits : (b : ℕ) → nan_bits binary32 b ≡ true → converted_single b ≡ missing
unfolding nan_bits converted_single exponent
nan-bits b h = pick_true _ _ _ (both (eqb (exponent b) 255) (not (eqb (fraction b) 0)) h).0

single-bits : (b : ℕ) → b < 2 ^ 32 → converted_single b ≡ converted_newtons (of_bits binary32 b)
single-bits b h = by (is_nan (of_bits binary32 b)) refl
  where
    by : (c : Bool) → is_nan (of_bits binary32 b) ≡ c → converted_single b ≡ converted_newtons (of_bits binary32 b)
    by true e = nan-bits b (nan_bits_is binary32 b ∙ e) ∙ sym newtons-nan ∙ sym (ap converted_newtons (nan-only (of_bits binary32 b) e))
    by false e =
        ap converted_single (sym (to_bits-of_bits binary32 b h (subst (λ (c : Bool). T (not c)) (sym e) tt))) ∙ sym (newtons-bits (of_bits binary32 b) e)

-- ---- the theorem

pub singles-mean : SinglesMean
singles-mean = record { finite = floored; infinite = newtons-infinite; no_number = newtons-nan; bits = single-bits }

-- Laws of a single's bits: sign, exponent and fraction, the code's one division in place of the definition's two powers, and the range of i32.
-- Assumes nothing.
use mathlib.Core.Path.{◌≡◌, refl, sym, ap, ◌∙◌, subst}
use mathlib.Core.Bool.{Bool, true, false, ◌||◌}
use Rattle.std.specs.Prelude.{Option, None, Some, Result, Ok, Err, OkIff}
use Rattle.std.specs.Result.{result_ok}
use Prim.Native.Nat.{ℕ, zero, suc, ◌+◌, ◌-◌, ◌*◌, ◌/◌, ◌^◌, ◌≤◌, ◌<◌}
use native.Mathlib.Nat as NatL
use native.Mathlib.Omega.{arith}
use lib.Dec.{eqb}
use lib.IntN.{ℤ, pos, negsuc, neg_ℤ, ◌-ℤ◌, +ℤ_idl}
use lib.Signed.{mag, lt_z}
use lib.Pow.{pow-add, pow_pos, pow_mono}
use borrow.Author.Tests.{lt-leb, le-leb, lt-ltb, le-ltb, ltb-false, eq-eqb, ne_eqb}
use mir.Syntax.{w32, w64}
use mir.Val.{SFits, Fits, to_z, of_z}
use mir.Facts.{to_z-of_z, to_z_pos}
use Rattle.lists.specs.Choice.{pick}
use Rattle.lists.proofs.Choice.{pick-ok, pick_true, pick-false}
use Rattle.transmitters.specs.Single.{negative, exponent, fraction, magnitude, scale, signed, floor, in_units}
use Rattle.transmitters.specs.Conversion.{missing, within_i32, converted_single}
use Rattle.transmitters.proofs.Floor.{floor-same}

-- ---- exponent and fraction

module _ (bits : ℕ) where
  pub magnitude-subnormal : exponent bits ≡ 0 → magnitude bits ≡ fraction bits
  unfolding magnitude
  magnitude-subnormal e = pick_true _ _ _ (eq-eqb (exponent bits) 0 e)

  pub magnitude-normal : (exponent bits ≡ 0 → ⊥) → magnitude bits ≡ 2 ^ 23 + fraction bits
  unfolding magnitude
  magnitude-normal n = pick-false _ _ _ (ne_eqb (exponent bits) 0 n)

  pub scale-subnormal : exponent bits ≡ 0 → scale bits ≡ 1
  unfolding scale
  scale-subnormal e = pick_true _ _ _ (eq-eqb (exponent bits) 0 e)

  pub scale-normal : (exponent bits ≡ 0 → ⊥) → scale bits ≡ exponent bits
  unfolding scale
  scale-normal n = pick-false _ _ _ (ne_eqb (exponent bits) 0 n)

  -- the test of the exponent as a fact
  by-exponent : {P : Type 0} → (exponent bits ≡ 0 → P) → ((exponent bits ≡ 0 → ⊥) → P) → P
  by-exponent {P} y n = by (exponent bits) refl
    where
      by : (e : ℕ) → exponent bits ≡ e → P
      by zero q = y q
      by (suc e) q = n (λ z. omega arith)

  fraction-lt : fraction bits < 8388608
  fraction-lt = NatL.mod-lt bits (pow_pos 23)

  pub magnitude-lt : magnitude bits < 16777216
  magnitude-lt = by-exponent (λ e. omega (arith, magnitude-subnormal e, fraction-lt)) (λ n. omega (arith, magnitude-normal n, fraction-lt))

  pub scale-pos : 0 < scale bits
  scale-pos = by-exponent (λ e. omega (arith, scale-subnormal e)) (λ n. omega (arith, scale-normal n, n))

-- for the functions of those names
pub ruleset by_exponents = (magnitude-subnormal, magnitude-normal, scale-subnormal, scale-normal)

-- ---- the sign

module _ (n : ℕ) (h : Fits w32 n) where
  plain : to_z w64 n ≡ pos n
  plain = to_z_pos w64 (omega arith)

  minus-fits : (k : ℕ) → k ≡ n → SFits w64 (neg_ℤ (pos k))
  minus-fits zero e = record { sfits = omega arith }
  minus-fits (suc k) e = record { sfits = omega arith }

  minus_is : pos 0 -ℤ to_z w64 n ≡ neg_ℤ (pos n)
  minus_is = ap (λ (z : ℤ). pos 0 -ℤ z) plain ∙ +ℤ_idl (neg_ℤ (pos n))

  pub signed-fits : SFits w64 (pos 0 -ℤ to_z w64 n)
  signed-fits = subst (SFits w64) (sym minus_is) (minus-fits n refl)

  pub signed-plain : (bits : ℕ) → bits < 2147483648 → to_z w64 n ≡ signed (negative bits) n
  signed-plain bits l = plain ∙ sym (pick-false _ _ _ (lt-leb 2147483648 bits l))

  pub signed-minus : (bits : ℕ) → 2147483648 ≤ bits → to_z w64 (of_z w64 (pos 0 -ℤ to_z w64 n)) ≡ signed (negative bits) n
  signed-minus bits l = to_z-of_z signed-fits ∙ minus_is ∙ sym (pick_true _ _ _ (le-leb 2147483648 bits l))

pub signed-small : (s : Bool) (n : ℕ) → n < 4294967296 → mag (signed s n) < 4294967296
unfolding pick
signed-small false n h = h
signed-small true zero h = h
signed-small true (suc n) h = NatL.lt_of_le_of_lt (NatL.le-suc n) h

-- ---- the range of i32

pub within_low : (z : ℤ) → lt_z z (negsuc 2147483647) ≡ true → within_i32 z ≡ missing
unfolding within_i32
within_low z h = pick_true _ _ _ (ap (λ (b : Bool). b || lt_z (pos 2147483647) z) h)

module _ (z : ℤ) (h : lt_z z (negsuc 2147483647) ≡ false) where
  pub within-high : lt_z (pos 2147483647) z ≡ true → within_i32 z ≡ missing
  unfolding within_i32
  within-high k = pick_true _ _ _ (ap (λ (b : Bool). b || lt_z (pos 2147483647) z) h ∙ k)

  pub within-range : lt_z (pos 2147483647) z ≡ false → within_i32 z ≡ Some z
  unfolding within_i32
  within-range k = pick-false _ _ _ (ap (λ (b : Bool). b || lt_z (pos 2147483647) z) h ∙ k)

pub range-fits : (z : ℤ) → lt_z z (negsuc 2147483647) ≡ false → lt_z (pos 2147483647) z ≡ false → SFits w32 z
range-fits (pos n) h k = record { sfits = omega (arith, ltb-false 2147483647 n k) }
range-fits (negsuc n) h k = record { sfits = omega (arith, ltb-false 2147483647 n h) }

-- and back
fits-low : (z : ℤ) → SFits w32 z → lt_z z (negsuc 2147483647) ≡ false
fits-low (pos n) f = refl
fits-low (negsuc n) f = le-ltb 2147483647 n (omega arith)

fits-high : (z : ℤ) → SFits w32 z → lt_z (pos 2147483647) z ≡ false
fits-high (pos n) f = le-ltb 2147483647 n (omega arith)
fits-high (negsuc n) f = refl

-- what the conversion of i64 to i32 gives, where it gives something
pub within-converted : {E : Type 0} (z : ℤ) (r : Result ℤ E) → OkIff r (SFits w32 z) z → result_ok r ≡ within_i32 z
within-converted z (Ok x) h = ap Some h.1 ∙ sym (within-range z (fits-low z h.0) (fits-high z h.0))
within-converted z (Err e) h = by (lt_z z (negsuc 2147483647)) (lt_z (pos 2147483647) z) refl refl
  where
    by : (a b : Bool) → lt_z z (negsuc 2147483647) ≡ a → lt_z (pos 2147483647) z ≡ b → None ≡ within_i32 z
    by true b p q = sym (within_low z p)
    by false true p q = sym (within-high z p q)
    by false false p q = absurd (h (range-fits z p q))

-- ---- up to a scale of 142

pub powers : (a i j : ℕ) → a * 2 ^ i * 2 ^ j ≡ a * 2 ^ (i + j)
powers a i j = NatL.mul_assoc a (2 ^ i) (2 ^ j) ∙ ap (λ (x : ℕ). a * x) (sym (pow-add 2 i j))

near-powers : (a p : ℕ) → p ≤ 142 → a * 2 ^ (p - 134) * 2 ^ (142 - p) ≡ a * 256 * 2 ^ (134 - p)
near-powers a p h =
    let e : p - 134 + (142 - p) ≡ 8 + (134 - p) = omega arith in
    powers a (p - 134) (142 - p) ∙ ap (λ (i : ℕ). a * 2 ^ i) e ∙ sym (powers a 8 (134 - p))

not_255 : (bits : ℕ) → scale bits ≤ 142 → eqb (exponent bits) 255 ≡ false
not_255 bits h = ne_eqb (exponent bits) 255 (λ e. let n : exponent bits ≡ 0 → ⊥ = λ z. omega arith in omega (arith, scale-normal bits n))

pub single-near : (bits : ℕ) → scale bits ≤ 142
    → within_i32 (floor (signed (negative bits) (magnitude bits * 256)) (2 ^ (142 - scale bits))) ≡ converted_single bits
unfolding converted_single in_units
single-near bits h =
    let p = scale bits in
    let m = magnitude bits in
    ap within_i32
    (sym (floor-same (negative bits) (m * 2 ^ (p - 134)) (2 ^ (134 - p)) (m * 256) (2 ^ (142 - p)) (pow_pos (134 - p)) (pow_pos (142 - p))
    (near-powers m p h)))
    ∙ sym (pick-false _ _ _ (not_255 bits h))

-- ---- beyond it

outside : (s : Bool) (n : ℕ) → 4294967296 ≤ n → within_i32 (floor (signed s n) 1) ≡ missing
unfolding floor pick
outside false n h = within-high (pos (n / 1)) refl (lt-ltb 2147483647 (n / 1) (omega arith))
outside true zero h = absurd (omega arith)
outside true (suc n) h = within_low (negsuc (n / 1)) (lt-ltb 2147483647 (n / 1) (omega arith))

pub single-far : (bits : ℕ) → 142 < scale bits → converted_single bits ≡ missing
unfolding converted_single in_units
single-far bits h =
    let p = scale bits in
    let m = magnitude bits in
    let normal : exponent bits ≡ 0 → ⊥ = λ z. omega (arith, scale-subnormal bits z) in
    let large : 8388608 ≤ m = omega (arith, magnitude-normal bits normal) in
    let none : 134 - p ≡ 0 = omega arith in
    let past : 9 ≤ p - 134 = omega arith in
    let up : 2 ^ 9 ≤ 2 ^ (p - 134) = pow_mono past in
    pick-ok (λ (r : Option ℤ). r ≡ missing) _ missing _ (λ _. refl)
    (λ _. ap (λ (i : ℕ). within_i32 (floor (signed (negative bits) (m * 2 ^ (p - 134))) (2 ^ i))) none
    ∙ outside (negative bits) (m * 2 ^ (p - 134)) (NatL.mul-le-mul large up))

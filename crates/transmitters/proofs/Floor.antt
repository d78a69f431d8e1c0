-- Laws of `floor`: what it means, equal fractions, a shift, and a divisor beyond the dividend. Assumes nothing.
use mathlib.Core.Path.{◌≡◌, refl, sym, ap, ◌∙◌, subst}
use mathlib.Core.Bool.{Bool, true, false}
use Prim.Native.Nat.{ℕ, zero, suc, ◌+◌, ◌*◌, ◌/◌, ◌%◌, ◌^◌, ◌≤◌, ◌<◌}
use native.Mathlib.Nat as NatL
use native.Mathlib.Omega.{arith}
use lib.IntN.{ℤ, pos, negsuc, neg_ℤ, suc_ℤ, ◌*ℤ◌}
use lib.Signed.{mag, le_z, lt_z, shr_z, mag_shr}
use lib.Pow.{pow_mono}
use lib.Ieee.Nearest.{div_same}
use borrow.Author.Tests.{le-leb, lt-ltb}
use mir.Syntax.{w64}
use mir.Val.{SFits}
use Rattle.std.proofs.Common.{min, ◌⊎◌, inl, inr}
use Rattle.std.proofs.lemmas.Bool.{cases_lt}
use Rattle.lists.specs.Choice.{pick}
use Rattle.transmitters.specs.Single.{signed, floor}
use Rattle.transmitters.specs.Meaning.{IsFloor}

-- ---- what it means

module _ (d : ℕ) (D : 0 < d) where
  whole : (a : ℕ) → d * (a / d) ≤ a
  whole a = NatL.le_trans (NatL.le_of_eq (NatL.mul_comm d (a / d))) (NatL.div-mul-le_self a d)

  next : (a : ℕ) → a < d * suc (a / d)
  next a =
      let split : d * (a / d) + a % d ≡ a = ap (λ (x : ℕ). x + a % d) (NatL.mul_comm d (a / d)) ∙ NatL.div-add-mod' a d in
      let rest : a % d < d = NatL.mod-lt a D in
      let more : d * suc (a / d) ≡ d * (a / d) + d = NatL.mul-suc d (a / d) in
      omega arith

  not-above : (k a : ℕ) → a < k → le_z (neg_ℤ (pos k)) (negsuc a) ≡ true
  not-above zero a h = absurd (omega arith)
  not-above (suc k) a h = le-leb a k (omega arith)

  above : (k a : ℕ) → k ≤ a → lt_z (negsuc a) (neg_ℤ (pos k)) ≡ true
  above zero a h = refl
  above (suc k) a h = lt-ltb k a h

  above-next : (q a : ℕ) → d * q ≤ a → lt_z (negsuc a) (pos d *ℤ suc_ℤ (negsuc q)) ≡ true
  above-next zero a h = refl
  above-next (suc q) a h = above (d * suc q) a h

  pub floor-is : (z : ℤ) → IsFloor (floor z d) z d
  unfolding floor
  floor-is (pos a) = record { not-above = le-leb (d * (a / d)) a (whole a); next-above = lt-ltb a (d * suc (a / d)) (next a) }
  floor-is (negsuc a) = record { not-above = not-above (d * suc (a / d)) a (next a); next-above = above-next (a / d) a (whole a) }

-- ---- equal fractions

less-le : (a b c d : ℕ) → 0 < b → 0 < d → suc a * d ≡ suc c * b → a / b ≤ c / d
less-le a b c d B D e =
    let t = a / b in
    let low : t * b < suc a = NatL.lt_of_le_of_lt (NatL.div-mul-le_self a b) (NatL.lt-suc_self a) in
    let scaled : t * b * d < suc a * d = NatL.mul-lt-mul_of_pos_right low D in
    let moved : t * d * b < suc c * b = subst (λ (x : ℕ). x < suc c * b) (NatL.mul_right_comm t b d) (subst (λ (x : ℕ). t * b * d < x) e scaled) in
    (NatL.le-div_iff_mul-le D).1 (NatL.le_of_suc-le-suc (NatL.lt_of_mul-lt-mul_right b moved))

no_zero : (c b d : ℕ) → 0 < b → 0 * d ≡ suc c * b → ⊥
no_zero c b d B e = NatL.lt_irrefl 0 (subst (λ (x : ℕ). 0 < x) (sym e ∙ NatL.zero-mul d) (NatL.mul-pos (NatL.zero-lt-suc c) B))

pub floor-same : (s : Bool) (a b c d : ℕ) → 0 < b → 0 < d → a * d ≡ c * b → floor (signed s a) b ≡ floor (signed s c) d
unfolding floor pick
floor-same false a b c d B D e = ap pos (div_same a b c d B D e)
floor-same true zero b zero d B D e = ap pos (div_same 0 b 0 d B D e)
floor-same true zero b (suc c) d B D e = absurd (no_zero c b d B e)
floor-same true (suc a) b zero d B D e = absurd (no_zero a d b D (sym e))
floor-same true (suc a) b (suc c) d B D e = ap negsuc (NatL.le_antisymm (less-le a b c d B D e) (less-le c d a b D B (sym e)))

-- ---- a shift

pub floor-shift : (x : ℤ) (d : ℕ) → shr_z x d ≡ floor x d
unfolding floor
floor-shift (pos a) d = refl
floor-shift (negsuc a) d = refl

pub shift_fits : (x : ℤ) (d : ℕ) → SFits w64 x → SFits w64 (shr_z x d)
shift_fits x d f = record { sfits = NatL.lt_of_le_of_lt (mag_shr x d) f.sfits }

gone : (a k : ℕ) → a < 2 ^ 32 → 32 ≤ k → a / 2 ^ 32 ≡ a / 2 ^ k
gone a k h l = NatL.div-eq_of_lt h ∙ sym (NatL.div-eq_of_lt (NatL.lt_of_lt_of_le h (pow_mono l)))

floor-gone : (x : ℤ) (k : ℕ) → mag x < 4294967296 → 32 ≤ k → floor x (2 ^ 32) ≡ floor x (2 ^ k)
unfolding floor
floor-gone (pos a) k h l = ap pos (gone a k h l)
floor-gone (negsuc a) k h l = ap negsuc (gone a k h l)

-- of a number with 32 digits nothing is left after 32 places, and so after more
pub floor-min : (x : ℤ) (k j : ℕ) → mag x < 4294967296 → j ≡ min k 32 → floor x (2 ^ j) ≡ floor x (2 ^ k)
floor-min x k j h e = by (cases_lt k 32)
  where
    by : (k < 32) ⊎ (32 ≤ k) → floor x (2 ^ j) ≡ floor x (2 ^ k)
    by (inl l) = ap (λ (i : ℕ). floor x (2 ^ i)) (omega arith)
    by (inr l) = let is : j ≡ 32 = omega arith in ap (λ (i : ℕ). floor x (2 ^ i)) is ∙ floor-gone x k h l

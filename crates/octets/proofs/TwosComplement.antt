-- An i32 and its 32 bits. The definitions of specs/ are the toolchain's own reading of bits, `to_z w32` and `of_z w32`. Assumes nothing.
use mathlib.Core.Path.{◌≡◌, refl, ap, ◌∙◌}
use mathlib.Core.Bool.{Bool, true, false}
use Prim.Native.Nat.{ℕ, zero, suc, ◌^◌, ◌<◌}
use native.Mathlib.Omega.{arith}
use native.Mathlib.Nat.{zero-add}
use lib.IntN.{ℤ, pos, negsuc, ◌-ℤ◌}
use lib.Signed.{lt_z}
use lib.Dec.{ltb}
use borrow.Author.Tests.{le-ltb}
use mir.Syntax.{w32}
use mir.Val.{SFits, to_z, of_z, sel}
use mir.ValLaws.{to_z-of_z, of_z-to_z, of_z_fits}
use Rattle.lists.specs.Choice.{pick}
use Rattle.octets.specs.Words.{twos_complement, from_twos_complement}

-- ---- the definitions are the toolchain's

pub as-of_z : (z : ℤ) → twos_complement z ≡ of_z w32 z
unfolding twos_complement
as-of_z (pos k) = refl
as-of_z (negsuc k) = refl

pick-sel : (b : Bool) (x y : ℤ) → pick b x y ≡ sel b x y
unfolding pick
pick-sel true x y = refl
pick-sel false x y = refl

pub as-to_z : (x : ℕ) → from_twos_complement x ≡ to_z w32 x
unfolding from_twos_complement
as-to_z x = pick-sel (ltb x 2147483648) _ _

-- ---- the bits and the value give each other

pub bits_back : (x : ℕ) → x < 2 ^ 32 → twos_complement (from_twos_complement x) ≡ x
bits_back x h = as-of_z (from_twos_complement x) ∙ ap (of_z w32) (as-to_z x) ∙ of_z-to_z w32 x (record { fits = h })

pub value-back : (z : ℤ) → SFits w32 z → from_twos_complement (twos_complement z) ≡ z
value-back z s = as-to_z (twos_complement z) ∙ ap (to_z w32) (as-of_z z) ∙ to_z-of_z w32 z s

pub bits-lt : (z : ℤ) → SFits w32 z → twos_complement z < 2 ^ 32
bits-lt z s = rw as-of_z (of_z_fits w32 z s).fits

-- ---- −1 − z, of both signs

pub minus_pos : (k : ℕ) → negsuc 0 -ℤ pos k ≡ negsuc k
minus_pos zero = refl
minus_pos (suc k) = ap (λ (n : ℕ). negsuc (suc n)) (zero-add k)

pub minus-negsuc : (k : ℕ) → negsuc 0 -ℤ negsuc k ≡ pos k
minus-negsuc k = rw (le-ltb (suc k) 1 (omega arith)) (ap pos (omega arith))

-- a number that is not negative
pub record Natural (z : ℤ) : Type 0 where
  pub k : ℕ
  pub same : z ≡ pos k
  pub small : k < 2147483648

pub natural : (z : ℤ) → SFits w32 z → lt_z z (pos 0) ≡ false → Natural z
natural (pos n) s t = record { k = n; same = refl; small = s.sfits }
natural (negsuc k) s t = absurd (let e : ◌≡◌ {A = Bool} true false = t in let z : ◌≡◌ {A = ℕ} 0 1 = cc in omega arith)

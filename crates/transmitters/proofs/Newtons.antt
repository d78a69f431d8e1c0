-- Laws of NaNs: told by themselves and by their bits, they are missing, and any other single is converted by its bits. Assumes nothing.
use mathlib.Core.Path.{◌≡◌, refl, sym, ◌∙◌, subst}
use mathlib.Core.Bool.{true, false}
use lib.Dec.{T}
use Prim.Native.Nat.{ℕ, ◌%◌, ◌≤◌, ◌<◌}
use borrow.Author.Tests.{lt-ltb, le-ltb}
use lib.Ieee.{Float, nan, inf, fin, is_nan, nan_bits, to_bits, of_bits, binary32}
use lib.Ieee.Bits.{nan_bits_is, nan_bits_above}
use Rattle.lists.proofs.Choice.{pick_true, pick-false}
use Rattle.transmitters.specs.Conversion.{missing, converted_single, converted_newtons}

pub newtons-nan : converted_newtons nan ≡ missing
unfolding converted_newtons is_nan
newtons-nan = pick_true _ _ _ refl

pub nan-missing : (x : Float) → is_nan x ≡ true → converted_newtons x ≡ missing
unfolding converted_newtons
nan-missing x h = pick_true _ _ _ h

pub newtons-bits : (x : Float) → is_nan x ≡ false → converted_newtons x ≡ converted_single (to_bits binary32 x)
unfolding converted_newtons
newtons-bits x h = pick-false _ _ _ h

-- for the function that converts a single
pub ruleset by_nan = (nan-missing, newtons-bits)

-- ---- by its bits

pub nan-only : (x : Float) → is_nan x ≡ true → x ≡ nan
unfolding is_nan
nan-only nan h = refl
nan-only (inf s) h = absurd (subst T (sym h) tt)
nan-only (fin s m e) h = absurd (subst T (sym h) tt)

-- above the infinity's bits, without the sign, every pattern is a NaN's
pub nan-above : (bits : ℕ) → 2139095040 < bits % 2147483648 → of_bits binary32 bits ≡ nan
nan-above bits h = nan-only (of_bits binary32 bits) (sym (nan_bits_is binary32 bits) ∙ nan_bits_above binary32 bits ∙ lt-ltb 2139095040 (bits % 2147483648) h)

pub not-nan : (bits : ℕ) → bits % 2147483648 ≤ 2139095040 → nan_bits binary32 bits ≡ false
not-nan bits h = nan_bits_above binary32 bits ∙ le-ltb 2139095040 (bits % 2147483648) h

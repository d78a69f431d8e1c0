-- What the conversion means in the toolchain's account of IEEE 754 (lib.Ieee), where a single is a NaN, an infinity, or `fin s m e`: the number
-- ± m × 2^e, negative where s is true, with 2^e as the fraction up e / down e.
use Rattle.std.specs.Prelude.{ℕ, ◌*◌, ◌^◌, ◌<◌, ◌≡◌, Bool, true, T, ℤ, pos, ◌*ℤ◌}
use Rattle.std.proofs.Math.IntN.{suc_ℤ}
use Rattle.std.specs.Int.Signed.{le_z, lt_z}
use Rattle.std.specs.Float.{nan, inf, fin, binary32}
use Rattle.std.specs.Float.Ieee.{up, down, fits, of_bits}
use Rattle.transmitters.specs.Single.{signed}
use Rattle.transmitters.specs.Conversion.{missing, within_i32, converted_single, converted_newtons}

-- z is the floor of a / d: d × z ≤ a < d × (z + 1)
pub record IsFloor (z a : ℤ) (d : ℕ) : Type 0 where
  pub not-above : le_z (pos d *ℤ z) a ≡ true
  pub next-above : lt_z a (pos d *ℤ suc_ℤ z) ≡ true

-- a finite single is converted to z, if that is inside i32, and z is the floor of 65536 × (± m × up e / down e)
pub record Floored (s : Bool) (m : ℕ) (e : ℤ) : Type 0 where
  pub z : ℤ
  pub floor : IsFloor z (signed s (m * up e * 65536)) (down e)
  pub value : converted_newtons (fin s m e) ≡ within_i32 z

-- of every single that the format holds, and of every 32 bits that a C program hands over
pub record SinglesMean : Type 0 where
  pub finite : (s : Bool) (m : ℕ) (e : ℤ) → T (fits binary32 (fin s m e)) → Floored s m e
  pub infinite : (s : Bool) → converted_newtons (inf s) ≡ missing
  pub no_number : converted_newtons nan ≡ missing
  pub bits : (b : ℕ) → b < 2 ^ 32 → converted_single b ≡ converted_newtons (of_bits binary32 b)

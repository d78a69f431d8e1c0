-- "A reading arrives as a count (i32), as an IEEE 754 single in newtons, or marked missing.": what the law reads of it, in units of 1/65536.
use Rattle.std.specs.Prelude.{ℕ, ◌||◌, List, map, eqb, get_or, ℤ, pos, negsuc, Float, Option, None, Some, is_some, unwrap_or}
use Rattle.std.specs.Int.Signed.{lt_z}
use Rattle.std.specs.Float.Ieee.{is_nan, to_bits}
use Rattle.std.specs.Float.{binary32}
use Rattle.std.specs.Int.{w32}
use Rattle.std.proofs.Common.{SFits}
use Rattle.lists.specs.Choice.{pick}
use Rattle.readings.specs.declared.Readings.{Readings}
use Rattle.transmitters.specs.declared.Reading.{Reading}
use Rattle.transmitters.specs.declared.Reading.TheVariants.{Count, Newtons, Missing}
use Rattle.transmitters.specs.Single.{exponent, in_units}

-- what the law reads of a missing reading: no count
abbrev pub missing : Option ℤ
missing = None

-- "a result outside i32 counts as missing": below −2147483648, which is `negsuc 2147483647`, or above 2147483647
unfoldable pub within_i32 : ℤ → Option ℤ
within_i32 z = pick (lt_z z (negsuc 2147483647) || lt_z (pos 2147483647) z) missing (Some z)

-- a single by its bits. "A NaN, an infinity .. counts as missing": they have the exponent 255
unfoldable pub converted_single : ℕ → Option ℤ
converted_single bits = pick (eqb (exponent bits) 255) missing (within_i32 (in_units bits))

-- a single as a value: of a NaN no bits are asked for, since lib.Ieee has one NaN and a machine has many
unfoldable pub converted_newtons : Float → Option ℤ
converted_newtons x = pick (is_nan x) missing (converted_single (to_bits binary32 x))

-- "A count goes to the law unchanged."
unfoldable pub converted : Reading → Option ℤ
converted (Count n) = Some n
converted (Newtons x) = converted_newtons x
converted Missing = missing

-- "The tick takes these, and 7 looks at them converted.": a row of four, each converted, with 0 under the mark of one that is missing
unfoldable pub converted_row : List Reading → Readings
converted_row y = record { present = map (λ (r : Reading). is_some (converted r)) y; values = map (λ (r : Reading). unwrap_or (converted r) (pos 0)) y }

-- ---- what the type of a reading says, where a number of the logic has no width

-- "a count (i32)"; of a single nothing is asked
abbrev pub CountI32 : Reading → Type 0
CountI32 (Count n) = SFits w32 n
CountI32 (Newtons x) = Unit {0}
CountI32 Missing = Unit {0}

-- each count of a row is an i32
abbrev pub AllCountsI32 : List Reading → Type 0
AllCountsI32 y = (j : ℕ) → CountI32 (get_or y j Missing)

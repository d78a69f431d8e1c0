-- What `offset` tells: where the bits of a number and 2^24 make less than 2^25, modulo 2^32, the number is in the range of a coefficient. Assumes nothing.
use Rattle.std.proofs.Common.{◌≡◌, true, ◌+◌, ◌%◌, ◌<◌, ℤ, pos, negsuc, arith, w32, of_z, FitsSigned}
use Rattle.std.proofs.lemmas.Bool.{le-leb}
use Rattle.law.specs.Settings.{in_range}

pub offset-tells : (z : ℤ) → FitsSigned w32 z → (of_z w32 z + 16777216) % 4294967296 < 33554432 → in_range z ≡ true
unfolding in_range
offset-tells (pos n) f h = let small = f.sfits in le-leb n 16777216 (omega arith)
offset-tells (negsuc n) f h = let small = f.sfits in rw (le-leb n 16777215 (omega arith))

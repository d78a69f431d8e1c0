-- `numbers::single_of` meets its contract. Assumes nothing.
use mathlib.Core.Path.{sym, subst}
use mathlib.Core.Bool.{Bool, not}
use lib.Dec.{T}
use Rattle.std.specs.Float.Ieee.{of_bits}
use Rattle.transmitters.proofs.Newtons.{nan-above, not-nan}
use Rattle.transmitters.proofs.numbers.single_of.Goals as goal

pub returns-then-size-gt2139095040 : goal.returns-then-size-gt2139095040
unfolding of_bits
returns-then-size-gt2139095040 c = sym (nan-above _ c.if-size-gt2139095040.true)

pub float_from_bits-result : goal.float_from_bits-result
float_from_bits-result c = subst (λ (b : Bool). T (not b)) (sym (not-nan _ c.if-size-gt2139095040.false)) tt

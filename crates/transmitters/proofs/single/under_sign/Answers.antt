-- `single::under_sign` meets its contract. Assumes nothing.
use Rattle.transmitters.proofs.Bits.{signed-fits, signed-plain, signed-minus}
use Rattle.transmitters.proofs.single.under_sign.Goals as goal

pub overflow_sub-result : goal.overflow_sub-result
overflow_sub-result c = signed-fits c.args.n c.ranges.n

pub returns-then-bits-lt2147483648 : goal.returns-then-bits-lt2147483648
returns-then-bits-lt2147483648 c = signed-plain c.args.n c.ranges.n c.args.bits c.if-bits-lt2147483648.true

pub returns-else-bits-lt2147483648 : goal.returns-else-bits-lt2147483648
returns-else-bits-lt2147483648 c = signed-minus c.args.n c.ranges.n c.args.bits c.if-bits-lt2147483648.false

-- `printing::put_signed` meets its contract. Assumes nothing.
use Rattle.text.proofs.PrintingLaws.{signed_below, signed-from-zero, then-puts, puts-same}
use Rattle.text.proofs.printing.put_signed.Goals as goal

pub returns-then-z-lt0 : goal.returns-then-z-lt0
returns-then-z-lt0 c =
    puts-same (signed_below c.args.z c.ranges.z c.if-z-lt0.true) (then-puts c.put_byte-at.ensures (rw c.unsigned_abs.ensures.value at c.put_decimal.ensures))

pub returns : goal.returns
returns c = puts-same (signed-from-zero c.args.z c.ranges.z c.if-z-lt0.false) (rw c.unsigned_abs-2.ensures.value at c.put_decimal-2.ensures)

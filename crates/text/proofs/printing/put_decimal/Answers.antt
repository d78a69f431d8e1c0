-- `printing::put_decimal` meets its contract. Assumes nothing.
use Rattle.text.specs.Printing.{decimal}
use Rattle.text.proofs.printing.put_decimal.Goals as goal

pub returns : goal.returns
unfolding decimal
returns c = rw c.from.ensures at c.put_unsigned.ensures

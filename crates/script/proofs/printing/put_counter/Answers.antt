-- `printing::put_counter` meets its contract. Assumes nothing.
use Rattle.text.proofs.PrintingLaws.{then-puts}
use Rattle.script.proofs.printing.put_counter.Goals as goal

pub returns : goal.returns
returns c = then-puts c.put_byte-at.ensures c.put_decimal.ensures

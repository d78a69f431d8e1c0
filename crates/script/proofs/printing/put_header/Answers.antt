-- `printing::put_header` meets its contract. Assumes nothing.
use Rattle.script.specs.Printing.{header_line}
use Rattle.script.proofs.printing.put_header.Goals as goal

pub returns : goal.returns
unfolding header_line
returns c = c.put_word.ensures

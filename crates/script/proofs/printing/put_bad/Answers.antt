-- `printing::put_bad` meets its contract. Assumes nothing.
use Rattle.script.specs.Printing.{bad_alone}
use Rattle.script.proofs.printing.put_bad.Goals as goal

pub returns : goal.returns
unfolding bad_alone
returns c = c.put_word.ensures

-- `printing::bad_line` meets its contract. Assumes nothing.
use Rattle.script.specs.Printing.{bad_line}
use Rattle.text.proofs.PrintingLaws.{then-puts}
use Rattle.script.proofs.printing.bad_line.Goals as goal

pub returns : goal.returns
unfolding bad_line
returns c =
    then-puts c.put_decimal-at.ensures
    c.put_word.ensures

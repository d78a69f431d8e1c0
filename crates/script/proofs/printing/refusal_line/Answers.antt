-- `printing::refusal_line` meets its contract. Assumes nothing.
use Rattle.text.proofs.PrintingLaws.{then-puts}
use Rattle.script.specs.Printing.{refusal_line}
use Rattle.script.proofs.printing.refusal_line.Goals as goal

pub returns : goal.returns
unfolding refusal_line
returns c = then-puts c.put_refusal-at.ensures c.put_word.ensures

-- `decimals::put_ticket` meets its contract. Assumes nothing.
use Rattle.text.proofs.PrintingLaws.{then-puts}
use Rattle.script.specs.Printing.{ticket_word}
use Rattle.script.proofs.decimals.put_ticket.Goals as goal

pub returns : goal.returns
unfolding ticket_word
returns c = then-puts c.put_byte-at.ensures c.put_unsigned.ensures

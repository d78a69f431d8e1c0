-- `printing::put_asked` meets its contract. Assumes nothing.
use borrow.Author.Tests.{eq-eqb, ne_eqb}
use Rattle.lists.specs.Choice.{pick}
use Rattle.text.proofs.PrintingLaws.{then-puts}
use Rattle.script.specs.Printing.{asked_word}
use Rattle.script.proofs.printing.put_asked.Goals as goal

pub returns-then-size-eq0 : goal.returns-then-size-eq0
unfolding asked_word pick
returns-then-size-eq0 c =
    rw (eq-eqb _ _ c.if-size-eq0.true) (then-puts c.put_byte-at.ensures c.put_byte.ensures)

pub returns : goal.returns
unfolding asked_word pick
returns c =
    rw (ne_eqb _ _ c.if-size-eq0.false) (then-puts c.put_byte-at.ensures c.put_byte-2.ensures)

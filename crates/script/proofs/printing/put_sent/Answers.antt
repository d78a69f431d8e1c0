-- `printing::put_sent` meets its contract. Assumes nothing.
use borrow.Author.Tests.{eq-eqb, ne_eqb}
use Rattle.script.specs.Printing.{sent_word}
use Rattle.lists.specs.Choice.{pick}
use Rattle.text.proofs.PrintingLaws.{then-puts}
use Rattle.script.proofs.printing.put_sent.Goals as goal

pub returns-then-size-eq0 : goal.returns-then-size-eq0
unfolding sent_word pick
returns-then-size-eq0 c =
    rw (eq-eqb _ _ c.if-size-eq0.true)
    (then-puts c.put_byte-at.ensures
    c.put_byte.ensures)

pub returns : goal.returns
unfolding sent_word pick
returns c =
    rw (ne_eqb _ _ c.if-size-eq0.false)
    (then-puts c.put_byte-at.ensures
    c.put_decimal.ensures)

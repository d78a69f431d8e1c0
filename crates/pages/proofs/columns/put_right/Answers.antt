-- `columns::put_right` meets its contract. Assumes nothing.
use Rattle.text.proofs.PrintingLaws.{then-puts}
use Rattle.pages.specs.Line.{right}
use Rattle.pages.proofs.columns.put_right.Goals as goal

pub returns : goal.returns
unfolding right
returns c = then-puts (rw c.saturating_sub.ensures at c.put_spaces-at.ensures) c.put_word.ensures

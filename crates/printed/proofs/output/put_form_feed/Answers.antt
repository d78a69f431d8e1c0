-- `output::put_form_feed` meets its contract. Assumes nothing.
use Rattle.text.proofs.PrintingLaws.{then-puts}
use Rattle.printed.proofs.output.put_form_feed.Goals as goal

pub returns : goal.returns
returns c = then-puts c.put_byte-at.ensures c.put_byte.ensures

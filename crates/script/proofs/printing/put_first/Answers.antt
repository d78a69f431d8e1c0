-- `printing::put_first` meets its contract. Assumes nothing.
use Rattle.text.proofs.PrintingLaws.{then-puts}
use Rattle.script.specs.Printing.{first_words}
use Rattle.script.proofs.printing.put_first.Goals as goal

pub returns : goal.returns
unfolding first_words
returns c = (
  then-puts c.put_head-at.ensures (then-puts c.put_counters-at.ensures c.put_state.ensures.0),
  c.put_state.ensures.1,
)

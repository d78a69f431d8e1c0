-- `printing::put_counters` meets its contract. Assumes nothing.
use Rattle.script.specs.Printing.{counter_words}
use Rattle.text.proofs.PrintingLaws.{then-puts}
use Rattle.script.proofs.printing.put_counters.Goals as goal

pub returns : goal.returns
unfolding counter_words
returns c =
    then-puts
    c.put_counter-at.ensures
    (then-puts c.put_counter-at-2.ensures
    (then-puts c.put_counter-at-3.ensures
    c.put_counter.ensures))

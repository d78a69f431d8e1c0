-- `reading::entry_in` meets its contract. Assumes nothing.
use Rattle.pages.specs.Reading.{entry_in}
use Rattle.pages.proofs.reading.entry_in.Goals as goal

pub returns : goal.returns
unfolding entry_in
returns c = λ i. record { period = c.count_at.ensures i; view = c.count_at-2.ensures i; command = c.command_in.ensures i }

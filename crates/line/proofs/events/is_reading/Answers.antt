-- `events::is_reading` meets its contract. Assumes nothing.
use Rattle.std.proofs.Common.{inl, inr}
use Rattle.line.specs.Events.{is_given}
use Rattle.line.proofs.events.is_reading.Goals as goal

pub returns-in-Count : goal.returns-in-Count
unfolding is_given
returns-in-Count c = elim c.in-Count.is [ inl w ↦ rw w.1 | inr w ↦ rw w.1 ]

pub returns-in-Missing : goal.returns-in-Missing
unfolding is_given
returns-in-Missing c = rw (c.in-Missing.is, c.letter.ensures)

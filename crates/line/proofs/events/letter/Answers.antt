-- `events::letter` meets its contract. Assumes nothing.
use borrow.Author.Tests.{eq-eqb, ne_eqb}
use Rattle.lists.specs.Choice.{pick}
use Rattle.line.specs.Events.{letter_of}
use Rattle.line.proofs.events.letter.Goals as goal

pub returns-then-word-eq1 : goal.returns-then-word-eq1
unfolding letter_of pick
returns-then-word-eq1 c = simp (eq-eqb _ _ c.if-word-eq1.true)

pub returns-else-word-eq1 : goal.returns-else-word-eq1
unfolding letter_of pick
returns-else-word-eq1 c = simp (ne_eqb _ _ c.if-word-eq1.false)

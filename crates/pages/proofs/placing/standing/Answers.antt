-- `placing::standing` meets its contract. Assumes nothing.
use mathlib.Core.Path.{sym, ◌∙◌}
use Rattle.lists.specs.Choice.{pick}
use Rattle.pages.specs.Page.{standing as Page·standing}
use Rattle.pages.proofs.placing.standing.Goals as goal

pub returns-in-Some : goal.returns-in-Some
unfolding Page·standing pick
returns-in-Some c = rw c.in-Some.is

pub returns-then-is_some : goal.returns-then-is_some
unfolding Page·standing pick
returns-then-is_some c = rw (c.in-None.is, sym c.is_some.ensures ∙ c.if-is_some.true)

pub returns-else-is_some : goal.returns-else-is_some
unfolding Page·standing pick
returns-else-is_some c = rw (c.in-None.is, sym c.is_some.ensures ∙ c.if-is_some.false)

-- `events::box_in` meets its contract. Assumes nothing.
use mathlib.Core.Path.{ap, ◌∙◌}
use borrow.Author.Tests.{le-leb, lt-leb}
use Rattle.lists.specs.Choice.{pick}
use Rattle.text.specs.Numbers.{counted}
use Rattle.line.specs.Events.{box_of}
use Rattle.line.proofs.events.box_in.Goals as goal

pub returns-then-n-boxes : goal.returns-then-n-boxes
unfolding box_of pick
returns-then-n-boxes c =
    let e = c.count_of-n.ensures ∙ ap counted c.number_in.ensures in
    let h = le-leb _ _ c.if-n-boxes.true in
    rw (rw e at h) e

pub returns-else-n-boxes : goal.returns-else-n-boxes
unfolding box_of pick
returns-else-n-boxes c =
    let e = c.count_of-n.ensures ∙ ap counted c.number_in.ensures in
    let h = lt-leb _ _ c.if-n-boxes.false in
    rw (rw e at h)

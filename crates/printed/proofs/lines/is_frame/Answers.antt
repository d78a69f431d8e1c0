-- `lines::is_frame` meets its contract. Assumes nothing.
use mathlib.Core.Path.{sym, ap, ◌∙◌}
use Rattle.lists.specs.Choice.{pick}
use Rattle.pages.specs.Reading.{same}
use Rattle.pages.proofs.ReadingLaws.{same_equal}
use Rattle.printed.specs.Lines.{is_frame}
use Rattle.printed.proofs.lines.is_frame.Goals as goal

pub returns-then-is_none : goal.returns-then-is_none
unfolding is_frame
returns-then-is_none c = rw (sym c.is_none.ensures ∙ c.if-is_none.true)

pub returns-then-asks : goal.returns-then-asks
unfolding is_frame pick
returns-then-asks c =
    rw (sym c.is_none.ensures ∙ c.if-is_none.false, c.if-asks.true)
    (c.eq.ensures ∙ same_equal _ _ ∙ ap (same c.args.bytes.now) c.as_slice.ensures)

pub returns-else-asks : goal.returns-else-asks
unfolding is_frame pick
returns-else-asks c = rw (sym c.is_none.ensures ∙ c.if-is_none.false, c.if-asks.false) c.is_up_to.ensures

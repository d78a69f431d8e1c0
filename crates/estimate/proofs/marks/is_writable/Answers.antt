-- `estimate::marks::is_writable` meets its contract: each test of the code is a test of the definition. Assumes nothing.
use Rattle.std.proofs.Common.{sym, ap, not, ◌∙◌}
use Rattle.estimate.specs.Format.{writable}
use Rattle.estimate.proofs.marks.is_writable.Goals as goal

pub returns-then-not-has_mark_beyond : goal.returns-then-not-has_mark_beyond
unfolding writable
returns-then-not-has_mark_beyond c = rw (sym c.has_mark_beyond.ensures ∙ c.if-not-has_mark_beyond.true) c.absent_zero.ensures

pub returns-else-not-has_mark_beyond : goal.returns-else-not-has_mark_beyond
unfolding writable
returns-else-not-has_mark_beyond c = rw (sym c.has_mark_beyond.ensures ∙ c.if-not-has_mark_beyond.false) (ap not c.if-not-has_mark_beyond.false)

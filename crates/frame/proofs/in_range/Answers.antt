-- `frame::in_range` meets its contract. Assumes nothing.
use borrow.Author.Tests.{le-leb, lt-leb}
use Rattle.frame.proofs.in_range.Goals as goal

pub returns-then-size-ge1 : goal.returns-then-size-ge1
returns-then-size-ge1 c = rw (le-leb 1 c.args.size c.if-size-ge1.true)

pub returns-else-size-ge1 : goal.returns-else-size-ge1
returns-else-size-ge1 c = rw (lt-leb 1 c.args.size c.if-size-ge1.false)

-- `entries::commands_ok` meets its contract. Assumes nothing.
use borrow.Author.Tests.{le-leb, lt-leb}
use Rattle.pages.specs.Entries.{commands_ok}
use Rattle.pages.proofs.entries.commands_ok.Goals as goal

pub returns-then-p-ge1 : goal.returns-then-p-ge1
unfolding commands_ok
returns-then-p-ge1 c = rw (le-leb 1 _ c.if-p-ge1.true)

pub returns-else-p-ge1 : goal.returns-else-p-ge1
unfolding commands_ok
returns-else-p-ge1 c = rw (lt-leb 1 _ c.if-p-ge1.false)

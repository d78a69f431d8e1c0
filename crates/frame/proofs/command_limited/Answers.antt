-- `frame::command_limited` meets its contract: byte 2 is looked at where there is room for a command. Assumes nothing.
use borrow.Author.Tests.{le-leb, lt-leb}
use Rattle.frame.specs.Lengths.{longest_command}
use Rattle.frame.specs.Command.{command_limited}
use Rattle.frame.proofs.command_limited.Goals as goal

pub returns-then-area-ge-LONGEST_COMMAND : goal.returns-then-area-ge-LONGEST_COMMAND
unfolding command_limited
returns-then-area-ge-LONGEST_COMMAND c = rw (le-leb longest_command _ c.if-area-ge-LONGEST_COMMAND.true)

pub returns-else-area-ge-LONGEST_COMMAND : goal.returns-else-area-ge-LONGEST_COMMAND
unfolding command_limited
returns-else-area-ge-LONGEST_COMMAND c = rw (lt-leb longest_command _ c.if-area-ge-LONGEST_COMMAND.false)

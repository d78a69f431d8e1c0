-- `frame::command_values` meets its contract: the bytes after the eighth are read into four places. Assumes nothing.
use borrow.Author.Tests.{le-leb, lt-leb}
use Rattle.lists.specs.Choice.{pick}
use Rattle.lists.specs.Places.{filled}
use Rattle.frame.specs.Lengths.{command_start, longest_command}
use Rattle.frame.specs.Command.{command_values}
use Rattle.lists.proofs.Parts.{to_the_end}
use Rattle.frame.proofs.command_values.Goals as goal

pub returns-then-area-lt-LONGEST_COMMAND : goal.returns-then-area-lt-LONGEST_COMMAND
unfolding command_values filled pick
returns-then-area-lt-LONGEST_COMMAND c = rw (lt-leb longest_command _ c.if-area-lt-LONGEST_COMMAND.true)

pub returns : goal.returns
unfolding command_values pick
returns c =
    let area = c.args.area.now in
    rw (c.read_values.ensures, to_the_end area command_start, le-leb longest_command _ c.if-area-lt-LONGEST_COMMAND.false)

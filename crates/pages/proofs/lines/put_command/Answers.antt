-- `lines::put_command` meets its contract. Assumes nothing.
use mathlib.Core.Path.{sym, ap}
use Rattle.text.proofs.PrintingLaws.{puts-same}
use Rattle.pages.specs.Line.{hyphen, command_shown}
use Rattle.pages.proofs.lines.put_command.Goals as goal

pub returns-in-Some : goal.returns-in-Some
unfolding command_shown
returns-in-Some c = puts-same (sym (ap (command_shown c.args.p) c.in-Some.is)) c.put_values.ensures

pub returns-in-None : goal.returns-in-None
unfolding command_shown hyphen
returns-in-None c = puts-same (sym (ap (command_shown c.args.p) c.in-None.is)) c.put_right.ensures

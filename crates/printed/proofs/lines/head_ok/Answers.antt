-- `lines::head_ok` meets its contract. Assumes nothing.
use Rattle.std.proofs.Common.{rules}
use Rattle.printed.specs.Lines.{head_ok}
use Rattle.printed.proofs.lines.head_ok.Goals as goal

pub returns-then-is_up_to-2 : goal.returns-then-is_up_to-2
unfolding head_ok
returns-then-is_up_to-2 c = search rules

pub returns-else-is_up_to-2 : goal.returns-else-is_up_to-2
unfolding head_ok
returns-else-is_up_to-2 c = search rules

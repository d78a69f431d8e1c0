-- `lines::tail_ok` meets its contract. Assumes nothing.
use Rattle.std.proofs.Common.{rules}
use Rattle.printed.specs.Lines.{tail_ok}
use Rattle.printed.proofs.lines.tail_ok.Goals as goal

pub returns-then-is_frame : goal.returns-then-is_frame
unfolding tail_ok
returns-then-is_frame c = search rules

pub returns-else-is_frame : goal.returns-else-is_frame
unfolding tail_ok
returns-else-is_frame c = search rules

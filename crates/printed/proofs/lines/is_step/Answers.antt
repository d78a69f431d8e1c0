-- `lines::is_step` meets its contract. Assumes nothing.
use Rattle.std.proofs.Common.{rules}
use Rattle.printed.specs.Lines.{is_step}
use Rattle.printed.proofs.lines.is_step.Goals as goal

pub returns-then-count_spaces-eq9 : goal.returns-then-count_spaces-eq9
unfolding is_step
returns-then-count_spaces-eq9 c = search rules

pub returns-else-count_spaces-eq9 : goal.returns-else-count_spaces-eq9
unfolding is_step
returns-else-count_spaces-eq9 c = search rules

-- `lines::counters_ok` meets its contract. Assumes nothing.
use Rattle.std.proofs.Common.{rules}
use Rattle.printed.specs.Lines.{counters_ok}
use Rattle.printed.proofs.lines.counters_ok.Goals as goal

pub returns-then-is_counter-3 : goal.returns-then-is_counter-3
unfolding counters_ok
returns-then-is_counter-3 c = search rules

pub returns-else-is_counter-3 : goal.returns-else-is_counter-3
unfolding counters_ok
returns-else-is_counter-3 c = search rules

-- `lines::ten_ok` meets its contract. Assumes nothing.
use Rattle.std.proofs.Common.{rules}
use Rattle.printed.specs.Lines.{ten_ok}
use Rattle.printed.proofs.lines.ten_ok.Goals as goal

pub returns-then-counters_ok : goal.returns-then-counters_ok
unfolding ten_ok
returns-then-counters_ok c = search rules

pub returns-else-counters_ok : goal.returns-else-counters_ok
unfolding ten_ok
returns-else-counters_ok c = search rules

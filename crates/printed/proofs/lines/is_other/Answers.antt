-- `lines::is_other` meets its contract. Assumes nothing.
use Rattle.std.proofs.Common.{rules}
use Rattle.printed.specs.Lines.{is_other}
use Rattle.printed.proofs.lines.is_other.Goals as goal

pub returns-then-is_ask : goal.returns-then-is_ask
unfolding is_other
returns-then-is_ask c = search rules

pub returns-else-is_ask : goal.returns-else-is_ask
unfolding is_other
returns-else-is_ask c = search rules

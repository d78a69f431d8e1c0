-- `lines::is_refusal_number` meets its contract. Assumes nothing.
use Rattle.std.proofs.Common.{rules}
use Rattle.pages.proofs.ReadingLaws.{same_equal}
use Rattle.printed.specs.Lines.{is_refusal_number}
use Rattle.printed.proofs.lines.is_refusal_number.Goals as goal

pub returns-then-eq-2 : goal.returns-then-eq-2
unfolding is_refusal_number
returns-then-eq-2 c = search (rules, same_equal)

pub returns-else-eq-2 : goal.returns-else-eq-2
unfolding is_refusal_number
returns-else-eq-2 c = search (rules, same_equal)

-- `lines::part_end` meets its contract. Assumes nothing.
use Rattle.std.proofs.Common.{arith}
use Rattle.text.proofs.LineLaws.{part_ends}
use Rattle.text.proofs.lines.part_end.Goals as goal

pub overflow_add-result : goal.overflow_add-result
overflow_add-result c = omega (arith, (part_ends _ _ _ _ c.requires (rw c.first.ensures at c.unwrap_or.ensures)).1)

pub returns : goal.returns
returns c = part_ends _ _ _ _ c.requires (rw c.first.ensures at c.unwrap_or.ensures)

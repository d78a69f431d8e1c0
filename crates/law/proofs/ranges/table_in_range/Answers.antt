-- `law::ranges::table_in_range` meets its contract: where all places are surely in range, those in use are. Assumes nothing.
use Rattle.std.proofs.Common.{sym, ◌∙◌}
use Rattle.law.proofs.Sums.{table-holds}
use Rattle.law.proofs.ranges.table_in_range.Goals as goal

pub returns-then-surely_in_range : goal.returns-then-surely_in_range
returns-then-surely_in_range c =
    let x = c.args in
    let h = c.if-surely_in_range.true in
    h ∙ sym (table-holds x.table.now _ x.stride x.rows x.columns c.requires.1 c.requires.3 (c.surely_in_range.ensures h))

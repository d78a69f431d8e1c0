-- `law::ranges::sizes_in_range` meets its contract. Assumes nothing.
use Rattle.law.specs.Settings.{sizes_in_range}
use Rattle.law.proofs.ranges.sizes_in_range.Goals as goal

pub returns : goal.returns
unfolding sizes_in_range
returns c = simp (c.is_one_to.ensures, c.is_one_to-2.ensures, c.is_one_to-3.ensures)

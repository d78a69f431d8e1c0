-- `law::ranges::surely_in_range` meets its contract. The loop's invariant: where `offsets` is below 2^25, the places so far are in range. Assumes nothing.
use Rattle.std.proofs.Common.{◌≡◌, true, ◌<◌}
use Rattle.lists.specs.Below.{all_below}
use Rattle.lists.specs.Places.{entry}
use Rattle.law.specs.Settings.{in_range}
use Rattle.law.proofs.ranges.surely_in_range.Given as goal

abbrev pub invariant-loop-z : goal.invariant-loop-z
invariant-loop-z l = l.offsets < 33554432 → all_below l.z-index (λ i. in_range (entry l.table i)) ≡ true

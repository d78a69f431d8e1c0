-- `law::ranges::limits_in_order` meets its contract. The loop's invariant: the first j limits are in order. Assumes nothing.
use Rattle.std.proofs.Common.{◌≡◌, true}
use Rattle.std.specs.Int.Signed.{le_z}
use Rattle.lists.specs.Below.{all_below}
use Rattle.lists.specs.Places.{entry}
use Rattle.law.proofs.ranges.limits_in_order.Given as goal

abbrev pub invariant-loop-j : goal.invariant-loop-j
invariant-loop-j l = all_below l.j (λ i. le_z (entry l.low i) (entry l.high i)) ≡ true

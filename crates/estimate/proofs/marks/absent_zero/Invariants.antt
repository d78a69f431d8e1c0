-- `estimate::marks::absent_zero` meets its contract. The loop's invariant: the test holds of each reading below j. Assumes nothing.
use Rattle.std.proofs.Common.{◌≡◌, ◌||◌, true}
use Rattle.lists.specs.Places.{entry}
use Rattle.lists.specs.Below.{all_below}
use Rattle.readings.specs.Readings.{present}
use Rattle.estimate.specs.Marks.{is_zero}
use Rattle.estimate.proofs.marks.absent_zero.Given as goal

abbrev pub invariant-loop-j : goal.invariant-loop-j
invariant-loop-j l = all_below l.j (λ k. present l.y k || is_zero (entry l.y.values k)) ≡ true

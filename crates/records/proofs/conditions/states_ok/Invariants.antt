-- `records::conditions::states_ok` meets its contract. The loop's invariant: i is at least n, and the test holds of each place below i. Assumes nothing.
use mathlib.Core.Path.{◌≡◌}
use mathlib.Core.Bool.{Bool, true, ◌||◌}
use mathlib.Core.List.{List}
use Prim.Native.Nat.{ℕ, ◌≤◌}
use lib.Dec.{ltb}
use lib.IntN.{ℤ}
use Rattle.lists.specs.Below.{all_below}
use Rattle.lists.specs.Places.{entry}
use Rattle.estimate.specs.Marks.{is_zero}
use Rattle.records.proofs.conditions.states_ok.Given as goal

abbrev pub test : ℕ → List ℤ → ℕ → Bool
test n state i = ltb i n || is_zero (entry state i)

abbrev pub invariant-loop-i : goal.invariant-loop-i
invariant-loop-i l = (l.n ≤ l.i) × (all_below l.i (test l.n l.state) ≡ true)

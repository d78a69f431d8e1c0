-- `values::values_in` meets its contract. The loop's invariant: the list is one where what lies from `at` on is one of i numbers fewer; the first i
-- places hold its first values and the others 0, and its other values are those from `at` on. Assumes nothing.
use mathlib.Core.Path.{◌≡◌}
use Prim.Native.Nat.{ℕ, ◌+◌, ◌-◌, ◌≤◌}
use lib.ListN.{length, drop}
use lib.IntN.{pos}
use Rattle.lists.specs.Places.{filled}
use Rattle.printed.specs.Values.{is_list, how_many, value_at}
use Rattle.printed.proofs.values.values_in.Given as goal

abbrev pub invariant-loop-i : goal.invariant-loop-i
invariant-loop-i l =
    (l.at ≤ length l.list) × (is_list l.most l.list ≡ is_list (l.most - l.i) (drop l.at l.list))
    × (how_many l.most l.list ≡ l.i + how_many (l.most - l.i) (drop l.at l.list)) × (l.values ≡ filled (pos 0) 6 l.i (value_at l.list))
    × ((j : ℕ) → value_at l.list (l.i + j) ≡ value_at (drop l.at l.list) j) × (length l.values ≡ 6)

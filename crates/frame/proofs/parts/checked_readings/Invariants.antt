-- `frame::parts::checked_readings` meets its contract. The loop's invariant: the first j marks and values are taken, each of them stands as it may,
-- and the marks that are left are those from j on. Assumes nothing.
use mathlib.Core.Path.{◌≡◌}
use mathlib.Core.Bool.{true, false}
use lib.ListN.{get_or, drop}
use lib.IntN.{pos}
use Rattle.lists.specs.Places.{filled}
use Rattle.lists.specs.Below.{all_below}
use Rattle.octets.specs.Words.{value_at}
use Rattle.estimate.specs.Marks.{marks_in}
use Rattle.estimate.specs.Reading.{marks_at}
use Rattle.frame.proofs.EachReading.{left, stands}
use Rattle.frame.proofs.parts.checked_readings.Given as goal

abbrev pub invariant-loop-j : goal.invariant-loop-j
invariant-loop-j l =
    (l.marks_left ≡ left l.j (marks_at l.part))
    × (l.present ≡ filled false 4 l.j (λ i. get_or (marks_in (marks_at l.part)) i false))
    × (l.values ≡ filled (pos 0) 4 l.j (value_at (drop 1 l.part)))
    × (all_below l.j (stands l.m l.part) ≡ true)

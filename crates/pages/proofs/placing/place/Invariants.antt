-- `placing::place` meets its contract. The loop's invariant: of the lines in use the first i are as they shall be, and `moved`, carried through the
-- others, gives them all. Assumes nothing.
use mathlib.Core.Path.{◌≡◌}
use mathlib.Core.List.{◌++◌}
use lib.ListN.{length, take, drop}
use Rattle.pages.proofs.PlacingLaws.{carried}
use Rattle.pages.proofs.placing.place.Given as goal

abbrev pub invariant-loop-i : goal.invariant-loop-i
invariant-loop-i l =
    (length l.lines ≡ 60) × (take l.i (take l.count l.lines) ++ carried l.moved (drop l.i (take l.count l.lines)) ≡ carried l.initial.moved (take l.count l.initial.lines))

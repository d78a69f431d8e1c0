-- `readings::normalise` meets its contract. The loop's invariant: the first j places are filled. Assumes nothing.
use Rattle.std.proofs.Common.{◌≡◌, false, pos}
use Rattle.lists.specs.Places.{filled}
use Rattle.readings.specs.Readings.{present, value}
use Rattle.readings.proofs.normalise.Given as goal

abbrev pub invariant-loop-j : goal.invariant-loop-j
invariant-loop-j l =
    (l.present ≡ filled false 4 l.j (present l.y)) × (l.values ≡ filled (pos 0) 4 l.j (value l.y))

-- `reading::values_in` meets its contract. The loop's invariant: the first j places hold their commands and the others 0. Assumes nothing.
use mathlib.Core.Path.{◌≡◌}
use lib.ListN.{length}
use lib.IntN.{pos}
use Rattle.lists.specs.Places.{filled}
use Rattle.pages.specs.Reading.{value_at}
use Rattle.pages.proofs.reading.values_in.Given as goal

abbrev pub invariant-loop-j : goal.invariant-loop-j
invariant-loop-j l = (l.values ≡ filled (pos 0) 4 l.j (value_at l.line)) × (length l.values ≡ 4)

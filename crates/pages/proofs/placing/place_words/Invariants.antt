-- `placing::place_words` meets its contract. The loop's invariant: what is held is the page of the entries from number i on. Assumes nothing.
use mathlib.Core.Bool.{false}
use Rattle.pages.specs.Placing.{Holds}
use Rattle.pages.proofs.WordLaws.{standing_from}
use Rattle.pages.proofs.placing.place_words.Given as goal

abbrev pub invariant-loop-i : goal.invariant-loop-i
invariant-loop-i l = Holds l.placed (standing_from l.words l.i) false

-- `reading::lines_in` meets its contract. The loop's invariant: the first i places hold what their lines show and the others are blank. Assumes
-- nothing.
use mathlib.Core.Path.{◌≡◌}
use lib.ListN.{length}
use Rattle.lists.specs.Places.{filled}
use Rattle.pages.specs.Entries.{blank}
use Rattle.pages.proofs.ReadingLaws.{shown_by}
use Rattle.pages.proofs.reading.lines_in.Given as goal

abbrev pub invariant-loop-i : goal.invariant-loop-i
invariant-loop-i l = (l.lines ≡ filled blank 60 l.i (shown_by l.p l.bytes)) × (length l.lines ≡ 60)

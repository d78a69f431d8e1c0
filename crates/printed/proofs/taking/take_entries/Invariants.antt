-- `taking::take_entries` meets its contract. The loop's invariant: what was taken so far, and the entries of the lines left, are those of the text.
-- Assumes nothing.
use mathlib.Core.Path.{◌≡◌}
use mathlib.Core.List.{◌++◌}
use Prim.Native.Nat.{◌≤◌}
use lib.ListN.{take}
use Rattle.printed.specs.Pages.{printed_in, entries_in}
use Rattle.printed.proofs.TextLaws.{left}
use Rattle.printed.proofs.taking.take_entries.Given as goal

abbrev pub invariant-loop : goal.invariant-loop
invariant-loop l =
    (l.taken.count ≤ l.counter)
    × (take l.taken.count l.taken.entries ++ entries_in l.p (left l.text l.at l.counter) ≡ entries_in l.p (printed_in l.text))

-- `output::page_from` meets its contract. The loop's invariant: what is held is the page of the entries from number i on. Assumes nothing.
use mathlib.Core.Bool.{false}
use lib.ListN.{drop}
use Rattle.pages.specs.Page.{on_page}
use Rattle.pages.specs.Placing.{Holds}
use Rattle.printed.specs.Placing.{entries_from}
use Rattle.printed.proofs.output.page_from.Given as goal

abbrev pub invariant-loop-i : goal.invariant-loop-i
invariant-loop-i l = Holds l.placed (on_page (entries_from l.from (drop l.i l.entries))) false

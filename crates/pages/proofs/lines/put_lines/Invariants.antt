-- `lines::put_lines` meets its contract. The loop's invariant: the lines so far were put. Assumes nothing.
use lib.ListN.{take}
use Rattle.text.specs.Printing.{Puts}
use Rattle.pages.specs.Page.{page_bytes}
use Rattle.pages.proofs.lines.put_lines.Given as goal

abbrev pub invariant-loop-entry : goal.invariant-loop-entry
invariant-loop-entry l = Puts l.initial.text l.at (page_bytes l.p (take l.entry-index l.entries)) l.end l.text

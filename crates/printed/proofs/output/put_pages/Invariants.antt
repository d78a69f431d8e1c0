-- `output::put_pages` meets its contract. The loop's invariant: so many pages were put, and the entries from `from` on are those of the pages left.
-- Assumes nothing.
use Rattle.printed.proofs.PageLaws.{Sofar}
use Rattle.printed.proofs.output.put_pages.Given as goal

abbrev pub invariant-loop : goal.invariant-loop
invariant-loop l = Sofar l.p l.initial.text l.entries l.text l.end l.from l.counter

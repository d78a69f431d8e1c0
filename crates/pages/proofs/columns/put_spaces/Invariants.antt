-- `columns::put_spaces` meets its contract. The loop's invariant: so many spaces were put. Assumes nothing.
use Rattle.text.specs.Printing.{Puts}
use Rattle.pages.specs.Line.{spaces}
use Rattle.pages.proofs.columns.put_spaces.Given as goal

abbrev pub invariant-loop : goal.invariant-loop
invariant-loop l = Puts l.initial.text l.at (spaces l.counter) l.end l.text

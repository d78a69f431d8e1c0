-- `columns::put_values` meets its contract. The loop's invariant: the numbers so far were put. Assumes nothing.
use lib.ListN.{take}
use Rattle.text.specs.Printing.{Puts}
use Rattle.pages.specs.Line.{command_columns}
use Rattle.pages.proofs.columns.put_values.Given as goal

abbrev pub invariant-loop-z : goal.invariant-loop-z
invariant-loop-z l = Puts l.initial.text l.at (command_columns (take l.z-index l.values)) l.end l.text

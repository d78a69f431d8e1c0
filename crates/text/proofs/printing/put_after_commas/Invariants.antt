-- `printing::put_after_commas` meets its contract. The loop's invariant: the numbers before the index were put.
use Rattle.std.proofs.Common.{take}
use Rattle.text.specs.Printing.{Puts, after_commas}
use Rattle.text.proofs.printing.put_after_commas.Given as goal

abbrev pub invariant-loop-z : goal.invariant-loop-z
invariant-loop-z l = Puts l.initial.text l.at (after_commas (take l.z-index l.values)) l.end l.text

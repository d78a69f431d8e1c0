-- `printing::put_word` meets its contract. The loop's invariant: the bytes before the index were put.
use Rattle.std.proofs.Common.{take}
use Rattle.text.specs.Printing.{Puts}
use Rattle.text.proofs.printing.put_word.Given as goal

abbrev pub invariant-loop-b : goal.invariant-loop-b
invariant-loop-b l = Puts l.initial.text l.at (take l.b-index l.word) l.end l.text

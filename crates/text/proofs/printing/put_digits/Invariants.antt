-- `printing::put_digits` meets its contract. The loop's invariant: the digits of n are those of `rest` before the ones that stand from i on.
use Rattle.std.proofs.Common.{◌≡◌, [], length, drop}
use Rattle.text.specs.Printing.{digits_before}
use Rattle.text.proofs.printing.put_digits.Given as goal

abbrev pub invariant-loop-i : goal.invariant-loop-i
invariant-loop-i l = digits_before (length l.initial.area) l.n [] ≡ digits_before l.i l.rest (drop l.i l.area)

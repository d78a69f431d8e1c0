-- `octets::values::read_values` meets its contract. The loop's invariant: the first i places hold their values and the others 0. Assumes nothing.
use Rattle.std.proofs.Common.{◌≡◌, length, pos}
use Rattle.lists.specs.Places.{filled}
use Rattle.octets.specs.Words.{value_at}
use Rattle.octets.proofs.values.read_values.Given as goal

abbrev pub invariant-loop-i : goal.invariant-loop-i
invariant-loop-i l = l.out ≡ filled (pos 0) (length l.initial.out) l.i (value_at l.part)

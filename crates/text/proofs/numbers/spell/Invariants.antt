-- `numbers::spell` meets its contract. The loop's invariant: what the digits spell is what those from the index on spell after n.
use Rattle.std.proofs.Common.{◌≡◌, drop}
use Rattle.text.specs.Numbers.{spelled}
use Rattle.text.proofs.numbers.spell.Given as goal

abbrev pub invariant-loop-b : goal.invariant-loop-b
invariant-loop-b l = spelled l.largest 0 l.digits ≡ spelled l.largest l.n (drop l.b-index l.digits)

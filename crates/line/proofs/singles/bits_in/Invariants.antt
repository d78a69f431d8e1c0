-- `singles::bits_in` meets its contract. The loop's invariant: what the digits spell is what those from the index on spell after those before, which are
-- `bits`, of four bits each.
use Rattle.std.proofs.Common.{◌≡◌, ◌^◌, ◌<◌, drop}
use Rattle.line.proofs.SingleLaws.{spelled}
use Rattle.line.proofs.singles.bits_in.Given as goal

abbrev pub invariant-loop-b : goal.invariant-loop-b
invariant-loop-b l = record { small : l.bits < 16 ^ l.b-index; same : spelled 0 l.digits ≡ spelled l.bits (drop l.b-index l.digits) }

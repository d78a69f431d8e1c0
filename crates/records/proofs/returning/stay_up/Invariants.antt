-- `returning::stay_up` meets its contract: after each missed period, what is left is owed at the replica so far. Assumes nothing.
use Rattle.std.proofs.Common.{◌≡◌, ◌-◌}
use Rattle.records.specs.Returning.{stayed_up, passes_largest}
use Rattle.records.proofs.returning.stay_up.Given as goal

abbrev pub invariant-loop : goal.invariant-loop
invariant-loop l =
    (passes_largest l.missed l.fn.replica ≡ passes_largest (l.missed - l.counter) l.up)
    × (stayed_up l.missed l.fn.replica ≡ stayed_up (l.missed - l.counter) l.up)

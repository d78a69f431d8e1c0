-- `wrong::first_wrong` meets its contract. The loop's invariant: the first that is wrong is the first from field k on.
use Rattle.std.proofs.Common.{◌≡◌, ◌-◌}
use Rattle.opening.specs.Wrong.{first_wrong}
use Rattle.opening.proofs.wrong.first_wrong.Given as goal

abbrev pub invariant-loop-k : goal.invariant-loop-k
invariant-loop-k l = first_wrong l.line 0 l.count ≡ first_wrong l.line l.k (l.count - l.k)

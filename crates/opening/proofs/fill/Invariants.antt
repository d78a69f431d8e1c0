-- `opening::fill` meets its contract. The loop's invariant: the first k places hold their entries and the others 0.
use Rattle.std.proofs.Common.{◌≡◌, length, pos}
use Rattle.lists.specs.Places.{filled}
use Rattle.opening.specs.Opening.{entry_of}
use Rattle.opening.proofs.fill.Given as goal

abbrev pub invariant-loop-k : goal.invariant-loop-k
invariant-loop-k l = l.out ≡ filled (pos 0) (length l.initial.out) l.k (entry_of l.line l.from l.rows l.columns l.stride)

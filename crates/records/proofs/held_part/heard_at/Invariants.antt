-- `records::held_part::heard_at` meets its contract. The loop's invariant: the first j places hold their marks and the others none. Assumes nothing.
use Rattle.std.proofs.Common.{◌≡◌, ◌+◌, false}
use Rattle.lists.specs.Places.{filled}
use Rattle.records.specs.HeldPart.{mark_at}
use Rattle.records.proofs.held_part.heard_at.Given as goal

abbrev pub invariant-loop-j : goal.invariant-loop-j
invariant-loop-j l = l.heard ≡ filled false 10 l.j (λ k. mark_at l.bytes (l.at + k))

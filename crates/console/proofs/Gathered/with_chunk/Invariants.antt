-- `with_chunk` meets its contract. The loop's invariant: the text so far ends within the area. Assumes nothing.
use Rattle.std.proofs.Common.{length, ◌≤◌}
use Rattle.console.proofs.Gathered.with_chunk.Given as goal

abbrev pub invariant-loop-byte : goal.invariant-loop-byte
invariant-loop-byte l = l.gathered.end ≤ length l.area

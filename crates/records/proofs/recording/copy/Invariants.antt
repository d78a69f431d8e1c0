-- `records::recording::copy` meets its contract. The loop's invariant: the first j bytes stand in the area. Assumes nothing.
use Rattle.std.proofs.Common.{◌≡◌, length}
use lib.Seq.{paste}
use Rattle.records.proofs.recording.copy.Given as goal

abbrev pub invariant-loop-j : goal.invariant-loop-j
invariant-loop-j l = (l.area ≡ paste l.initial.area 0 l.stored l.j) × (length l.area ≡ length l.initial.area)

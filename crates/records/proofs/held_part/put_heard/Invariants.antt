-- `records::held_part::put_heard` meets its contract. The loop's invariant: the bytes of the first places stand in the area. Assumes nothing.
use Rattle.std.proofs.Common.{◌≡◌, length, take}
use Rattle.octets.specs.Areas.{put}
use Rattle.records.specs.HeldPart.{heard_bytes}
use Rattle.records.proofs.held_part.put_heard.Given as goal

abbrev pub invariant-loop-j : goal.invariant-loop-j
invariant-loop-j l = (l.area ≡ put l.initial.area l.at (heard_bytes (take l.j l.fn.heard))) × (length l.area ≡ length l.initial.area)

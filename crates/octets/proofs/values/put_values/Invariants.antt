-- `octets::values::put_values` meets its contract. The loop's invariant: the first i values stand in the area. Assumes nothing.
use Rattle.std.proofs.Common.{◌≡◌, length, take}
use Rattle.octets.specs.Words.{values_bytes}
use Rattle.octets.specs.Areas.{put}
use Rattle.octets.proofs.values.put_values.Given as goal

abbrev pub invariant-loop-i : goal.invariant-loop-i
invariant-loop-i l = (l.area ≡ put l.initial.area l.at (values_bytes (take l.i l.values))) × (length l.area ≡ length l.initial.area)

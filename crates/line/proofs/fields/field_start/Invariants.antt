-- `fields::field_start` meets its contract. The loop's invariant: what stands after k spaces of the line stands after `left` spaces of what
-- lies from the index on.
use Rattle.std.proofs.Common.{◌≡◌, drop}
use Rattle.line.specs.Fields.{after_spaces}
use Rattle.line.proofs.fields.field_start.Given as goal

abbrev pub invariant-loop-i : goal.invariant-loop-i
invariant-loop-i l = after_spaces l.line l.k ≡ after_spaces (drop l.i l.line) l.left

-- `octets::values::put_values` meets its contract. The loop's invariant: the first i values stand in the area. Assumes nothing.
use Rattle.std.proofs.Common.{◌<◌, ◌∙◌, refl, length, arith, rules}
use Rattle.octets.specs.Words.{values_bytes}
use Rattle.octets.proofs.Areas.{put-nothing}
use Rattle.octets.proofs.ValueLists.{write-more}
use Rattle.octets.proofs.values.put_values.Goals as goal

pub loop-i-init : goal.loop-i-init
unfolding values_bytes
loop-i-init c = (put-nothing c.args.area.now c.args.at, refl)

pub loop-i-preserved : goal.loop-i-preserved
loop-i-preserved c =
    let l = c.loop-i in
    let h : l.i < length c.args.values.now = omega arith in (
      c.put_u32.ensures ∙ rw l.invariant.0 (write-more c.args.area.now c.args.values.now c.args.at l.i _ h c.requires (search rules)),
      c.put_u32.auto.area ∙ l.invariant.1,
    )

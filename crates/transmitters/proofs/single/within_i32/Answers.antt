-- `single::within_i32` meets its contract. Assumes nothing.
use Rattle.std.proofs.Common.{◌∙◌}
use Rattle.std.proofs.lemmas.Int.{to_z-of_z}
use Rattle.transmitters.proofs.Bits.{within-converted}
use Rattle.transmitters.proofs.single.within_i32.Goals as goal

pub returns : goal.returns
returns c =
    let f = c.ranges.z in
    c.ok.ensures.value ∙ within-converted c.args.z c.try_from.result (simp (to_z-of_z, f) at c.try_from.ensures)

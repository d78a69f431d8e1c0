-- `single::shifted` meets its contract. Assumes nothing.
use Rattle.std.proofs.Common.{◌∙◌, ◌^◌}
use Rattle.std.proofs.lemmas.Int.{to_z-of_z}
use Rattle.transmitters.proofs.Floor.{floor-shift, shift_fits, floor-min}
use Rattle.transmitters.proofs.single.shifted.Goals as goal

pub returns : goal.returns
returns c =
    let x = c.args.x in
    let d = 2 ^ c.min.result in
    let f = c.ranges.x in
    let g = shift_fits x d f in
    simp (to_z-of_z, f, g) (floor-shift x d ∙ floor-min x c.args.k _ c.requires c.min.ensures)

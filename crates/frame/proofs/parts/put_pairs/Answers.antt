-- `frame::parts::put_pairs` meets its contract: the four numbers are put one after the other. Assumes nothing.
use mathlib.Core.Path.{refl, ◌∙◌}
use Prim.Native.Nat.{◌+◌}
use native.Mathlib.Omega.{arith}
use Rattle.octets.specs.Words.{little_endian}
use Rattle.octets.proofs.Areas.{then-put}
use Rattle.frame.specs.Lengths.{pair_start, parts_start}
use Rattle.frame.specs.Format.{pairs}
use Rattle.frame.proofs.parts.put_pairs.Goals as goal

pub returns : goal.returns
unfolding pairs little_endian
returns c =
    let states = c.state_length-states in
    let l = c.args.area.now in
    then-put l _ _ (pair_start 0) (pair_start 1 + 2) _ _
    (then-put l _ _ (pair_start 0) (pair_start 1) _ _
    (then-put l _ _ (pair_start 0) (pair_start 0 + 2) (little_endian 2 parts_start) (little_endian 2 states.result)
    c.put_u16.ensures c.put_u16-2.ensures refl (omega arith))
    c.put_u16-3.ensures refl (omega arith))
    c.put_u16-4.ensures refl (omega arith)
    ∙ rw (states.ensures, c.readings_length.ensures)

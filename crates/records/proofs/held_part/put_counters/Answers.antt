-- `records::held_part::put_counters` meets its contract: the four numbers are put one after the other. Assumes nothing.
use mathlib.Core.Path.{refl}
use Prim.Native.Nat.{◌+◌}
use native.Mathlib.Omega.{arith}
use Rattle.octets.specs.Words.{little_endian}
use Rattle.octets.proofs.Areas.{then-put}
use Rattle.records.proofs.held_part.put_counters.Goals as goal

pub returns : goal.returns
unfolding little_endian
returns c =
    let l = c.args.area.now in
    let at = c.args.at in
    then-put l _ _ at (at + 12) _ _
    (then-put l _ _ at (at + 8) _ _
    (then-put l _ _ at (at + 4) _ _
    c.put_u32.ensures
    c.put_u32-2.ensures refl (omega (arith, c.requires)))
    c.put_u32-3.ensures refl (omega (arith, c.requires)))
    c.put_u32-4.ensures refl (omega (arith, c.requires))

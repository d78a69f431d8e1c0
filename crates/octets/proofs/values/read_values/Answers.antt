-- `octets::values::read_values` meets its contract. The loop's invariant: the first i places hold their values and the others 0. Assumes nothing.
use Rattle.std.proofs.Common.{◌≡◌, ◌<◌, ◌∙◌, sym, ap, length, pos, arith, w32}
use mir.ValLaws.{to_z-of_z}
use Rattle.lists.proofs.Places.{filled_none, filled_more}
use Rattle.octets.specs.Words.{from_twos_complement, value_at}
use Rattle.octets.proofs.values.read_values.Goals as goal

pub loop-i-init : goal.loop-i-init
loop-i-init c = c.requires.1 ∙ sym (filled_none (pos 0) (length c.args.out.now) (value_at c.args.part.now))

pub loop-i-preserved : goal.loop-i-preserved
unfolding value_at
loop-i-preserved c =
    let l = c.loop-i in
    let s = c.args in
    let h : l.i < length s.out.now = omega arith in
    let back = to_z-of_z w32 c.signed.result (record { sfits = c.signed.type_inv }) in
    let z : c.signed.result ≡ value_at s.part.now l.i = c.signed.ensures ∙ ap from_twos_complement c.u32_at.ensures in
    rw (l.invariant, back, z) (filled_more (pos 0) (length s.out.now) l.i (value_at s.part.now) h)

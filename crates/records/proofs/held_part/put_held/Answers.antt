-- `records::held_part::put_held` meets its contract: the counters, the marks, the boxes heard and the two estimates are put one after the other.
-- Assumes nothing.
use mathlib.Core.Path.{◌≡◌, refl}
use Prim.Native.Nat.{◌+◌}
use native.Mathlib.Omega.{arith}
use lib.ListN.{length, length-append}
use Rattle.octets.specs.Words.{little_endian}
use Rattle.octets.proofs.Areas.{then-put}
use Rattle.records.specs.HeldPart.{held_bytes}
use Rattle.records.proofs.Heard.{length-heard}
use Rattle.records.proofs.PartLengths.{length_front, length-own, length-best}
use borrow.Author.Rules.{rules}
use Rattle.records.proofs.held_part.put_held.Goals as goal

pub returns : goal.returns
unfolding held_bytes little_endian
returns c =
    let ten : length c.args.held.heard ≡ 10 =
    search rules in
    let six : length c.args.held.estimate.state ≡ 6 =
    search rules in
    let four : length c.args.held.estimate.readings.values ≡ 4 =
    search rules in
    let best-six : length c.args.held.best.estimate.state ≡ 6 =
    search rules in
    let best-four : length c.args.held.best.estimate.readings.values ≡ 4 =
    search rules in
    let l = c.args.area.now in
    let at = c.args.at in
    let h = c.args.held in
    let front = length_front h (ten) in
    let own = length-own h.estimate (record { six = six; four = four }) in
    let other = length-best h.best (record { six = best-six; four = best-four }) in
    then-put l _ _ at (at + 69) _ _
    (then-put l _ _ at (at + 28) _ _
    (then-put l _ _ at (at + 18) _ _
    (then-put l _ _ at (at + 16) _ _
    c.put_counters.ensures
    c.put_marks.ensures refl (omega (arith, c.requires)))
    c.put_heard.ensures refl (omega (arith, c.requires, length-heard h.heard (ten))))
    c.put_estimate.ensures (omega (arith, front)) (omega (arith, c.requires, own)))
    c.put_best.ensures (simp length-append (omega (arith, front, own))) (omega (arith, c.requires, other))

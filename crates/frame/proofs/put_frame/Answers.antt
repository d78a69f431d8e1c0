-- `frame::put_frame` meets its contract: the header, the pairs and the parts are put one after the other. Assumes nothing.
use mathlib.Core.Path.{◌≡◌, sym, ap, ◌∙◌}
use mathlib.Core.List.{◌++◌}
use Prim.Native.Nat.{ℕ, ◌+◌, ◌≤◌}
use native.Mathlib.Omega.{arith}
use borrow.Author.Rules.{rules}
use lib.ListN.{length}
use Rattle.octets.specs.Areas.{put}
use Rattle.octets.proofs.Areas.{then-put}
use Rattle.estimate.specs.Format.{estimate_bytes}
use Rattle.estimate.proofs.Lengths.{length-estimate}
use Rattle.frame.specs.Lengths.{header_length, parts_start}
use Rattle.frame.specs.Format.{header, pairs}
use Rattle.frame.proofs.FrameBytes.{length-header, length_pairs, length_front, length_whole, no-parts-bytes, parts-bytes}
use Rattle.frame.proofs.put_frame.Goals as goal

pub returns-then-not-has_parts : goal.returns-then-not-has_parts
returns-then-not-has_parts c =
    let a = c.args in
    let k = no-parts-bytes a.n a.m a.frame (sym c.has_parts.ensures ∙ c.if-not-has_parts.true) in
    rw k (sym (length-header a.frame), c.put_header.ensures)

pub returns : goal.returns
returns c =
    let six : length c.args.frame.estimate.state ≡ 6 = search rules in
    let four : length c.args.frame.estimate.readings.values ≡ 4 = search rules in
    let n = c.args.n in
    let m = c.args.m in
    let f = c.args.frame in
    let l = c.args.area.now in
    let k = sym c.has_parts.ensures ∙ c.if-not-has_parts.false in
    let hn : n ≤ length f.estimate.state = omega (arith, six, c.requires.0) in
    let hm : m ≤ length f.estimate.readings.values = omega (arith, four, c.requires.1) in
    let parts = length-estimate n m f.estimate hn hm in
    let front = then-put l _ _ 0 header_length (header f) (pairs n m)
    c.put_header.ensures c.put_pairs.ensures (omega (arith, length-header f))
    (omega (arith, length_pairs n m, c.requires.2)) in
    let whole = parts-bytes n m f k in (
      ap (λ (size : ℕ). parts_start + size) c.estimate_length.ensures ∙ sym (ap length whole ∙ length_whole n m f hn hm),
      then-put l _ _ 0 parts_start (header f ++ pairs n m) (estimate_bytes n m f.estimate) front c.put_estimate.ensures
          (omega (arith, length_front n m f)) (omega (arith, parts, c.requires))
          ∙ ap (put l 0) (sym whole),
    )

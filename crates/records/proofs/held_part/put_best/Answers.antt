-- `records::held_part::put_best` meets its contract: the two bytes, the two numbers and the estimate are put one after the other. Assumes nothing.
use mathlib.Core.Path.{◌≡◌, refl, ap, ◌∙◌}
use mathlib.Core.List.{[], ◌∷◌}
use Prim.Native.Nat.{ℕ, ◌+◌}
use native.Mathlib.Omega.{arith}
use lib.ListN.{length}
use borrow.Author.Rules.{rules}
use Rattle.octets.specs.Words.{little_endian}
use Rattle.octets.specs.Areas.{put}
use Rattle.octets.proofs.Areas.{then-put}
use Rattle.estimate.proofs.Lengths.{length-estimate}
use Rattle.records.specs.HeldPart.{best_bytes}
use Rattle.records.proofs.Heard.{bit-from}
use Rattle.records.proofs.held_part.put_best.Goals as goal

pub returns : goal.returns
unfolding best_bytes little_endian
returns c =
    let six : length c.args.best.estimate.state ≡ 6 =
    search rules in
    let four : length c.args.best.estimate.readings.values ≡ 4 =
    search rules in
    let l = c.args.area.now in
    let at = c.args.at in
    let e = c.args.best.estimate in
    let long = length-estimate 6 4 e (omega (arith, six)) (omega (arith, four)) in
    let first = c.put_bytes.ensures ∙ ap (λ (k : ℕ). put l at (k ∷ [])) (c.from.ensures ∙ bit-from _) in
    then-put l _ _ at (at + 10) _ _
    (then-put l _ _ at (at + 6) _ _
    (then-put l _ _ at (at + 2) _ _
    (then-put l _ _ at (at + 1) _ _ first
    c.put_bytes-2.ensures refl (omega (arith, c.requires)))
    c.put_u32.ensures refl (omega (arith, c.requires)))
    c.put_u32-2.ensures refl (omega (arith, c.requires)))
    c.put_estimate.ensures refl (omega (arith, c.requires, long))

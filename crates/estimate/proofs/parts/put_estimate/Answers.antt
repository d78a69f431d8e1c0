-- `estimate::parts::put_estimate` meets its contract: the values, the byte of marks and the values are put one after the other. Assumes nothing.
use mathlib.Core.Path.{◌≡◌, ap, ◌∙◌}
use mathlib.Core.List.{[], ◌∷◌, ◌++◌, append_assoc}
use Prim.Native.Nat.{ℕ, ◌+◌}
use native.Mathlib.Omega.{arith}
use native.Mathlib.Nat.{sub-zero}
use lib.ListN.{length, take, length-append}
use Rattle.octets.specs.Words.{values_bytes}
use Rattle.octets.specs.Areas.{put}
use Rattle.octets.proofs.Areas.{then-put}
use Rattle.octets.proofs.ValueLists.{length-first}
use Rattle.estimate.specs.Marks.{marks_byte}
use Rattle.estimate.specs.Format.{state_bytes, readings_bytes, estimate_bytes}
use borrow.Author.Rules.{rules}
use Rattle.estimate.proofs.parts.put_estimate.Goals as goal

pub returns : goal.returns
unfolding estimate_bytes state_bytes readings_bytes
returns c =
    let six : length c.args.estimate.state ≡ 6 = search rules in
    let four : length c.args.estimate.readings.values ≡ 4 = search rules in
    let n = c.args.n in
    let m = c.args.m in
    let x = c.args.estimate.state in
    let y = c.args.estimate.readings in
    let l = c.args.area.now in
    let at = c.args.at in
    let first = length-first n x (omega (arith, six, c.requires.0)) in
    let second = length-first m y.values (omega (arith, four, c.requires.1)) in
    let length = c.state_length.result in
    let here = c.state_length.ensures in
    let marked = c.put_bytes.ensures ∙ ap (λ (k : ℕ). put c.put_values.new.area (at + length) (k ∷ [])) c.marks_byte.ensures in
    then-put l _ _ at (at + length + 1) (values_bytes (take n x) ++ (marks_byte y ∷ [])) (values_bytes (take m y.values))
    (then-put l _ _ at (at + length) (values_bytes (take n x)) (marks_byte y ∷ [])
    (rw sub-zero at c.put_values.ensures) marked (omega (arith, first, here)) (omega (arith, here, c.requires)))
    (rw sub-zero at c.put_values-2.ensures)
    (simp (length-append, first) (omega (arith, here)))
    (omega (arith, second, here, c.requires))
    ∙ ap (put l at) (append_assoc (values_bytes (take n x)) (marks_byte y ∷ []) (values_bytes (take m y.values)))

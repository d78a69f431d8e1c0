-- `law::ranges::surely_in_range` meets its contract. Assumes nothing.
use Rattle.std.proofs.Common.{◌≡◌, true, ℕ, ◌≤◌, ◌<◌, bit_or, arith, rules, w32, FitsSigned}
use Rattle.std.proofs.Math.Facts.{to_z-of_z}
use Rattle.std.specs.Int.Bits.{or_add_and, and_le_l, and_le_r}
use Rattle.lists.specs.Places.{entry}
use Rattle.lists.proofs.Below.{all_none, all_more}
use Rattle.law.specs.Settings.{in_range}
use Rattle.law.proofs.ranges.surely_in_range.Goals as goal

-- neither of two is above their `|`
or_left : (a b : ℕ) → a ≤ bit_or a b
or_left a b = omega (arith, or_add_and a b, and_le_r a b)

or_right : (a b : ℕ) → b ≤ bit_or a b
or_right a b = omega (arith, or_add_and a b, and_le_l a b)

pub loop-z-init : goal.loop-z-init
loop-z-init c = λ _. all_none _

pub loop-z-preserved : goal.loop-z-preserved
loop-z-preserved c =
    let l = c.loop-z in
    let r = c.offset-offsets.result in
    let fits : FitsSigned w32 (entry c.args.table.now l.z-index) = search rules in
    let here : r < 33554432 → in_range (entry c.args.table.now l.z-index) ≡ true = simp (to_z-of_z, fits) at c.offset-offsets.ensures in
    λ h. all_more _ l.z-index (l.invariant (omega (arith, or_left l.offsets r))) (here (omega (arith, or_right l.offsets r)))

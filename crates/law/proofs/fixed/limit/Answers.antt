-- `law::fixed::limit` meets its contract. Assumes nothing.
use Rattle.std.proofs.Common.{◌≡◌, false, w32, FitsSigned}
use Rattle.std.proofs.Math.Facts.{to_z-of_z}
use Rattle.std.specs.Int.Signed.{lt_z}
use Rattle.lists.specs.Choice.{pick}
use Rattle.law.specs.Fixed.{limited, limits_change}
use Rattle.law.proofs.Integers.{wide, widened, between-fits}
use Rattle.law.proofs.fixed.limit.Goals as goal
use Rattle.law.proofs.fixed.limit.Lts as lts
use Rattle.law.proofs.fixed.limit.Reads as reads

not-below : (c : lts.Else1 reads.Pre reads.Post) → lt_z c.args.x c.args.low ≡ false
not-below c = let f = c.ranges in simp (to_z-of_z, f.x, f.low, wide f.low) at c.if-x-low.false

not-above : (c : lts.Else2 reads.Pre reads.Post) → lt_z c.args.high c.args.x ≡ false
not-above c = let f = c.ranges in simp (to_z-of_z, f.x, f.high, wide f.high) at c.if-high-x.false

inside : (c : lts.Else2 reads.Pre reads.Post) → FitsSigned w32 c.args.x
inside c =
    let a = c.args in
    let f = c.ranges in
    between-fits a.x a.low a.high f.low f.high (not-below c.before) (not-above c)

pub overflow_cast-low : goal.overflow_cast-low
overflow_cast-low c = widened c.ranges.low

pub returns-then-x-low : goal.returns-then-x-low
unfolding limited limits_change pick
returns-then-x-low c =
    let f = c.ranges in
    let below = simp (to_z-of_z, f.x, f.low, wide f.low) at c.if-x-low.true in
    (simp (to_z-of_z, f.low, below), simp below)

pub overflow_cast-high : goal.overflow_cast-high
overflow_cast-high c = widened c.ranges.high

pub returns-then-high-x : goal.returns-then-high-x
unfolding limited limits_change pick
returns-then-high-x c =
    let f = c.ranges in
    let above = simp (to_z-of_z, f.x, f.high, wide f.high) at c.if-high-x.true in
    (simp (to_z-of_z, f.high, not-below c.before, above), simp (not-below c.before, above))

pub overflow_cast-value : goal.overflow_cast-value
overflow_cast-value c = simp (to_z-of_z, c.ranges.x) (inside c)

pub returns : goal.returns
unfolding limited limits_change pick
returns c =
    let f = c.ranges in
    (simp (to_z-of_z, f.x, inside c, not-below c.before, not-above c), simp (not-below c.before, not-above c))

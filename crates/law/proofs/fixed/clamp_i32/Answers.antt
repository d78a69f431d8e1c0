-- `law::fixed::clamp_i32` meets its contract. Assumes nothing.
use Rattle.std.proofs.Math.Facts.{to_z-of_z}
use Rattle.law.specs.Fixed.{clamp, clamp_changes}
use Rattle.law.proofs.fixed.clamp_i32.Goals as goal

pub returns : goal.returns
unfolding clamp clamp_changes
returns c = simp (to_z-of_z, c.ranges.x) at c.limit.ensures

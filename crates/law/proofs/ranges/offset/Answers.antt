-- `law::ranges::offset` meets its contract. Assumes nothing.
use Rattle.std.proofs.Common.{ℕ, ◌+◌, ◌%◌, ◌<◌, subst}
use Rattle.std.proofs.Math.Facts.{to_z-of_z}
use Rattle.law.proofs.Offsets.{offset-tells}
use Rattle.law.proofs.ranges.offset.Goals as goal

pub returns : goal.returns
returns c =
    let f = c.ranges.coefficient in
    let bits = simp (to_z-of_z, f) at c.cast_unsigned.ensures in
    λ h. offset-tells c.args.coefficient f (subst (λ (k : ℕ). (k + 16777216) % 4294967296 < 33554432) bits h)

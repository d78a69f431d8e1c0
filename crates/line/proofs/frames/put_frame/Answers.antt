-- `frames::put_frame` meets its contract. Assumes nothing.
use Rattle.std.proofs.Common.{arith, ◌≡◌, ◌+◌, ◌-◌, ◌*◌, ◌≤◌, length}
use Rattle.line.proofs.FrameLaws.{put_there}
use Rattle.line.specs.Frames.{kept_frame}
use Rattle.line.proofs.frames.put_frame.Goals as goal

pub returns : goal.returns
unfolding kept_frame
returns c =
    let s = c.args in
    let k : 69 * s.number + s.size - 69 * s.number ≡ s.size = omega arith in
    let h : s.size ≤ length s.frame.now = omega arith in
    put_there s.table.now (69 * s.number) _ _ s.size s.frame.now k c.copy_from_slice.ensures.after h

-- `frames::fits` meets its contract. Assumes nothing.
use Rattle.std.proofs.Common.{◌∙◌, arith, ◌<◌, ◌≤◌, ℕ}
use Rattle.std.proofs.Common.{◌⊎◌, inl, inr}
use borrow.Author.Tests.{le-leb, lt-leb}
use Rattle.line.specs.Frames.{frame_fits}
use Rattle.line.proofs.FrameLaws.{no_room}
use Rattle.line.proofs.frames.fits.Goals.{then-size-frame, else-size-frame}
use Rattle.line.proofs.frames.fits.Goals as goal

pub returns-then-size-le-SLOT : goal.returns-then-size-le-SLOT
unfolding frame_fits
returns-then-size-le-SLOT c =
    let s = c.args in
    let h = c.if-size-le-SLOT.true in
    rw (le-leb s.size s.frame h.0, le-leb s.size 69 h.1)

too_long : (size frame : ℕ) → ((size ≤ frame) × (69 < size)) ⊎ (frame < size) → size ≤ frame → 69 < size
too_long size frame (inl e) h = e.1
too_long size frame (inr e) h = absurd (omega arith)

pub returns-else-size-le-SLOT : goal.returns-else-size-le-SLOT
returns-else-size-le-SLOT c =
    let s = c.args in
    elim c.if-size-frame.branch [
      | then-size-frame w ↦ w.t-6-is ∙ lt-leb s.size 69 (too_long s.size s.frame c.if-size-le-SLOT.either w.if-size-frame.true) ∙ no_room s.table s.number s.frame s.size c.if-size-le-SLOT.either
      | else-size-frame w ↦ w.t-6-is ∙ lt-leb s.size s.frame w.if-size-frame.false ∙ no_room s.table s.number s.frame s.size c.if-size-le-SLOT.either
    ]

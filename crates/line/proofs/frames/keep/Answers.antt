-- `frames::keep` meets its contract. Assumes nothing.
use mathlib.Core.Path.{sym, ◌∙◌}
use Rattle.lists.specs.Choice.{pick}
use Rattle.line.specs.Frames.{kept}
use Rattle.line.proofs.FrameLaws.{fits}
use Rattle.line.proofs.frames.keep.Goals as goal

pub put_frame-requires : goal.put_frame-requires
put_frame-requires c =
    let r = fits _ _ _ _ (sym c.fits.ensures ∙ c.if-fits.true) in
    (r.area, r.place)

pub returns-then-fits : goal.returns-then-fits
unfolding kept pick
returns-then-fits c =
    rw (sym c.fits.ensures ∙ c.if-fits.true) c.put_frame.ensures

pub returns-else-fits : goal.returns-else-fits
unfolding kept pick
returns-else-fits c = rw (sym c.fits.ensures ∙ c.if-fits.false)

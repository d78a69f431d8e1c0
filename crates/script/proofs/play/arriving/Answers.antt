-- `play::arriving` meets its contract. Assumes nothing.
use mathlib.Core.Path.{ap, ◌∙◌}
use lib.ListN.{get_or}
use Rattle.line.specs.Frames.{frame_of}
use Rattle.script.specs.Play.{arriving}
use Rattle.script.proofs.play.arriving.Goals as goal

pub returns : goal.returns
unfolding arriving
returns c =
    let a = c.args in
    c.frame_of.ensures ∙ ap (λ f. frame_of a.table.now f (get_or a.lengths.now f 0)) c.line_of-line.ensures

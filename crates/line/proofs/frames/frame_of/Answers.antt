-- `frames::frame_of` meets its contract. Assumes nothing.
use Rattle.std.proofs.Common.{ap, ◌∙◌, ◌*◌, take, drop}
use Rattle.lists.proofs.Parts.{to_the_end}
use Rattle.line.specs.Frames.{frame_of}
use Rattle.line.proofs.FrameLaws.{drop-least, take-least}
use Rattle.line.proofs.frames.frame_of.Goals as goal

pub returns : goal.returns
unfolding frame_of
returns c =
    let s = c.args in
    let rest = drop c.min-start.result s.table.now in
    take-least _ s.size _ c.min.ensures
    ∙ ap (take s.size) (to_the_end s.table.now c.min-start.result ∙ drop-least s.table.now (69 * s.f) _ c.min-start.ensures)

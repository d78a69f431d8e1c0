-- `reading::count_at` meets its contract. Assumes nothing.
use mathlib.Core.Path.{ap, ◌∙◌}
use Rattle.text.specs.Numbers.{magnitude, size_in}
use Rattle.pages.specs.Reading.{unspaced, count_at}
use Rattle.pages.proofs.ReadingLaws.{part-to}
use Rattle.pages.proofs.reading.count_at.Goals as goal

pub returns : goal.returns
unfolding count_at
returns c =
    let s = c.args in
    c.unwrap_or.ensures
    ∙ ap size_in (c.read_magnitude.ensures ∙ ap magnitude (c.unspaced.ensures ∙ ap unspaced (part-to s.line.now s.column 10)))

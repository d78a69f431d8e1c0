-- `lines::is_bad` meets its contract. Assumes nothing.
use mathlib.Core.Path.{ap, ◌∙◌}
use Rattle.pages.specs.Reading.{same}
use Rattle.pages.proofs.ReadingLaws.{same_equal}
use Rattle.printed.specs.Lines.{is_bad}
use Rattle.printed.proofs.lines.is_bad.Goals as goal

pub returns : goal.returns
unfolding is_bad
returns c = c.eq.ensures ∙ same_equal _ _ ∙ ap (same c.args.bytes.now) c.as_slice.ensures

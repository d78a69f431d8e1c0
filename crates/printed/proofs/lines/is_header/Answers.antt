-- `lines::is_header` meets its contract. Assumes nothing.
use mathlib.Core.Path.{ap, ◌∙◌}
use Rattle.pages.specs.Reading.{same}
use Rattle.pages.proofs.ReadingLaws.{same_equal}
use Rattle.printed.specs.Lines.{is_header}
use Rattle.printed.proofs.lines.is_header.Goals as goal

pub returns : goal.returns
unfolding is_header
returns c = c.eq.ensures ∙ same_equal _ _ ∙ ap (same c.args.bytes.now) c.as_slice.ensures

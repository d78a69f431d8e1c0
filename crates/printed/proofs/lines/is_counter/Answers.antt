-- `lines::is_counter` meets its contract. Assumes nothing.
use mathlib.Core.Path.{ap, ◌∙◌}
use Rattle.text.specs.Numbers.{is_size}
use Rattle.printed.specs.Lines.{is_counter}
use Rattle.printed.proofs.lines.is_counter.Goals as goal

pub returns : goal.returns
unfolding is_counter
returns c = c.is_some.ensures ∙ ap is_size c.read_magnitude.ensures

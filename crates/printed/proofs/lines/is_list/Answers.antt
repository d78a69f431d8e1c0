-- `lines::is_list` meets its contract. Assumes nothing.
use mathlib.Core.Path.{ap, ◌∙◌}
use Rattle.std.specs.Option.{is_some}
use Rattle.printed.proofs.LineLaws.{list_some}
use Rattle.printed.proofs.lines.is_list.Goals as goal

pub returns : goal.returns
returns c = c.is_some.ensures ∙ ap is_some c.values_in.ensures ∙ list_some _ _

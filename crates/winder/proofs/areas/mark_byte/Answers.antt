-- `mark_byte` meets its contract. Assumes nothing.
use Rattle.std.proofs.Common.{◌∙◌}
use Rattle.records.proofs.Heard.{bit-from}
use Rattle.winder.proofs.areas.mark_byte.Goals as goal

pub returns : goal.returns
returns c = c.from.ensures ∙ bit-from _

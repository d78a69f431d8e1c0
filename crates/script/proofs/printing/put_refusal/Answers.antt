-- `printing::put_refusal` meets its contract. Assumes nothing.
use Rattle.std.proofs.Common.{ap, ◌∙◌}
use Rattle.text.specs.Printing.{decimal}
use Rattle.text.proofs.PrintingLaws.{then-puts, puts-same}
use Rattle.script.proofs.printing.put_refusal.Goals as goal

pub returns : goal.returns
returns c = then-puts c.put_byte-at.ensures (puts-same (ap decimal (c.from-2.ensures ∙ c.from.ensures)) c.put_decimal.ensures)

-- `printing::step_line` meets its contract. Assumes nothing.
use Rattle.scram.specs.Answers.{answered}
use Rattle.text.proofs.PrintingLaws.{then-puts}
use Rattle.script.specs.Printing.{step_line}
use Rattle.script.proofs.LineLengths.{line-length}
use Rattle.script.proofs.printing.step_line.Goals as goal

pub returns : goal.returns
unfolding step_line
returns c =
    let a = c.args in
    let first = c.put_first-at.ensures in (
      then-puts first.0
          (then-puts c.put_sent-at.ensures (then-puts c.put_command-at.ensures c.put_byte.ensures)),
      line-length a.number a.who (answered a.answer) a.replica a.gave.sent a.gave.issued a.gave.command first.1,
    )

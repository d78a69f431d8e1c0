-- `printing::ask_line` meets its contract. Assumes nothing.
use Rattle.scram.specs.Answers.{answered}
use Rattle.text.proofs.PrintingLaws.{then-puts}
use Rattle.script.specs.Printing.{ask_line}
use Rattle.script.proofs.LineLengths.{ask-length}
use Rattle.script.proofs.printing.ask_line.Goals as goal

pub returns : goal.returns
unfolding ask_line
returns c =
    let a = c.args in
    let first = c.put_first-at.ensures in (
      then-puts first.0
          (then-puts c.put_asked-at.ensures
          (then-puts c.put_command-at.ensures (then-puts c.put_ticket-at.ensures c.put_byte.ensures))),
      ask-length a.number a.who (answered a.answer) a.shown a.gave.sent a.gave.issued a.gave.command a.ticket first.1,
    )

-- `printing::put_answer` meets its contract. Assumes nothing.
use mathlib.Core.Path.{sym, ap}
use Rattle.text.proofs.PrintingLaws.{puts-same}
use Rattle.scram.specs.Answers.{answered}
use Rattle.script.specs.Printing.{answer_word}
use Rattle.script.proofs.printing.put_answer.Goals as goal

pub returns-in-Done : goal.returns-in-Done
unfolding answer_word
returns-in-Done c =
    puts-same (ap (λ a. answer_word (answered a)) (sym c.in-Done.is)) c.put_word.ensures

pub returns-in-Ignored : goal.returns-in-Ignored
unfolding answer_word
returns-in-Ignored c =
    puts-same (ap (λ a. answer_word (answered a)) (sym c.in-Ignored.is)) c.put_word-in-Ignored.ensures

pub returns-in-Refused : goal.returns-in-Refused
unfolding answer_word
returns-in-Refused c =
    puts-same (ap (λ a. answer_word (answered a)) (sym c.in-Refused.is)) c.put_refusal.ensures

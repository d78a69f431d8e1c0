-- `printing::put_head` meets its contract. Assumes nothing.
use Rattle.std.proofs.Common.{ap, ℕ, ◌∷◌}
use Rattle.text.specs.Printing.{decimal}
use Rattle.text.proofs.PrintingLaws.{then-puts, puts-same}
use Rattle.script.specs.Printing.{head_words}
use Rattle.script.proofs.printing.put_head.Goals as goal

pub returns : goal.returns
unfolding head_words
returns c =
    then-puts
    c.put_decimal-at.ensures
    (then-puts (puts-same (ap (λ (n : ℕ). 32 ∷ decimal n) c.from.ensures) c.put_counter-at.ensures)
    (then-puts c.put_byte-at.ensures c.put_answer.ensures))

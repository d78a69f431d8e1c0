-- `numbers::below_zero` meets its contract. Assumes nothing.
use Rattle.std.proofs.Common.{sym, ap, ◌∙◌, arith}
use Rattle.text.specs.Numbers.{negative}
use Rattle.text.proofs.NumberLaws.{negative-from}
use Rattle.text.proofs.numbers.below_zero.Goals as goal

pub returns-in_err-n : goal.returns-in_err-n
unfolding negative
returns-in_err-n c = c.from_residual.ensures ∙ sym (ap negative c.in_err-n.was)

pub returns-in-0 : goal.returns-in-0
unfolding negative
returns-in-0 c = rw (c.in_ok-n.was, c.in-0.is)

pub returns-in_default : goal.returns-in_default
returns-in_default c = negative-from _ _ (omega arith) c.checked_sub_unsigned.ensures ∙ sym (ap negative c.in_ok-n.was)

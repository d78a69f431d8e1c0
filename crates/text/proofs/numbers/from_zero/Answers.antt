-- `numbers::from_zero` meets its contract. Assumes nothing.
use Rattle.std.proofs.Common.{sym, ap, ◌∙◌}
use Rattle.text.specs.Numbers.{positive}
use Rattle.text.proofs.NumberLaws.{positive-from}
use Rattle.text.proofs.numbers.from_zero.Goals as goal

pub returns-in_err-m : goal.returns-in_err-m
unfolding positive
returns-in_err-m c = c.from_residual.ensures ∙ sym (ap positive c.in_err-m.was)

pub returns : goal.returns
returns c = c.ok.ensures.value ∙ positive-from _ _ c.try_from.ensures ∙ sym (ap positive c.in_ok-m.was)

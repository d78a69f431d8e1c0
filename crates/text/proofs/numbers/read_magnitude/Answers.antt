-- `numbers::read_magnitude` meets its contract. Assumes nothing.
use Rattle.text.specs.Numbers.{magnitude}
use Rattle.text.proofs.numbers.read_magnitude.Goals as goal

pub returns-in_err-n : goal.returns-in_err-n
unfolding magnitude
returns-in_err-n c = cc (c.in_err-n.was)

pub returns : goal.returns
unfolding magnitude
returns c = cc (c.in_ok-n.was)

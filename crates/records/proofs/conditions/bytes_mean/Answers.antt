-- `records::conditions::bytes_mean` meets its contract. Assumes nothing.
use Rattle.records.specs.Reading.{bytes_mean}
use Rattle.records.proofs.conditions.bytes_mean.Goals as goal

pub returns : goal.returns
unfolding bytes_mean
returns c = rw c.marks_at.ensures

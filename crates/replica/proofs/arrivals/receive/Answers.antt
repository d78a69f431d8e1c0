-- `receive` meets its contract. Assumes nothing.
use Rattle.scram.specs.Events.{receive}
use Rattle.replica.proofs.arrivals.receive.Goals as goal

pub returns-in-Ack : goal.returns-in-Ack
unfolding receive
returns-in-Ack c = λ law. rw c.in-Ack.is (c.hear_ack.ensures law)

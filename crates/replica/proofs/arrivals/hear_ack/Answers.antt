-- `hear_ack` meets its contract. Assumes nothing.
use Rattle.std.proofs.Common.{sym, ◌∙◌}
use Rattle.scram.specs.Events.{hear_ack}
use Rattle.replica.proofs.Gives.{says-done, says-true, says-false}
use Rattle.replica.proofs.arrivals.hear_ack.Goals as goal

pub returns-then-quorum_heard : goal.returns-then-quorum_heard
unfolding hear_ack
returns-then-quorum_heard c = λ law. says-true _ _ (sym c.quorum_heard.ensures ∙ c.if-quorum_heard.true) (c.decide.ensures law)

pub returns : goal.returns
unfolding hear_ack
returns c = λ law. says-false _ _ (sym c.quorum_heard.ensures ∙ c.if-quorum_heard.false) (says-done c.hearing-next.ensures)

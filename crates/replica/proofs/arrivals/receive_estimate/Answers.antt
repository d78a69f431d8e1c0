-- `receive_estimate` meets its contract. Assumes nothing.
use Rattle.std.proofs.Common.{lt-ltb, le-ltb}
use Rattle.scram.specs.Events.{receive}
use Rattle.replica.proofs.Gives.{says-true, says-false}
use Rattle.replica.proofs.arrivals.receive_estimate.Goals as goal

pub returns-then-held-f : goal.returns-then-held-f
unfolding receive
returns-then-held-f c =
    λ law.
    says-true _ _ (lt-ltb _ _ c.if-held-f.true) (rw c.entered.ensures at
    (c.hear_estimate.ensures law))

pub returns : goal.returns
unfolding receive
returns c = λ law. says-false _ _ (le-ltb _ _ c.if-held-f.false) (c.hear_estimate-2.ensures law)

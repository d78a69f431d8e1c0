-- `hear_estimate` meets its contract. Assumes nothing.
use Rattle.std.proofs.Common.{sym, ap, ◌∙◌}
use Rattle.scram.specs.Events.{hearing, hear_estimate}
use Rattle.replica.specs.Held.{best_in, held_in, held_of}
use Rattle.replica.proofs.Gives.{says-done, says-true, says-false}
use Rattle.replica.proofs.arrivals.hear_estimate.Goals as goal

pub returns-then-quorum_heard : goal.returns-then-quorum_heard
unfolding hear_estimate
returns-then-quorum_heard c =
    λ law.
    says-true _ _ (sym c.quorum_heard.ensures ∙ c.if-quorum_heard.true)
    (rw c.better-best.ensures at (c.propose.ensures law))

pub returns : goal.returns
unfolding hear_estimate
returns c =
    λ law.
    let a = c.args in
    says-false _ _ (sym c.quorum_heard.ensures ∙ c.if-quorum_heard.false)
    (says-done
    (c.hearing-next.ensures
    ∙ ap (λ x. held_of (hearing (held_in a.held) a.given.box_number (best_in x) a.held.decided))
    c.better-best.ensures))

-- `after_tick` meets its contract. Assumes nothing.
use Rattle.std.proofs.Common.{refl, sym, ◌∙◌}
use Rattle.scram.specs.Events.{after_tick}
use Rattle.replica.proofs.Gives.{says-done, says-true, says-false}
use Rattle.replica.proofs.rules.after_tick.Goals as goal

pub returns-then-held : goal.returns-then-held
unfolding after_tick
returns-then-held c = λ law. says-true _ _ c.if-held.true (c.raise.ensures law)

pub returns-then-leads : goal.returns-then-leads
unfolding after_tick
returns-then-leads c =
    λ law.
    says-false _ _ c.if-held.false
    (says-true _ _ (sym c.leads.ensures ∙ c.if-leads.true)
    (c.propose.ensures law))

pub returns : goal.returns
unfolding after_tick
returns c = λ law. says-false _ _ c.if-held.false (says-false _ _ (sym c.leads.ensures ∙ c.if-leads.false) (says-done refl))

-- `raise` meets its contract. Assumes nothing.
use Rattle.std.proofs.Common.{sym, ◌∙◌}
use Rattle.scram.specs.Events.{raise}
use Rattle.replica.proofs.Gives.{says-done, says-true, says-false}
use Rattle.replica.proofs.rules.raise.Goals as goal

pub returns-then-leads : goal.returns-then-leads
unfolding raise
returns-then-leads c = λ law. says-true _ _ (sym c.leads.ensures ∙ c.if-leads.true) (says-done c.entered-next.ensures)

pub returns : goal.returns
unfolding raise
returns c = λ law. says-false _ _ (sym c.leads.ensures ∙ c.if-leads.false) (c.follow.ensures law)

-- `winder_update` meets its contract. Assumes nothing.
use Rattle.std.proofs.Common.{sym, ap, ◌∙◌}
use Rattle.estimate.specs.Marks.{bit}
use Rattle.law.specs.Law.{update_limited}
use Rattle.law.proofs.Laws.{updated-refused}
use Rattle.refusal.proofs.Numbers.{number-not-0}
use Rattle.winder.proofs.Refused.{done, refused}
use Rattle.winder.proofs.law_calls.winder_update.Goals as goal

pub returns-in-Ok-clause-limited : goal.returns-in-Ok-clause-limited
returns-in-Ok-clause-limited c =
    c.mark_byte.ensures ∙ ap bit (c.in-Ok.ensures.limited ∙ ap (update_limited _ _) c.readings_of.ensures) ∙ done _ _ _ (sym c.in-Ok.ensures.answer)

pub returns-in-Err-clause-state : goal.returns-in-Err-clause-state
returns-in-Err-clause-state c = updated-refused _ _ _ (λ h. number-not-0 c.in-Err.refusal (c.in-Err.ensures.answer ∙ h))

pub returns-in-Err-clause-limited : goal.returns-in-Err-clause-limited
returns-in-Err-clause-limited c = refused _ _ _ (λ h. number-not-0 c.in-Err.refusal (c.in-Err.ensures.answer ∙ h))

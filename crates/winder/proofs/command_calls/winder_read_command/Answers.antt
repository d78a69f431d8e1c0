-- `winder_read_command` meets its contract. Assumes nothing.
use mathlib.Core.Path.{sym, ap, ◌∙◌}
use Rattle.estimate.specs.Marks.{bit}
use Rattle.frame.specs.declared.CommandFields.{CommandFields}
use Rattle.refusal.proofs.Numbers.{number-not-0}
use Rattle.winder.proofs.Refused.{done, refused}
use Rattle.winder.proofs.command_calls.winder_read_command.Goals as goal

pub returns-in-Ok-clause-period : goal.returns-in-Ok-clause-period
returns-in-Ok-clause-period c = ap (λ (f : CommandFields). f.period) c.in-Ok.ensures.command ∙ done _ _ _ (sym c.in-Ok.ensures.answer)

pub returns-in-Ok-clause-commands : goal.returns-in-Ok-clause-commands
returns-in-Ok-clause-commands c = ap (λ (f : CommandFields). f.values) c.in-Ok.ensures.command ∙ done _ _ _ (sym c.in-Ok.ensures.answer)

pub returns-in-Ok-clause-limited : goal.returns-in-Ok-clause-limited
returns-in-Ok-clause-limited c = c.mark_byte.ensures ∙ ap (λ (f : CommandFields). bit f.limited) c.in-Ok.ensures.command ∙ done _ _ _ (sym c.in-Ok.ensures.answer)

pub returns-in-Err-clause-period : goal.returns-in-Err-clause-period
returns-in-Err-clause-period c = refused _ _ _ (λ h. number-not-0 c.in-Err.refusal (c.in-Err.ensures.answer ∙ h))

pub returns-in-Err-clause-commands : goal.returns-in-Err-clause-commands
returns-in-Err-clause-commands c = refused _ _ _ (λ h. number-not-0 c.in-Err.refusal (c.in-Err.ensures.answer ∙ h))

pub returns-in-Err-clause-limited : goal.returns-in-Err-clause-limited
returns-in-Err-clause-limited c = refused _ _ _ (λ h. number-not-0 c.in-Err.refusal (c.in-Err.ensures.answer ∙ h))

-- `law::command` meets its contract. Assumes nothing.
use Rattle.std.proofs.Common.{◌≡◌, IfOk, subst, ap, ◌∙◌}
use Rattle.law.specs.declared.Settings.{Settings}
use Rattle.law.specs.Settings.{refusals, refusal}
use Rattle.law.specs.Law.{commanded, command_limited}
use Rattle.law.proofs.Lent.{refusal-lent}
use Rattle.law.proofs.command.Goals as goal

pub returns-clause-answer : goal.returns-clause-answer
returns-clause-answer c = c.command.ensures.answer ∙ ap refusal c.tables.ensures ∙ refusal-lent c.args.settings

pub returns-clause-values : goal.returns-clause-values
unfolding commanded refusal refusals
returns-clause-values c =
    subst (λ (s : Settings). IfOk c.command.result (λ marked. marked.commands ≡ commanded s c.args.state)) c.tables.ensures c.command.ensures.values

pub returns-clause-limited : goal.returns-clause-limited
unfolding command_limited refusal refusals
returns-clause-limited c =
    subst (λ (s : Settings). IfOk c.command.result (λ marked. marked.limited ≡ command_limited s c.args.state)) c.tables.ensures c.command.ensures.limited

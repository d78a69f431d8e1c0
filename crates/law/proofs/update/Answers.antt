-- `law::update` meets its contract. Assumes nothing.
use Rattle.std.proofs.Common.{◌≡◌, IfOk, subst, ap, ◌∙◌}
use Rattle.law.specs.declared.Settings.{Settings}
use Rattle.law.specs.Settings.{refusals, refusal}
use Rattle.law.specs.Law.{updated, update_limited}
use Rattle.law.proofs.Lent.{refusal-lent}
use Rattle.law.proofs.update.Goals as goal

pub returns-clause-answer : goal.returns-clause-answer
returns-clause-answer c = c.update.ensures.answer ∙ ap refusal c.tables.ensures ∙ refusal-lent c.args.settings

pub returns-clause-state : goal.returns-clause-state
unfolding updated refusal refusals
returns-clause-state c =
    subst (λ (s : Settings). IfOk c.update.result (λ u. u.state ≡ updated s c.args.state c.args.readings)) c.tables.ensures c.update.ensures.state

pub returns-clause-limited : goal.returns-clause-limited
unfolding update_limited refusal refusals
returns-clause-limited c =
    subst (λ (s : Settings). IfOk c.update.result (λ u. u.limited ≡ update_limited s c.args.state c.args.readings)) c.tables.ensures c.update.ensures.limited

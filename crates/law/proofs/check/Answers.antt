-- `law::check` meets its contract. Assumes nothing.
use Rattle.std.proofs.Common.{ap, ◌∙◌}
use Rattle.law.specs.Settings.{refusal}
use Rattle.law.proofs.Lent.{refusal-lent}
use Rattle.law.proofs.check.Goals as goal

pub returns : goal.returns
returns c = c.check.ensures ∙ ap refusal c.tables.ensures ∙ refusal-lent c.args.settings

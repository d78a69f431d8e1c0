-- `law::Standing::issue` meets its contract. Assumes nothing.
use Rattle.std.proofs.Common.{◌||◌, ap, ◌∙◌}
use Rattle.law.specs.Settings.{settings_in}
use Rattle.law.specs.Law.{commanded, command_limited}
use Rattle.law.proofs.Laws.{issued-commanded}
use Rattle.law.proofs.Standing.issue.Goals as goal

pub returns : goal.returns
returns c =
    let s = settings_in c.args.self.tables in
    let next = c.update-next.ensures in
    let given = c.command-given.ensures in
    let commands = given.values ∙ ap (commanded s) next.state in
    let limits = given.limited ∙ ap (command_limited s) next.state in
    (λ i. record { commands = commands i; limited = next.limited i || limits i }) ∙ issued-commanded s c.args.state.now c.args.readings

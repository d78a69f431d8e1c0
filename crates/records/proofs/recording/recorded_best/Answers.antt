-- `records::recording::recorded_best` meets its contract: no best estimate is the same under any law. Assumes nothing.
use Rattle.std.proofs.Common.{rules, false, ◌≡◌, ◌∙◌, sym}
use Rattle.lists.proofs.Choice.{pick-false}
use Rattle.replica.specs.Settings.{blank_settings}
use Rattle.records.specs.Recording.{recorded_best}
use Rattle.records.proofs.recording.recorded_best.Goals as goal

pub returns-then-not-best : goal.returns-then-not-best
unfolding recorded_best
returns-then-not-best c =
    let none : c.args.best.any ≡ false = search rules in
    c.no_best.ensures blank_settings.law ∙ sym (pick-false c.args.best.any _ _ none)

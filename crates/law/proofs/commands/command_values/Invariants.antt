-- `law::commands::command_values` meets its contract. The loop's invariant: the first j places are filled, and whether limits changed one of them is known. Assumes nothing.
use Rattle.std.proofs.Common.{◌≡◌, pos}
use Rattle.lists.specs.Below.{any_below}
use Rattle.lists.specs.Places.{filled}
use Rattle.law.specs.Settings.{K, lower, upper, settings_in}
use Rattle.law.specs.Law.{command, command_changed}
use Rattle.law.proofs.commands.command_values.Given as goal

abbrev pub invariant-loop-j : goal.invariant-loop-j
invariant-loop-j l =
    let s = settings_in l.standing.tables in
    (l.commands ≡ filled (pos 0) 4 l.j (command (K s) (lower s) (upper s) s.n l.x))
    × (l.limited ≡ any_below l.j (command_changed (K s) (lower s) (upper s) s.n l.x))

-- `taking::first_commands` meets its contract. The loop's invariant: no line so far has a command, so the first one is among those left. Assumes
-- nothing.
use mathlib.Core.Path.{◌≡◌}
use Rattle.printed.specs.Pages.{printed_in, first_commands}
use Rattle.printed.proofs.TextLaws.{left}
use Rattle.printed.proofs.taking.first_commands.Given as goal

abbrev pub invariant-loop : goal.invariant-loop
invariant-loop l = first_commands (left l.text l.at l.counter) ≡ first_commands (printed_in l.text)

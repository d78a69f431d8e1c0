-- `taking::count_passed` meets its contract. The loop's invariant: those passed over so far, and those of the lines left, are those of the text.
-- Assumes nothing.
use mathlib.Core.Path.{◌≡◌}
use Prim.Native.Nat.{◌+◌, ◌≤◌}
use Rattle.printed.specs.Pages.{printed_in, passed_in}
use Rattle.printed.proofs.TextLaws.{left}
use Rattle.printed.proofs.taking.count_passed.Given as goal

abbrev pub invariant-loop : goal.invariant-loop
invariant-loop l = (l.passed ≤ l.counter) × (l.passed + passed_in l.p (left l.text l.at l.counter) ≡ passed_in l.p (printed_in l.text))

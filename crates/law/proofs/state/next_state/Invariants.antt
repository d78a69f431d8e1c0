-- `law::state::next_state` meets its contract. The loop's invariant: the first i places are filled, and whether clamping changed one of them is known. Assumes nothing.
use Rattle.std.proofs.Common.{◌≡◌, pos}
use Rattle.lists.specs.Below.{any_below}
use Rattle.lists.specs.Places.{entry, filled}
use Rattle.law.specs.Settings.{A, L, settings_in}
use Rattle.law.specs.Law.{next, next_changed}
use Rattle.law.proofs.state.next_state.Given as goal

abbrev pub invariant-loop-i : goal.invariant-loop-i
invariant-loop-i l =
    let s = settings_in l.standing.tables in
    (l.value ≡ filled (pos 0) 6 l.i (next (A s) (L s) s.n s.m l.x (entry l.e)))
    × (l.changed ≡ any_below l.i (next_changed (A s) (L s) s.n s.m l.x (entry l.e)))

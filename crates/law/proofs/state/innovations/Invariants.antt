-- `law::state::innovations` meets its contract. The loop's invariant: the first j places are filled, and whether clamping changed one of them is known. Assumes nothing.
use Rattle.std.proofs.Common.{◌≡◌, pos}
use Rattle.lists.specs.Below.{any_below}
use Rattle.lists.specs.Places.{filled}
use Rattle.law.specs.Settings.{C, settings_in}
use Rattle.law.specs.Law.{e, e_changed}
use Rattle.law.proofs.state.innovations.Given as goal

abbrev pub invariant-loop-j : goal.invariant-loop-j
invariant-loop-j l =
    let s = settings_in l.standing.tables in
    (l.value ≡ filled (pos 0) 4 l.j (e (C s) s.n l.x l.readings)) × (l.changed ≡ any_below l.j (e_changed (C s) s.n l.x l.readings))

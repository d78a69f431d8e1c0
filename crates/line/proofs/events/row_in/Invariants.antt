-- `events::row_in` meets its contract. The loop's invariant: the first j fields are readings, which stand in their places.
use Rattle.std.proofs.Common.{◌≡◌, true}
use Rattle.line.specs.Events.{all_readings, row_of}
use Rattle.line.proofs.events.row_in.Given as goal

abbrev pub invariant-loop-j : goal.invariant-loop-j
invariant-loop-j l = record { readings : l.row ≡ row_of l.of_rig l.j l.line; all : true ≡ all_readings l.of_rig l.j l.line }

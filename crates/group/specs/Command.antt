-- Command k of the single controller in the law's words, and bytes that hold it. All commands of every history do: `command-of-decision` of
-- proofs/Theorem.antt; with power cycles and events asked first, of crate recovery.
use Rattle.std.specs.Prelude.{ℕ, ◌-◌, ◌≡◌, ◌||◌, List}
use Rattle.readings.specs.declared.Readings.{Readings}
use Rattle.scram.specs.Demand3.{controller}
use Rattle.law.specs.declared.Settings as Law
use Rattle.law.specs.declared.Marked.{Marked}
use Rattle.law.specs.Law.{update_limited, commanded, command_limited}
use Rattle.frame.specs.Command.{command_bytes, command_period}
use Rattle.replica.specs.Settings.{law_of}

-- "command k is the law's command of the new state", which the controller has after step k. It has the mark of its own step k, from the state after k − 1
-- steps with row k, and of its own command k
abbrev pub command_of : (law : Law.Settings) (row : ℕ → Readings) (k : ℕ) → Marked
command_of law row k = record {
  commands = commanded law (controller (law_of law) row k);
  limited = update_limited law (controller (law_of law) row (k - 1)) (row k) || command_limited law (controller (law_of law) row k);
}

-- bytes of a command hold the controller's command of the period that they have, byte for byte
abbrev pub HoldsCommand : (law : Law.Settings) (row : ℕ → Readings) → List ℕ → Type 0
HoldsCommand law row bytes =
    let k = command_period bytes in
    bytes ≡ command_bytes law.p k (command_of law row k).commands (command_of law row k).limited

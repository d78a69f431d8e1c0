-- The bytes of a command, what writing it answers, what it writes, and the period, the values and the mark in it.
use Rattle.std.specs.Prelude.{ℕ, Bool, not, ◌&&◌, List, [], ◌∷◌, ◌++◌, length, take, drop, get_or, ℤ, pos, leb, eqb}
use Rattle.lists.specs.Choice.{pick}
use Rattle.lists.specs.Places.{filled}
use Rattle.lists.specs.Refusals.{refusal, first_of}
use Rattle.octets.specs.Words.{little_endian, number_at, values_bytes, value_at}
use Rattle.estimate.specs.Marks.{bit}
use Rattle.frame.specs.Sizes.{commands_ok}
use Rattle.frame.specs.Lengths.{command_start, longest_command}

-- "Command: byte 0 is 5, byte 1 is p, .. period at 4, p i32 values from 8. No sender."; byte 3 is zero. Clamping or limits may have changed a value:
-- "Byte 2 of the command is 1 if that occurred in the update or the command it comes from, otherwise 0."
unfoldable pub command_bytes : ℕ → ℕ → List ℤ → Bool → List ℕ
command_bytes p period values limited = (5 ∷ p ∷ bit limited ∷ 0 ∷ []) ++ little_endian 4 period ++ values_bytes (take p values)

-- "command area under 24"
abbrev pub command_room : List ℕ → Bool
command_room area = leb longest_command (length area)

-- the number of the refusal, or 0: 2 for p, then 5 for the area
unfoldable pub command_refusal : ℕ → List ℕ → ℕ
command_refusal p area = first_of (refusal 2 (not (commands_ok p)) ∷ refusal 5 (not (command_room area)) ∷ [])

-- what is written: nothing where the call is refused
unfoldable pub command_written : ℕ → ℕ → List ℤ → Bool → List ℕ → List ℕ
command_written p period values limited area = pick (eqb (command_refusal p area) 0) (command_bytes p period values limited) []

-- the period that a command's bytes have, "period at 4" (`period-read` of proofs/Commands.antt: it is the period that was written)
unfoldable pub command_period : List ℕ → ℕ
command_period bytes = number_at 4 bytes 4

-- the values that a command area has room for, "p i32 values from 8"; 0 in every place where the area is too short for a command
unfoldable pub command_values : List ℕ → List ℤ
command_values area = filled (pos 0) 4 (pick (command_room area) 4 0) (value_at (drop command_start area))

-- whether the command at the start of an area is marked; false where the area is too short for one
unfoldable pub command_limited : List ℕ → Bool
command_limited area = command_room area && eqb (get_or area 2 0) 1

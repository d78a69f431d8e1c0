-- Every length of a frame or a command that document 01 names, and what each of them follows from.
use Rattle.std.specs.Prelude.{ℕ, ◌+◌, ◌*◌}
use Rattle.lists.specs.Choice.{pick}
use Rattle.octets.specs.Words.{value_length}
use Rattle.estimate.specs.Lengths.{estimate_length}
use Rattle.frame.specs.Kinds.{has_parts}

-- "Header of 20 bytes"
abbrev pub header_length : ℕ
header_length = 20

-- "a pair of offset .. and length, 16 bits each"
abbrev pub pair_length : ℕ
pair_length = 4

-- where pair number j starts, counted from 0
abbrev pub pair_start : ℕ → ℕ
pair_start j = header_length + pair_length * j

-- where the first part starts, after the pairs of both
abbrev pub parts_start : ℕ
parts_start = pair_start 2

-- the length of a frame: "parts follow without gaps to the frame's end"; a kind without parts is its header
abbrev pub frame_length : ℕ → ℕ → ℕ → ℕ
frame_length n m kind = pick (has_parts kind) (parts_start + estimate_length n m) header_length

-- "the longest frame has 69": 6 states and 4 readings
abbrev pub longest_frame : ℕ
longest_frame = parts_start + estimate_length 6 4

-- "p i32 values from 8"
abbrev pub command_start : ℕ
command_start = 8

-- the length of a command of p values
abbrev pub command_length : ℕ → ℕ
command_length p = command_start + value_length * p

-- a command of 4 values has 24
abbrev pub longest_command : ℕ
longest_command = command_length 4

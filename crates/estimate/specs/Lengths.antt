-- The lengths of an estimate's two parts.
use Rattle.std.specs.Prelude.{ℕ, ◌+◌, ◌*◌}
use Rattle.octets.specs.Words.{value_length}

-- the state's part: "n i32 values"
abbrev pub state_length : ℕ → ℕ
state_length n = value_length * n

-- the readings' part: "one byte of present marks .. and m i32 values"
abbrev pub readings_length : ℕ → ℕ
readings_length m = 1 + value_length * m

-- both, one after the other
abbrev pub estimate_length : ℕ → ℕ → ℕ
estimate_length n m = state_length n + readings_length m

-- What reading the two parts finds: "State and readings are each read from their own part".
use Rattle.std.specs.Prelude.{ℕ, ◌+◌, Bool, ◌&&◌, List, get_or, drop, ℤ, pos}
use Rattle.lists.specs.Places.{filled}
use Rattle.readings.specs.declared.Readings.{Readings}
use Rattle.octets.specs.Words.{part, value_at}
use Rattle.estimate.specs.Lengths.{state_length, readings_length}
use Rattle.estimate.specs.Marks.{marks_in, marks_below, absent_zero}
use Rattle.estimate.specs.declared.Estimate.{Estimate}

-- ---- each from its own part

-- the state in its part: "n i32 values", and 0 in the places beyond n
unfoldable pub state_in : ℕ → List ℕ → List ℤ
state_in n p = filled (pos 0) 6 n (value_at p)

-- the byte of present marks, the first of its part
abbrev pub marks_at : List ℕ → ℕ
marks_at p = get_or p 0 0

-- the readings in their part: the marks, then "m i32 values", and 0 in the places beyond m
unfoldable pub readings_in : ℕ → List ℕ → Readings
readings_in m p = record { present = marks_in (marks_at p); values = filled (pos 0) 4 m (value_at (drop 1 p)) }

-- marks and absent values: "Marks at or above m are 0", "0 where absent"
unfoldable pub readings_ok : ℕ → List ℕ → Bool
readings_ok m p = marks_below m (marks_at p) && absent_zero m (readings_in m p)

-- ---- both, from bytes that have them at an offset

-- the state's part, which comes first
abbrev pub state_part : ℕ → List ℕ → ℕ → List ℕ
state_part n b at = part b at (state_length n)

-- right after the state's
abbrev pub readings_part : ℕ → ℕ → List ℕ → ℕ → List ℕ
readings_part n m b at = part b (at + state_length n) (readings_length m)

-- the estimate at an offset
unfoldable pub estimate_at : ℕ → ℕ → List ℕ → ℕ → Estimate
estimate_at n m b at = record { state = state_in n (state_part n b at); readings = readings_in m (readings_part n m b at) }

-- whether an estimate can stand there: a state's part can be anything
unfoldable pub estimate_ok : ℕ → ℕ → List ℕ → ℕ → Bool
estimate_ok n m b at = readings_ok m (readings_part n m b at)

-- An estimate as bytes: the state's part, and the readings' part after it.
use Rattle.std.specs.Prelude.{ℕ, Bool, not, ◌&&◌, List, ◌∷◌, ◌++◌, take, ℤ}
use Rattle.readings.specs.declared.Readings.{Readings}
use Rattle.readings.specs.Readings.{mark_beyond}
use Rattle.octets.specs.Words.{values_bytes}
use Rattle.estimate.specs.Marks.{marks_byte, absent_zero}
use Rattle.estimate.specs.declared.Estimate.{Estimate}

-- "n i32 values"
unfoldable pub state_bytes : ℕ → List ℤ → List ℕ
state_bytes n x = values_bytes (take n x)

-- "then one byte of present marks .. and m i32 values, 0 where absent"
unfoldable pub readings_bytes : ℕ → Readings → List ℕ
readings_bytes m y = marks_byte y ∷ values_bytes (take m y.values)

-- "parts follow without gaps", "the state's part first"
unfoldable pub estimate_bytes : ℕ → ℕ → Estimate → List ℕ
estimate_bytes n m e = state_bytes n e.state ++ readings_bytes m e.readings

-- whether readings can be written: "Marks at or above m are 0", values "0 where absent"
unfoldable pub writable : ℕ → Readings → Bool
writable m y = not (mark_beyond m y) && absent_zero m y

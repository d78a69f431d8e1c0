-- An estimate's state and readings: what their types say of them, and which of them bytes carry.
use Rattle.std.specs.Prelude.{ℕ, ◌≡◌, List, length, replicate, ℤ, pos}
use Rattle.lists.specs.Places.{entry, filled}
use Rattle.lists.specs.I32.{AllI32}
use Rattle.readings.specs.Readings.{no_readings, normalised}
use Rattle.estimate.specs.declared.Estimate.{Estimate}

-- what the types of an estimate's fields say
pub record TypedEstimate (e : Estimate) : Type 0 where
  pub state-length : length e.state ≡ 6
  pub state : AllI32 e.state
  pub marks-length : length e.readings.present ≡ 4
  pub values_length : length e.readings.values ≡ 4
  pub values : AllI32 e.readings.values

-- a state with 0 in every place
abbrev pub no_state : List ℤ
no_state = replicate 6 (pos 0)

-- what stands where there is no estimate
abbrev pub no_estimate : Estimate
no_estimate = record { state = no_state; readings = no_readings }

-- a state with 0 in the places beyond n
abbrev pub first_states : ℕ → List ℤ → List ℤ
first_states n x = filled (pos 0) 6 n (entry x)

-- what the bytes of an estimate carry of it: n states, and m readings as the law reads them
unfoldable pub carried_estimate : ℕ → ℕ → Estimate → Estimate
carried_estimate n m e = record { state = first_states n e.state; readings = normalised m e.readings }

-- The byte of present marks, and what values may stand under them.
use Rattle.std.specs.Prelude.{ℕ, ◌+◌, ◌*◌, ◌/◌, ◌%◌, ◌^◌, Bool, false, ◌||◌, List, [], ◌∷◌, ℤ, pos, negsuc, eqb, ltb}
use Rattle.lists.specs.Choice.{pick}
use Rattle.lists.specs.Below.{all_below}
use Rattle.readings.specs.declared.Readings.{Readings}
use Rattle.readings.specs.Readings.{present}
use Rattle.lists.specs.Places.{entry}

-- a mark as a bit
abbrev pub bit : Bool → ℕ
bit mark = pick mark 1 0

-- "one byte of present marks (bit j for reading j, counted from 0)": bit 0 counts 1, bit 1 counts 2, bit 2 counts 4, bit 3 counts 8
unfoldable pub marks_byte : Readings → ℕ
marks_byte y = bit (present y 0) + 2 * bit (present y 1) + 4 * bit (present y 2) + 8 * bit (present y 3)

-- and back: the marks of the four places
unfoldable pub marks_in : ℕ → List Bool
marks_in k = eqb (k % 2) 1 ∷ eqb (k / 2 % 2) 1 ∷ eqb (k / 4 % 2) 1 ∷ eqb (k / 8 % 2) 1 ∷ []

-- "Marks at or above m are 0."
unfoldable pub marks_below : ℕ → ℕ → Bool
marks_below m k = ltb k (2 ^ m)

-- whether a value is 0
abbrev pub is_zero : ℤ → Bool
is_zero (pos k) = eqb k 0
is_zero (negsuc k) = false

-- "m i32 values, 0 where absent"
unfoldable pub absent_zero : ℕ → Readings → Bool
absent_zero m y = all_below m (λ j. present y j || is_zero (entry y.values j))

-- A row of readings: for each of four places a present mark and a value, of which the first m are in use.
use Rattle.std.specs.Prelude.{ℕ, Bool, false, ◌||◌, List, [], ◌∷◌, get_or, drop, replicate, ℤ, pos}
use Rattle.readings.specs.declared.Readings.{Readings}
use Rattle.lists.specs.Choice.{pick}
use Rattle.lists.specs.Places.{entry, filled}

-- the mark of reading j, counted from 0
abbrev pub present : Readings → ℕ → Bool
present y j = get_or y.present j false

-- "A value given under an absent mark is read as 0."
abbrev pub value : Readings → ℕ → ℤ
value y j = pick (present y j) (entry y.values j) (pos 0)

-- the row as the law and the frames read it: "Places of a table or list beyond n, m and p are not looked at"
unfoldable pub normalised : ℕ → Readings → Readings
normalised m y = record { present = filled false 4 m (present y); values = filled (pos 0) 4 m (value y) }

-- no reading: no mark, and 0 in every place
abbrev pub no_readings : Readings
no_readings = record { present = replicate 4 false; values = replicate 4 (pos 0) }

-- whether a mark of the list is set
unfoldable pub any_mark : List Bool → Bool
any_mark [] = false
any_mark (b ∷ bs) = b || any_mark bs

-- "a present mark at or above m"
unfoldable pub mark_beyond : ℕ → Readings → Bool
mark_beyond m y = any_mark (drop m y.present)

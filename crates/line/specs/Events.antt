-- What a line calls for: "`T r y` (tick, `-` for absent), `G r` (give up), `D r f` (deliver to r the frame that line f sent)". The letters T,
-- G and D are the bytes 84, 71 and 68, a minus is 45. `of_rig` tells whether the line is one of `rig`, which takes singles and the lines below too, or of
-- `bench`: "`S r`: the record of box r's replica is stored. `R r k`: box r comes back from the record that it stored last, with k missed periods (k decimal,
-- 0 to 4294967295)"; "`A` before an event, as `AT 1 100`, `AG 2`, `AD 2 1`: the event is asked"; "`C r t`: box r commits ticket t (decimal, 0 to
-- 18446744073709551615)"; "`SA r`: the record that box r's latest ask gave is stored". The letters S, R, A and C are the bytes 83, 82, 65 and 67.
use Rattle.std.specs.Prelude.{ℕ, ◌+◌, Bool, true, false, ◌&&◌, ◌||◌, List, Option, length, get_or, replicate, eqb, leb, ltb}
use Rattle.lists.specs.Choice.{pick}
use Rattle.lists.specs.Below.{all_below}
use Rattle.lists.specs.Places.{filled}
use Rattle.text.specs.Numbers.{magnitude, number_of, size_in, is_size, counted, value_in, is_whole}
use Rattle.transmitters.specs.declared.Reading.{Reading}
use Rattle.transmitters.specs.declared.Reading.TheVariants.{Count, Newtons, Missing}
use Rattle.line.specs.declared.events.Event.{Event}
use Rattle.line.specs.declared.events.Event.TheVariants.{Tick, GiveUp, Deliver, Store, Return, Commit, StoreAsked, Bad}
use Rattle.line.specs.declared.events.Called.{Called}
use Rattle.line.specs.Fields.{spaces, field}
use Rattle.line.specs.Singles.{single_in}
use Rattle.line.specs.Tickets.{ticket_of, is_ticket, number_in}

-- the byte of a field that has one alone, else 0
unfoldable pub letter_of : List ℕ → ℕ
letter_of word = pick (eqb (length word) 1) (get_or word 0 0) 0

-- "r 1 to 3", or to the number of boxes; 0 for anything else
unfoldable pub box_of : ℕ → List ℕ → ℕ
box_of boxes word = pick (leb (counted (number_of word)) boxes) (counted (number_of word)) 0

-- "A reading arrives as a count (i32), as an IEEE 754 single in newtons, or marked missing.": a field that is a number is a count, and in a line of `rig`
-- "`f` and eight digits" are a single; any other field is missing, as is "`-` for absent"
unfoldable pub reading_in : (of_rig : Bool) → List ℕ → Reading
reading_in of_rig word = pick (is_whole (number_of word)) (Count (value_in (number_of word))) (pick of_rig (single_in word) Missing)

-- a reading that is not missing
unfoldable pub is_given : Reading → Bool
is_given (Count n) = true
is_given (Newtons x) = true
is_given Missing = false

-- a field is a reading: there is one in it, or it is "`-` for absent"
unfoldable pub is_reading : (of_rig : Bool) → List ℕ → Bool
is_reading of_rig word = is_given (reading_in of_rig word) || eqb (letter_of word) 45

-- fields 2 to m + 1 are readings
unfoldable pub all_readings : (of_rig : Bool) → ℕ → List ℕ → Bool
all_readings of_rig m line = all_below m (λ j. is_reading of_rig (field (j + 2) line))

-- the readings of a tick's line; those beyond m are missing
unfoldable pub row_of : (of_rig : Bool) → ℕ → List ℕ → List Reading
row_of of_rig m line = filled Missing 4 m (λ j. reading_in of_rig (field (j + 2) line))

-- four readings that are missing
abbrev pub missing_row : List Reading
missing_row = replicate 4 Missing

-- a line that is no tick has no reading; it asks nothing
abbrev pub calls : Event → Called
calls event = record { event = event; asks = false; readings = missing_row }

-- `T r y`, with m readings: so many spaces stand in the line
unfoldable pub tick_called : (of_rig : Bool) (at m count : ℕ) → List ℕ → Called
tick_called of_rig at m count line =
    pick (eqb count (m + 1) && all_readings of_rig m line) (record { event = Tick at; asks = false; readings = row_of of_rig m line }) (calls Bad)

-- `G r`
unfoldable pub give_up_called : (at count : ℕ) → Called
give_up_called at count = calls (pick (eqb count 1) (GiveUp at) Bad)

-- `D r f`
unfoldable pub delivery_called : (at count f : ℕ) → Called
delivery_called at count f = calls (pick (eqb count 2 && ltb 0 f) (Deliver at f) Bad)

-- `S r`
unfoldable pub store_called : (at count : ℕ) → Called
store_called at count = calls (pick (eqb count 1) (Store at) Bad)

-- `R r k`
unfoldable pub return_called : (at count : ℕ) → Option ℕ → Called
return_called at count k = calls (pick (eqb count 2 && is_size k) (Return at (size_in k)) Bad)

-- `C r t`
unfoldable pub commit_called : (at count : ℕ) → Option ℕ → Called
commit_called at count t = calls (pick (eqb count 2 && is_ticket t) (Commit at (number_in t)) Bad)

-- what only a line of `rig` calls for
unfoldable pub power_called : (at letter count : ℕ) → List ℕ → Called
power_called at letter count line =
    pick (eqb letter 83) (store_called at count)
    (pick (eqb letter 82) (return_called at count (magnitude (field 2 line)))
    (pick (eqb letter 67) (commit_called at count (ticket_of (field 2 line))) (calls Bad)))

-- what a line with this letter and so many spaces calls for, at a box that is there
unfoldable pub called_for : (of_rig : Bool) (at m letter count : ℕ) → List ℕ → Called
called_for of_rig at m letter count line =
    pick (eqb letter 84) (tick_called of_rig at m count line)
    (pick (eqb letter 71) (give_up_called at count)
    (pick (eqb letter 68) (delivery_called at count (counted (number_of (field 2 line)))) (pick of_rig (power_called at letter count line) (calls Bad))))

-- an event that a replica takes
unfoldable pub is_taken : Event → Bool
is_taken (Tick at) = true
is_taken (GiveUp at) = true
is_taken (Deliver at f) = true
is_taken (Store at) = false
is_taken (Return at k) = false
is_taken (Commit at t) = false
is_taken (StoreAsked at) = false
is_taken Bad = false

-- "`A` before an event .. : the event is asked"; before anything else it is of no form
unfoldable pub ask_called : Called → Called
ask_called c = pick (is_taken c.event) (record { event = c.event; asks = true; readings = c.readings }) (calls Bad)

-- `SA r`
unfoldable pub store_asked_called : (at count : ℕ) → Called
store_asked_called at count = calls (pick (eqb count 1) (StoreAsked at) Bad)

-- what a line of `rig` calls for whose first field has these two letters
unfoldable pub two_called : (at m first second count : ℕ) → List ℕ → Called
two_called at m first second count line =
    pick (eqb first 65) (ask_called (called_for true at m second count line))
    (pick (eqb first 83 && eqb second 65) (store_asked_called at count) (calls Bad))

-- what a line with this first field and so many spaces calls for, at a box that is there
unfoldable pub word_called : (of_rig : Bool) (at m : ℕ) → List ℕ → (count : ℕ) → List ℕ → Called
word_called of_rig at m word count line =
    pick (of_rig && eqb (length word) 2) (two_called at m (get_or word 0 0) (get_or word 1 0) count line) (called_for of_rig at m (letter_of word) count line)

-- what a line calls for, in a group of so many boxes with m readings
unfoldable pub called : (of_rig : Bool) (boxes m : ℕ) → List ℕ → Called
called of_rig boxes m line =
    pick (eqb (box_of boxes (field 1 line)) 0) (calls Bad)
    (word_called of_rig (box_of boxes (field 1 line)) m (field 0 line) (spaces line) line)

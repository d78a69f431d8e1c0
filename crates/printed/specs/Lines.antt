-- A line that `bench` or `rig` printed, without its line feed. "Each line is judged by itself, in form and ranges": nothing relates two of its fields.
-- Quoted are document 01, "The bench", for what is printed, and docs/PAGE.md for what program page makes of it.
use Rattle.std.specs.Prelude.{ℕ, ◌-◌, Bool, true, false, not, ◌&&◌, ◌||◌, List, [], ◌∷◌, length, get_or, take, drop, None, Some, pos, eqb, leb}
use Rattle.lists.specs.Choice.{pick}
use Rattle.lists.specs.Places.{filled}
use Rattle.text.specs.Numbers.{magnitude, size_in, is_size}
use Rattle.line.specs.Fields.{spaces, field}
use Rattle.line.specs.Tickets.{ticket_of, is_ticket}
use Rattle.pages.specs.declared.entries.Entry.{Entry}
use Rattle.pages.specs.Reading.{same}
use Rattle.printed.specs.declared.lines.Printed.{Printed}
use Rattle.printed.specs.declared.lines.Printed.TheVariants.{Step, Foreign, Other}
use Rattle.printed.specs.Values.{is_list, how_many, value_at}

-- ---- fields

-- a number of 32 bits: "period, view, base view, base period"
unfoldable pub is_counter : List ℕ → Bool
is_counter bytes = is_size (magnitude bytes)

-- a number from 1 on, up to a highest one
unfoldable pub is_up_to : ℕ → List ℕ → Bool
is_up_to high bytes = is_size (magnitude bytes) && (leb 1 (size_in (magnitude bytes)) && leb (size_in (magnitude bytes)) high)

-- a line's number: "at most 500 lines"
abbrev pub is_line : List ℕ → Bool
is_line bytes = is_up_to 500 bytes

-- "`-` stands where there is no frame and no command"
unfoldable pub is_none : List ℕ → Bool
is_none bytes = same bytes (45 ∷ [])

-- `ok`
unfoldable pub is_ok : List ℕ → Bool
is_ok bytes = same bytes (111 ∷ 107 ∷ [])

-- `ignored`
unfoldable pub is_ignored : List ℕ → Bool
is_ignored bytes = same bytes (105 ∷ 103 ∷ 110 ∷ 111 ∷ 114 ∷ 101 ∷ 100 ∷ [])

-- the number of a refusal: a replica refuses by 1 to 12 and 18, a box that comes back by 16, and a commit by 17
unfoldable pub is_refusal_number : List ℕ → Bool
is_refusal_number bytes = is_up_to 12 bytes || (same bytes (49 ∷ 54 ∷ []) || (same bytes (49 ∷ 55 ∷ []) || same bytes (49 ∷ 56 ∷ [])))

-- "`r` and the number, as `r9`"
unfoldable pub is_refusal : List ℕ → Bool
is_refusal bytes = eqb (get_or bytes 0 0) 114 && is_refusal_number (drop 1 bytes)

-- `bad`
unfoldable pub is_bad : List ℕ → Bool
is_bad bytes = same bytes (98 ∷ 97 ∷ 100 ∷ [])

-- `no who answer k v vb kb x frame command`
unfoldable pub is_header : List ℕ → Bool
is_header bytes =
    same bytes
    (110 ∷ 111 ∷ 32 ∷ 119 ∷ 104 ∷ 111 ∷ 32 ∷ 97 ∷ 110 ∷ 115 ∷ 119 ∷ 101 ∷ 114 ∷ 32 ∷ 107 ∷ 32 ∷ 118 ∷ 32 ∷ 118 ∷ 98 ∷ 32 ∷ 107 ∷ 98 ∷ 32 ∷ 120
    ∷ 32 ∷ 102 ∷ 114 ∷ 97 ∷ 109 ∷ 101 ∷ 32 ∷ 99 ∷ 111 ∷ 109 ∷ 109 ∷ 97 ∷ 110 ∷ 100 ∷ [])

-- "perhaps with a `*` behind them, which is not shown": 42, directly behind a command
unfoldable pub unstarred : List ℕ → List ℕ
unstarred bytes = pick (eqb (get_or bytes (length bytes - 1) 0) 42) (take (length bytes - 1) bytes) bytes

-- ---- a step's line

-- "line, box, answer"
unfoldable pub head_ok : List ℕ → Bool
head_ok line =
    is_line (field 0 line) && (is_up_to 9 (field 1 line) && (is_ok (field 2 line) || (is_ignored (field 2 line) || is_refusal (field 2 line))))

-- "period, view, base view, base period"
unfoldable pub counters_ok : List ℕ → Bool
counters_ok line = is_counter (field 3 line) && (is_counter (field 4 line) && (is_counter (field 5 line) && is_counter (field 6 line)))

-- "line number if a frame was sent"; an ask has "`?` where one would be sent", which is 63
unfoldable pub is_frame : (asks : Bool) → List ℕ → Bool
is_frame asks bytes = is_none bytes || pick asks (same bytes (63 ∷ [])) (is_line bytes)

-- state, frame and command
unfoldable pub tail_ok : (asks : Bool) → List ℕ → Bool
tail_ok asks line =
    is_list 6 (field 7 line) && (is_frame asks (field 8 line) && (is_none (field 9 line) || is_list 4 (unstarred (field 9 line))))

-- the first ten fields, each in its form and range
unfoldable pub ten_ok : (asks : Bool) → List ℕ → Bool
ten_ok asks line = head_ok line && (counters_ok line && tail_ok asks line)

-- ten fields
unfoldable pub is_step : List ℕ → Bool
is_step line = eqb (spaces line) 9 && ten_ok false line

-- how many values its command has, 0 where there is none
unfoldable pub commands_in : List ℕ → ℕ
commands_in line = pick (is_none (field 9 line)) 0 (how_many 4 (unstarred (field 9 line)))

-- "an entry .. of its period `k` and its view `v`, with the command where there is one"
unfoldable pub entry_in : List ℕ → Entry
entry_in line =
    record {
      period = size_in (magnitude (field 3 line));
      view = size_in (magnitude (field 4 line));
      command = pick (is_none (field 9 line)) None (Some (filled (pos 0) 4 (commands_in line) (value_at (unstarred (field 9 line)))));
    }

-- ---- any line

-- an ask's line: eleven fields, of which the last is the ticket
unfoldable pub is_ask : List ℕ → Bool
is_ask line = eqb (spaces line) 10 && (ten_ok true line && is_ticket (ticket_of (field 10 line)))

-- "The header, `N bad`, and `bad` or `r_n` alone", and an ask's line: no step was made
unfoldable pub is_other : List ℕ → Bool
is_other line =
    is_header line || (is_bad line || (is_refusal line || (is_ask line || (eqb (spaces line) 1 && (is_line (field 0 line) && is_bad (field 1 line))))))

-- "an entry of each line whose answer is `ok`"
abbrev pub step_line : List ℕ → Printed
step_line line = Step (entry_in line) (commands_in line)

-- another line that bench or rig prints, and, foreign to both, a "line that neither program prints"
abbrev pub no_step : Bool → Printed
no_step true = Foreign
no_step false = Other

-- what a line is
unfoldable pub printed_as : List ℕ → Printed
printed_as line = pick (is_step line) (pick (is_ok (field 2 line)) (step_line line) (no_step false)) (no_step (not (is_other line)))

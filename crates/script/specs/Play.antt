-- One line played: what an event does at its box, and what the line leaves behind.
use Rattle.std.specs.Prelude.{ℕ, ◌+◌, ◌*◌, ◌≤◌, ◌≡◌, Bool, true, false, ◌&&◌, List, [], ◌∷◌, length, get_or, set, leb, ltb}
use Rattle.lists.specs.Choice.{pick}
use Rattle.transmitters.specs.declared.Reading.{Reading}
use Rattle.scram.specs.Answers.{Done, Ignored}
use Rattle.text.specs.Printing.{Puts}
use Rattle.replica.specs.declared.Settings.{Settings}
use Rattle.replica.specs.declared.Replica.{Replica}
use Rattle.replica.specs.Calls.{made}
use Rattle.records.specs.Reading.{is_done}
use Rattle.records.specs.Returning.{stay_answer, stayed}
use Rattle.asks.specs.Asking.{ticketless}
use Rattle.line.specs.declared.events.Event.{Event}
use Rattle.line.specs.declared.events.Event.TheVariants.{Tick, GiveUp, Deliver, Store, Return, Commit, StoreAsked, Bad}
use Rattle.line.specs.Frames.{slot, was_sent, frame_of, kept as sent_kept}
use Rattle.script.specs.declared.boxes.Kept.{Kept}
use Rattle.script.specs.declared.play.PlayedLine.{PlayedLine}
use Rattle.script.specs.Printing.{bad_line, step_line, ask_line}
use Rattle.script.specs.Boxes.{no_ask, unstored, with_record, Effect, quietly, stepping, ticked, given_up, arrived}
use Rattle.script.specs.Asking.{Asking, ask_of, committing, storing_asked}

-- the box that an event is for, 0 where there is none
unfoldable pub box_in : Event → ℕ
box_in (Tick at) = at
box_in (GiveUp at) = at
box_in (Deliver at f) = at
box_in (Store at) = at
box_in (Return at k) = at
box_in (Commit at t) = at
box_in (StoreAsked at) = at
box_in Bad = 0

-- the line whose frame is delivered, 0 where none is
unfoldable pub line_in : Event → ℕ
line_in (Tick at) = 0
line_in (GiveUp at) = 0
line_in (Deliver at f) = f
line_in (Store at) = 0
line_in (Return at k) = 0
line_in (Commit at t) = 0
line_in (StoreAsked at) = 0
line_in Bad = 0

-- the place of its box: box b has place b, and place 0 is no box's
unfoldable pub place_of : Event → ℕ
place_of event = pick (ltb (box_in event) 10) (box_in event) 0

-- "other lines and unsent frames print the line number, a space and `bad`", of a box that comes back "`bad` where it has stored none", and of the record of
-- an ask "`bad` where there has been no ask since the box was made or returned, or the latest was ignored or refused"
unfoldable pub playable : (stored asked : Bool) → Event → ℕ → List ℕ → Bool
playable stored asked (Tick at) number lengths = true
playable stored asked (GiveUp at) number lengths = true
playable stored asked (Deliver at f) number lengths = was_sent lengths number f
playable stored asked (Store at) number lengths = true
playable stored asked (Return at k) number lengths = stored
playable stored asked (Commit at t) number lengths = true
playable stored asked (StoreAsked at) number lengths = asked
playable stored asked Bad number lengths = false

-- "at most 500 lines"
abbrev pub most : ℕ
most = 500

-- the table of frames has a slot for each line, and the list of their lengths a place; lines are counted from 1
abbrev pub table_length : ℕ
table_length = slot * (most + 1)

-- and there are boxes up to 9
unfoldable pub has_room : Event → ℕ → ℕ → ℕ → Bool
has_room event number table lengths = leb number most && (leb (box_in event) 9 && (leb table_length table && leb (most + 1) lengths))

-- "the record of box r's replica is stored"
abbrev pub storing : Kept → Effect
storing b = quietly Done (with_record b b.ticketed.replica)

-- a box that came back as this replica: "After an ok `R` tickets count from 1 and there is no latest ask", and the record "stays stored for further `R`s"
abbrev pub returned_as : Kept → Replica → Kept
returned_as b r = record { ticketed = ticketless r; stored = b.stored; recorded = b.recorded; latest = no_ask }

-- "box r comes back from the record that it stored last, with k missed periods"; "where returning refuses .. the box stays as it was"
unfoldable pub back_from : ℕ → Kept → Kept
back_from k b = pick (is_done (stay_answer k b.recorded)) (returned_as b (stayed k b.recorded)) b

-- and what the line of a return gives: "frame and command are `-`"
abbrev pub returning : Kept → ℕ → Effect
returning b k = quietly (stay_answer k b.recorded) (back_from k b)

-- what an event gives at its box; bytes are those of the frame delivered
unfoldable pub effect_of : Kept → Event → List Reading → List ℕ → Effect
effect_of b (Tick at) y bytes = stepping b (ticked b y)
effect_of b (GiveUp at) y bytes = stepping b (given_up b)
effect_of b (Deliver at f) y bytes = stepping b (arrived b bytes)
effect_of b (Store at) y bytes = storing b
effect_of b (Return at k) y bytes = returning b k
effect_of b (Commit at t) y bytes = committing b t
effect_of b (StoreAsked at) y bytes = storing_asked b
effect_of b Bad y bytes = quietly Ignored b

-- what a line leaves: what is kept of its box, what is printed, the table of frames and the list of their lengths
pub record After : Type 0 where
  pub kept : Kept
  pub printed : List ℕ
  pub table : List ℕ
  pub lengths : List ℕ

-- a line that is no line of the format, or cannot be played
abbrev pub after_bad : Kept → ℕ → List ℕ → List ℕ → After
after_bad b number table lengths = record { kept = b; printed = bad_line number; table = table; lengths = lengths }

-- a line whose event gives this: where it sends a frame, the table has it in the line's slot, and a later line may deliver it
abbrev pub after_step : Event → ℕ → List ℕ → List ℕ → Effect → After
after_step event number table lengths e = record {
  kept = e.kept;
  printed = step_line number (box_in event) e.answer e.kept.ticketed.replica e.gave.sent e.gave.issued e.gave.command;
  table = sent_kept table number e.gave.frame e.gave.sent;
  lengths = set lengths number e.gave.sent;
}

-- what is printed of an ask
abbrev pub ask_printed : Event → ℕ → Asking → List ℕ
ask_printed event number a =
    let gave = a.kept.latest.gave in
    ask_line number (box_in event) a.answer a.shown gave.sent gave.issued gave.command a.ticket

-- a line whose event is asked: it sends nothing, so "`D` names the commit's line, never the ask's"
abbrev pub after_ask : Event → ℕ → List ℕ → List ℕ → Asking → After
after_ask event number table lengths a = record { kept = a.kept; printed = ask_printed event number a; table = table; lengths = lengths }

-- the bytes of the frame that an event delivers, none for any other event
unfoldable pub arriving : Event → List ℕ → List ℕ → List ℕ
arriving event table lengths = frame_of table (line_in event) (get_or lengths (line_in event) 0)

-- what the line of an event leaves, at its box; `asks` tells whether the event is asked
unfoldable pub after_event : Kept → (asks : Bool) → Event → List Reading → ℕ → List ℕ → List ℕ → After
after_event b asks event y number table lengths =
    pick (has_room event number (length table) (length lengths) && playable b.stored b.latest.ok event number lengths)
    (pick asks (after_ask event number table lengths (ask_of b event y (arriving event table lengths)))
    (after_step event number table lengths (effect_of b event y (arriving event table lengths))))
    (after_bad b number table lengths)

-- a printed state of six values has at most so many bytes
abbrev pub state_room : ℕ
state_room = 73

-- and a printed line at most so many
abbrev pub line_room : ℕ
line_room = 256

-- a line played, and the lent areas at its end, are what a line leaves: it is printed after the first `at` bytes of the text
pub record Leaves (a : After) (at : ℕ) (r : PlayedLine) (table' lengths' text text' : List ℕ) : Type 0 where
  pub kept : r.kept ≡ a.kept
  pub printed : Puts text at a.printed r.end text'
  pub short : length a.printed ≤ line_room
  pub table : table' ≡ a.table
  pub lengths : lengths' ≡ a.lengths

-- the same of the line of an ask, which leaves the table and the list of lengths as they are
pub record AskLeaves (event : Event) (number : ℕ) (a : Asking) (at : ℕ) (r : PlayedLine) (text text' : List ℕ) : Type 0 where
  pub kept : r.kept ≡ a.kept
  pub printed : Puts text at (ask_printed event number a) r.end text'
  pub short : length (ask_printed event number a) ≤ line_room

-- the fresh replica of box b, one that refuses every event by 1 where there is no such box or the settings are refused
abbrev pub fresh_box : Settings → ℕ → Replica
fresh_box s b = made (record { boxes = s.boxes; own = b; quorums = s.quorums; law = s.law })

-- boxes with fresh replicas, box b at place b
unfoldable pub fresh_boxes : Settings → List Kept
fresh_boxes s =
    unstored (fresh_box s 0) ∷ unstored (fresh_box s 1) ∷ unstored (fresh_box s 2) ∷ unstored (fresh_box s 3) ∷ unstored (fresh_box s 4)
    ∷ unstored (fresh_box s 5) ∷ unstored (fresh_box s 6) ∷ unstored (fresh_box s 7) ∷ unstored (fresh_box s 8) ∷ unstored (fresh_box s 9) ∷ []

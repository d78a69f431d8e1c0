-- Which bytes are a replica with tickets, and what is in it. 15 refuses all others: "15 record not of the layout" is of the tickets' layout too.
use Rattle.std.specs.Prelude.{ℕ, Bool, true, not, ◌&&◌, List, ◌++◌, length, get_or, take, eqb, leb}
use Rattle.lists.specs.Choice.{pick}
use Rattle.records.specs.Lengths.{settings_length, record_length}
use Rattle.records.specs.HeldPart.{held_at}
use Rattle.records.specs.Reading.{zero_at, is_record, replica_in}
use Rattle.asks.specs.declared.Ticketed.{Ticketed}
use Rattle.ticketed.specs.Lengths.{ticketed_length}
use Rattle.ticketed.specs.TicketsPart.{letter, version, tickets_at}

-- ---- what is in it

-- the record of the replica: "There a replica is its record"
abbrev pub record_of : List ℕ → List ℕ
record_of b = take record_length b

-- the record of the replica that the step of the latest ticket leaves: no step changes the settings
abbrev pub step_record : List ℕ → List ℕ
step_record b = take settings_length b ++ (tickets_at b).step

-- the replica, and the tickets beside it
unfoldable pub ticketed_in : List ℕ → Ticketed
unfolding tickets_at
ticketed_in b = record {
  replica = replica_in (record_of b);
  tickets = record { latest = (tickets_at b).latest; pending = (tickets_at b).pending; held = held_at b 632 };
}

-- ---- what 15 looks at

-- the letter, the version, a mark that is 0 or 1, and 0 in the bytes that are not in use
unfoldable pub head_ok : List ℕ → Bool
head_ok b = eqb (get_or b 616 0) letter && (eqb (get_or b 617 0) version && (leb (get_or b 618 0) 1 && zero_at b 619 5))

-- a ticket that can be committed was given, "from 1", and its step leaves a record; where none can be, the step is not looked at
unfoldable pub step_ok : List ℕ → Bool
unfolding tickets_at
step_ok b = pick (tickets_at b).pending (not (eqb (tickets_at b).latest 0) && is_record (step_record b)) true

-- the tickets' part
unfoldable pub tickets_ok : List ℕ → Bool
unfolding head_ok step_ok
tickets_ok b = eqb (length b) ticketed_length && (head_ok b && step_ok b)

-- whether bytes are a replica with tickets
unfoldable pub is_ticketed : List ℕ → Bool
unfolding tickets_ok
is_ticketed b = tickets_ok b && is_record (record_of b)

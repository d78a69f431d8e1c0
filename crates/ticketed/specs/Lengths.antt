-- How long a replica with tickets is: docs/RECORD.md has the offsets.
use Rattle.std.specs.Prelude.{ℕ, ◌+◌}
use Rattle.records.specs.Lengths.{held_length, record_length}

-- "have 64 bits"
abbrev pub ticket_length : ℕ
ticket_length = 8

-- the part of the tickets: eight bytes before the latest ticket, the ticket, and what its step leaves
abbrev pub tickets_length : ℕ
tickets_length = 8 + ticket_length + held_length

-- "Tickets stand beside the replica": behind its record
abbrev pub ticketed_length : ℕ
ticketed_length = record_length + tickets_length

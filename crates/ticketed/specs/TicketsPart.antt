-- The tickets' part of a replica with tickets: its bytes, and the tickets in it. What the step of a ticket leaves is the part of its record that no ask and no
-- step keeps: what is held.
use Rattle.std.specs.Prelude.{ℕ, List, [], ◌∷◌, ◌++◌}
use Rattle.octets.specs.Words.{little_endian, number_at, part}
use Rattle.estimate.specs.Marks.{bit}
use Rattle.records.specs.Lengths.{held_length}
use Rattle.records.specs.HeldPart.{mark_at}
use Rattle.tickets.specs.Tickets.{Tickets}
use Rattle.ticketed.specs.Lengths.{ticket_length}

-- ---- as bytes

-- byte 616, the letter T
abbrev pub letter : ℕ
letter = 84

-- byte 617, the version of the tickets' layout
abbrev pub version : ℕ
version = 1

-- the eight bytes before the latest ticket: byte 618 is 1 where it can be committed
unfoldable pub head_bytes : ℕ → List ℕ
head_bytes mark = letter ∷ version ∷ mark ∷ 0 ∷ 0 ∷ 0 ∷ 0 ∷ 0 ∷ []

-- "Tickets stand beside the replica, have 64 bits": whether the latest can be committed, the latest, and what its step leaves
unfoldable pub ticket_bytes : Tickets (List ℕ) → List ℕ
unfolding head_bytes
ticket_bytes t = head_bytes (bit t.pending) ++ (little_endian ticket_length t.latest ++ t.step)

-- ---- and back

-- the tickets in a replica with tickets
unfoldable pub tickets_at : List ℕ → Tickets (List ℕ)
tickets_at b = record { latest = number_at ticket_length b 624; pending = mark_at b 618; step = part b 632 held_length }

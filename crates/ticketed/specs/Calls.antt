-- What asks, commits and steps give, of a replica with tickets in the area of a caller: by the definitions of crate asks at the replica and the tickets in it.
use Rattle.std.specs.Prelude.{ℕ, ◌≡◌, Bool, not, List, [], ◌∷◌, ◌++◌, length, drop, replicate, eqb, ltb}
use Rattle.lists.specs.Choice.{pick}
use Rattle.lists.specs.Refusals.{Refusal, refusal, first_of}
use Rattle.octets.specs.Words.{part}
use Rattle.octets.specs.Areas.{over}
use Rattle.refusal.specs.declared.Refusal.TheVariants.{Record}
use Rattle.scram.specs.Answers.{Answered, Done, Refused, answered}
use Rattle.scram.specs.declared.Answer.TheVariants as Answer
use Rattle.scram.specs.Events.{refusing}
use Rattle.tickets.specs.Tickets.{Tickets, no_tickets, ticket_for, after_ask, after_step, commit_refusal, after_commit}
use Rattle.replica.specs.declared.Replica.{Replica}
use Rattle.replica.specs.declared.Stepped as Plain
use Rattle.replica.specs.Held.{held_in}
use Rattle.replica.specs.Frames.{sent_bytes, issued_bytes}
use Rattle.replica.specs.Calls.{Outcomes}
use Rattle.records.specs.Lengths.{settings_length, held_length}
use Rattle.records.specs.Recording.{record_bytes}
use Rattle.records.specs.Reading.{is_done, is_record}
use Rattle.asks.specs.declared.Ticketed.{Ticketed}
use Rattle.asks.specs.declared.Asked as Value
use Rattle.asks.specs.Asking.{step_of, ask_outcome, asked_record}
use Rattle.ticketed.specs.declared.Asked.{Asked}
use Rattle.ticketed.specs.declared.Stepped.{Stepped}
use Rattle.ticketed.specs.Lengths.{ticketed_length}
use Rattle.ticketed.specs.TicketsPart.{ticket_bytes, tickets_at}
use Rattle.ticketed.specs.Reading.{record_of, step_record, ticketed_in, is_ticketed}

-- "A refusal returns its number": the answer of a call that refuses by this number, where it is not 0
abbrev pub answer_of : ℕ → Answered
answer_of number = pick (eqb number 0) Done (Refused number)

-- the bytes of what a step sends
abbrev pub sent_at : List ℕ → Outcomes → List ℕ
sent_at b o = sent_bytes (ticketed_in b).replica.settings.law.n (ticketed_in b).replica.settings.law.m o.sent

-- and of the command that it issues
abbrev pub issued_at : List ℕ → Outcomes → List ℕ
issued_at b o = issued_bytes (ticketed_in b).replica.settings.law.p o.command

-- ---- a record with tickets

-- "Tickets .. count from 1 after each making or return": none was given, and no step waits
abbrev pub fresh_tickets : Tickets (List ℕ)
fresh_tickets = no_tickets (replicate held_length 0)

-- "5 also for a record area too short", here for one that has room for the tickets too
abbrev pub short_ticketed : ℕ → Refusal
short_ticketed area = refusal 5 (ltb area ticketed_length)

-- the number of the refusal, or 0, where the area is so long: 15 for the record, then 5
unfoldable pub tickets_refusal : List ℕ → ℕ → ℕ
tickets_refusal b area = first_of (refusal 15 (not (is_record b)) ∷ short_ticketed area ∷ [])

-- what is written to the start of the area
unfoldable pub with_tickets : List ℕ → ℕ → List ℕ
with_tickets b area = pick (eqb (tickets_refusal b area) 0) (b ++ ticket_bytes fresh_tickets) []

-- ---- asks

-- what an ask of this event gives, the record area being so long: 15 before all else
unfoldable pub ask_at : List ℕ → ℕ → (Replica → Outcomes) → Outcomes
ask_at b area event =
    pick (is_ticketed b) (ask_outcome (ticketed_in b) area (event (ticketed_in b).replica)) (refusing (held_in (ticketed_in b).replica.held) 15)

-- its ticket: none where 15 refuses
unfoldable pub ticket_at : List ℕ → ℕ
ticket_at b = pick (is_ticketed b) (ticket_for (tickets_at b)) 0

-- the tickets after an ask with this outcome: what its step leaves is the part of its record that is not the settings'
abbrev pub tickets_after : List ℕ → Outcomes → ℕ → Tickets (List ℕ)
tickets_after b o area = after_ask (tickets_at b) (is_done o.answer) (drop settings_length (asked_record (ticketed_in b) o area))

-- "making no step": the record stays, whatever the answer is
unfoldable pub asked_area : List ℕ → Outcomes → ℕ → List ℕ
asked_area b o area = pick (is_ticketed b) (record_of b ++ ticket_bytes (tickets_after b o area)) b

-- An ask gives what this outcome does, "with a ticket": each area to the last byte, the replica's from b to b', the record area from area to area', the
-- frame area from frame to frame' and the command area from command to command'.
pub record Asks (b : List ℕ) (o : Outcomes) (r : Asked) (b' area area' frame frame' command command' : List ℕ) : Type 0 where
  pub answer : answered r.answer ≡ o.answer
  pub ticket : r.ticket ≡ ticket_at b
  pub replica : b' ≡ asked_area b o (length area)
  pub record-bytes : area' ≡ over (asked_record (ticketed_in b) o (length area)) area
  pub frame-length : r.frame ≡ length (sent_at b o)
  pub command-length : r.command ≡ length (issued_at b o)
  pub frame-bytes : frame' ≡ over (sent_at b o) frame
  pub command-bytes : command' ≡ over (issued_at b o) command

-- ---- commits

-- the number of the refusal of a commit, or 0: 15, then 17
unfoldable pub committing_refusal : List ℕ → ℕ → ℕ
committing_refusal b ticket = first_of (refusal 15 (not (is_ticketed b)) ∷ commit_refusal (tickets_at b) ticket ∷ [])

-- "committing that ticket makes exactly that step and writes no frame or command": the record is then the one that the ask gave
unfoldable pub committing : List ℕ → ℕ → List ℕ
committing b ticket = pick (eqb (committing_refusal b ticket) 0) (step_record b ++ ticket_bytes (after_commit (tickets_at b) ticket)) b

-- ---- steps without an ask

-- a step at the replica: 15 before all else
unfoldable pub step_at : List ℕ → (Replica → Outcomes) → Outcomes
step_at b event = pick (is_ticketed b) (event (ticketed_in b).replica) (refusing (held_in (ticketed_in b).replica.held) 15)

-- the area after it: the record of the replica that the step gives back, where it was done, "or a step made, voids the earlier ticket"; else what it held
unfoldable pub stepped_area : List ℕ → Outcomes → List ℕ
stepped_area b o = pick (is_done o.answer) (record_bytes (step_of (ticketed_in b) o) ++ ticket_bytes (after_step (tickets_at b) (is_done o.answer))) b

-- a step gives what this outcome does: the replica's area from b to b', and the lent areas, to the last byte
pub record Steps (b : List ℕ) (o : Outcomes) (r : Stepped) (b' frame frame' command command' : List ℕ) : Type 0 where
  pub answer : answered r.answer ≡ o.answer
  pub replica : b' ≡ stepped_area b o
  pub frame-length : r.frame ≡ length (sent_at b o)
  pub command-length : r.command ≡ length (issued_at b o)
  pub frame-bytes : frame' ≡ over (sent_at b o) frame
  pub command-bytes : command' ≡ over (issued_at b o) command

-- ---- as values

-- a replica with these tickets, for an ask: what the step of the latest leaves is not looked at, and stays in its bytes
abbrev pub askable : Replica → Tickets (List ℕ) → Ticketed
askable r t = record { replica = r; tickets = record { latest = t.latest; pending = t.pending; held = r.held } }

-- the area after an ask that left these tickets, and this in the record area
abbrev pub noted : List ℕ → (latest : ℕ) (pending : Bool) → List ℕ → List ℕ
noted b latest pending area =
    record_of b ++ ticket_bytes (record { latest = latest; pending = pending; step = pick pending (part area settings_length held_length) (tickets_at b).step })

-- what is given of an ask
abbrev pub asked_as : Value.Asked → Asked
asked_as asked = record { answer = asked.answer; ticket = asked.ticket; frame = asked.frame; command = asked.command }

-- an ask that 15 refuses
abbrev pub refused_ask : Asked
refused_ask = record { answer = Answer.Refused Record; ticket = 0; frame = 0; command = 0 }

-- what is given of a step
abbrev pub stepped_as : Plain.Stepped → Stepped
stepped_as s = record { answer = s.answer; frame = s.frame; command = s.command }

-- a step that 15 refuses
abbrev pub refused_step : Stepped
refused_step = record { answer = Answer.Refused Record; frame = 0; command = 0 }

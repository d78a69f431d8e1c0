-- What an ask, a commit and a step give, of a replica with tickets beside it. The tickets are those of crate tickets, and the step of a ticket is what the
-- replica holds after it: no step changes the settings.
use Rattle.std.specs.Prelude.{ℕ, ◌≡◌, List, [], length, eqb}
use Rattle.lists.specs.Choice.{pick}
use Rattle.octets.specs.Areas.{over}
use Rattle.scram.specs.Answers.{Answered, Done, Ignored, Refused, answered}
use Rattle.scram.specs.Events.{refusing, ignoring}
use Rattle.scram.specs.declared.Answer.{Answer}
use Rattle.replica.specs.declared.Held.{Held}
use Rattle.replica.specs.declared.Replica.{Replica}
use Rattle.replica.specs.declared.Stepped as Plain
use Rattle.replica.specs.Held.{held_in, held_of}
use Rattle.replica.specs.Frames.{sent_bytes, issued_bytes}
use Rattle.replica.specs.Calls.{Outcomes}
use Rattle.records.specs.Recording.{record_refusal, recorded}
use Rattle.records.specs.Reading.{is_done}
use Rattle.tickets.specs.Tickets as Of
use Rattle.tickets.specs.Tickets.{no_tickets, is_spent, ticket_for, after_ask, after_step, commits, after_commit}
use Rattle.asks.specs.declared.Tickets.{Tickets}
use Rattle.asks.specs.declared.Ticketed.{Ticketed}
use Rattle.asks.specs.declared.Asked.{Asked}
use Rattle.asks.specs.declared.Stepped.{Stepped}

-- the tickets beside a replica
abbrev pub tickets_of : Tickets → Of.Tickets Held
tickets_of t = record { latest = t.latest; pending = t.pending; step = t.held }

-- and as a value again
abbrev pub tickets_in : Of.Tickets Held → Tickets
tickets_in t = record { latest = t.latest; pending = t.pending; held = t.step }

-- "Tickets .. count from 1 after each making or return": a replica that was made or returned
abbrev pub ticketless : Replica → Ticketed
ticketless r = record { replica = r; tickets = tickets_in (no_tickets r.held) }

-- the replica that a step leaves
abbrev pub step_of : Ticketed → Outcomes → Replica
step_of x o = record { settings = x.replica.settings; held = held_of o.held }

-- ---- asking

-- What is answered before the event is looked at, the record area being so long: "an ask after the largest is ignored before any check"; then 1 to 4 and
-- 5, as for recording.
unfoldable pub answer_before : Ticketed → ℕ → Answered
answer_before x area =
    pick (is_spent (tickets_of x.tickets)) Ignored
    (pick (eqb (record_refusal x.replica.settings area) 0) Done (Refused (record_refusal x.replica.settings area)))

-- nothing is sent or issued where this is answered, and the replica stays; else the event has this outcome
abbrev pub outcome_after : Held → Answered → Outcomes → Outcomes
outcome_after h Done o = o
outcome_after h Ignored o = ignoring (held_in h)
outcome_after h (Refused number) o = refusing (held_in h) number

-- "the answer, record, frame and command it would give", where the event has this outcome and the record area is so long
unfoldable pub ask_outcome : Ticketed → ℕ → Outcomes → Outcomes
ask_outcome x area o = outcome_after x.replica.held (answer_before x area) o

-- the record that an ask with this outcome writes to an area that is so long: that of the replica after the step, where its answer is ok
unfoldable pub asked_record : Ticketed → Outcomes → ℕ → List ℕ
asked_record x o area = pick (is_done o.answer) (recorded (step_of x o) area) []

-- An ask gives what this outcome does, "with a ticket, making no step": each area to the last byte, the record area from area to area', the frame area
-- from frame to frame' and the command area from command to command'.
pub record Asks (x : Ticketed) (o : Outcomes) (r : Asked) (area area' frame frame' command command' : List ℕ) : Type 0 where
  pub answer : answered r.answer ≡ o.answer
  pub ticket : r.ticket ≡ ticket_for (tickets_of x.tickets)
  pub replica : r.ticketed.replica ≡ x.replica
  pub tickets : r.ticketed.tickets ≡ tickets_in (after_ask (tickets_of x.tickets) (is_done o.answer) (held_of o.held))
  pub record-bytes : area' ≡ over (asked_record x o (length area)) area
  pub frame-length : r.frame ≡ length (sent_bytes x.replica.settings.law.n x.replica.settings.law.m o.sent)
  pub command-length : r.command ≡ length (issued_bytes x.replica.settings.law.p o.command)
  pub frame-bytes : frame' ≡ over (sent_bytes x.replica.settings.law.n x.replica.settings.law.m o.sent) frame
  pub command-bytes : command' ≡ over (issued_bytes x.replica.settings.law.p o.command) command

-- ---- committing

-- what a commit answers
abbrev pub commit_answer : Ticketed → ℕ → Answered
commit_answer x ticket = pick (commits (tickets_of x.tickets) ticket) Done (Refused 17)

-- the replica then: "committing that ticket makes exactly that step"
abbrev pub committed_replica : Ticketed → ℕ → Replica
committed_replica x ticket = pick (commits (tickets_of x.tickets) ticket) (record { settings = x.replica.settings; held = x.tickets.held }) x.replica

-- with its tickets; a commit "writes no frame or command", and has no area
unfoldable pub committed : Ticketed → ℕ → Ticketed
committed x ticket = record { replica = committed_replica x ticket; tickets = tickets_in (after_commit (tickets_of x.tickets) ticket) }

-- ---- a step without an ask

-- a step gives what this outcome does, and "a step made, voids the earlier ticket"
pub record Steps (x : Ticketed) (o : Outcomes) (r : Stepped) (frame frame' command command' : List ℕ) : Type 0 where
  pub answer : answered r.answer ≡ o.answer
  pub replica : r.ticketed.replica ≡ step_of x o
  pub tickets : r.ticketed.tickets ≡ tickets_in (after_step (tickets_of x.tickets) (is_done o.answer))
  pub frame-length : r.frame ≡ length (sent_bytes x.replica.settings.law.n x.replica.settings.law.m o.sent)
  pub command-length : r.command ≡ length (issued_bytes x.replica.settings.law.p o.command)
  pub frame-bytes : frame' ≡ over (sent_bytes x.replica.settings.law.n x.replica.settings.law.m o.sent) frame
  pub command-bytes : command' ≡ over (issued_bytes x.replica.settings.law.p o.command) command

-- ---- as values

-- an ask with this answer, whose step leaves this and writes so much
abbrev pub ask_giving : Ticketed → Answer → Held → (frame command : ℕ) → Asked
ask_giving x answer held frame command =
    record {
      answer = answer;
      ticket = ticket_for (tickets_of x.tickets);
      ticketed = record { replica = x.replica; tickets = tickets_in (after_ask (tickets_of x.tickets) (is_done (answered answer)) held) };
      frame = frame;
      command = command;
    }

-- a step that was not asked and gave this
abbrev pub step_giving : Ticketed → Plain.Stepped → Stepped
step_giving x s =
    record {
      answer = s.answer;
      ticketed = record { replica = s.replica; tickets = tickets_in (after_step (tickets_of x.tickets) (is_done (answered s.answer))) };
      frame = s.frame;
      command = s.command;
    }

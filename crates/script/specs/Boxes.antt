-- What is kept of a box, and what an event gives at it.
use Rattle.std.specs.Prelude.{ℕ, ◌≡◌, true, false, List, length, replicate}
use Rattle.transmitters.specs.declared.Reading.{Reading}
use Rattle.transmitters.specs.Conversion.{converted_row}
use Rattle.scram.specs.Answers.{Answered, answered}
use Rattle.octets.specs.Areas.{over}
use Rattle.frame.specs.Lengths.{longest_frame, longest_command}
use Rattle.replica.specs.declared.Settings.{Settings}
use Rattle.replica.specs.declared.Replica.{Replica}
use Rattle.replica.specs.Frames.{sent_bytes, issued_bytes}
use Rattle.replica.specs.Calls.{Outcomes, tick_outcome, give_up_outcome, arrive_outcome}
use Rattle.records.specs.Reading.{is_done}
use Rattle.tickets.specs.Tickets.{after_step}
use Rattle.asks.specs.declared.Ticketed.{Ticketed}
use Rattle.asks.specs.declared.Stepped.{Stepped}
use Rattle.asks.specs.Asking.{tickets_of, tickets_in, ticketless, step_of}
use Rattle.script.specs.declared.boxes.Outgoing.{Outgoing}
use Rattle.script.specs.declared.boxes.Latest.{Latest}
use Rattle.script.specs.declared.boxes.Kept.{Kept}
use Rattle.script.specs.declared.boxes.Effect as Given

-- ---- frames and commands

-- no frame and no command: areas that held zeros before, and nothing written to them
abbrev pub nothing : Outgoing
nothing = record { frame = replicate longest_frame 0; sent = 0; command = replicate longest_command 0; issued = 0 }

-- those of a step with this outcome, at a replica with settings s
abbrev pub outgoing : Settings → Outcomes → Outgoing
outgoing s o = record {
  frame = over (sent_bytes s.law.n s.law.m o.sent) (replicate longest_frame 0);
  sent = length (sent_bytes s.law.n s.law.m o.sent);
  command = over (issued_bytes s.law.p o.command) (replicate longest_command 0);
  issued = length (issued_bytes s.law.p o.command);
}

-- ---- a box

-- there was "no ask since the box was made or returned"
abbrev pub no_ask : Latest
no_ask = record { ok = false; gave = nothing }

-- What is kept of a box is its replica, with tickets beside it; whether a record was stored, and the replica whose record was stored last: a record is read
-- as the very replica that was recorded; and of the latest ask since the box was made or returned whether its answer was ok, and what it gave. This is a
-- box that was made, and has stored no record.
abbrev pub unstored : Replica → Kept
unstored r = record { ticketed = ticketless r; stored = false; recorded = r; latest = no_ask }

-- another replica with its tickets
abbrev pub with_ticketed : Kept → Ticketed → Kept
with_ticketed b x = record { ticketed = x; stored = b.stored; recorded = b.recorded; latest = b.latest }

-- the record of this replica stored
abbrev pub with_record : Kept → Replica → Kept
with_record b r = record { ticketed = b.ticketed; stored = true; recorded = r; latest = b.latest }

-- ---- what an event gives

-- its answer, the frame and the command that leave, and what is kept of the box then
pub record Effect : Type 0 where
  pub answer : Answered
  pub gave : Outgoing
  pub kept : Kept

-- and as a value
pub record Gives (e : Effect) (r : Given.Effect) : Type 0 where
  pub answer : answered r.answer ≡ e.answer
  pub kept : r.kept ≡ e.kept
  pub gave : r.gave ≡ e.gave

-- "frame and command are `-`": an event that answers so and leaves this of its box
abbrev pub quietly : Answered → Kept → Effect
quietly answer b = record { answer = answer; kept = b; gave = nothing }

-- a step of this outcome that was not asked; "a step made, voids the earlier ticket"
abbrev pub stepping : Kept → Outcomes → Effect
stepping b o = record {
  answer = o.answer;
  kept =
      with_ticketed b (record { replica = step_of b.ticketed o; tickets = tickets_in (after_step (tickets_of b.ticketed.tickets) (is_done o.answer)) });
  gave = outgoing b.ticketed.replica.settings o;
}

-- a step that gave this, with these areas, as a value
abbrev pub step_giving : Kept → Stepped → (frame command : List ℕ) → Given.Effect
step_giving b s frame command = record {
  answer = s.answer;
  kept = with_ticketed b s.ticketed;
  gave = record { frame = frame; sent = s.frame; command = command; issued = s.command };
}

-- ---- the events that a replica takes, lent areas of the longest frame and command

-- "`T r y` (tick, `-` for absent)"
abbrev pub ticked : Kept → List Reading → Outcomes
ticked b y = tick_outcome b.ticketed.replica (converted_row y) longest_frame longest_command

-- "`G r` (give up)"
abbrev pub given_up : Kept → Outcomes
given_up b = give_up_outcome b.ticketed.replica longest_frame longest_command

-- "`D r f` (deliver to r the frame that line f sent)": these bytes
abbrev pub arrived : Kept → List ℕ → Outcomes
arrived b bytes = arrive_outcome b.ticketed.replica bytes longest_frame longest_command

-- "committing that ticket makes exactly that step": asking and committing give what the step gives, for every event and every replica.
use Rattle.std.specs.Prelude.{ℕ, ◌≤◌, ◌≡◌, true, false, List, length}
use Rattle.octets.specs.Areas.{over}
use Rattle.transmitters.specs.declared.Reading.{Reading}
use Rattle.transmitters.specs.Conversion.{converted_row}
use Rattle.scram.specs.Answers.{Done, answered}
use Rattle.scram.specs.Held.{Input, Tick, Arrival, GiveUp}
use Rattle.replica.specs.declared.Replica.{Replica}
use Rattle.replica.specs.declared.Stepped as Plain
use Rattle.replica.specs.Calls.{Outcomes, tick_outcome, give_up_outcome, arrive_outcome, Gives}
use Rattle.records.specs.Lengths.{record_length}
use Rattle.records.specs.Recording.{recorded}
use Rattle.records.specs.Reading.{is_done}
use Rattle.tickets.specs.Tickets.{is_spent}
use Rattle.asks.specs.declared.Ticketed.{Ticketed}
use Rattle.asks.specs.declared.Asked.{Asked}
use Rattle.asks.specs.Asking.{tickets_of, ask_outcome, Asks, commit_answer, committed}

-- what an event does at a replica that is lent areas so long
abbrev pub outcome_of : Replica → Input (List Reading) (List ℕ) → (frame command : ℕ) → Outcomes
outcome_of r (Tick y) frame command = tick_outcome r (converted_row y) frame command
outcome_of r (Arrival bytes) frame command = arrive_outcome r bytes frame command
outcome_of r GiveUp frame command = give_up_outcome r frame command

-- What an ask gave, beside what the step itself gives from the same areas. The ask left the record area as area', the frame area as asked-frame, the command
-- area as asked-command; the step left frame' and command'.
pub record SameAsStep (x : Ticketed) (s : Plain.Stepped) (r : Asked) (area area' frame' asked-frame command' asked-command : List ℕ) : Type 0 where
  -- the ask makes no step, and answers what the step answers
  pub unstepped : r.ticketed.replica ≡ x.replica
  pub answer : answered r.answer ≡ answered s.answer
  -- its frame and its command are the step's
  pub frame-length : r.frame ≡ s.frame
  pub frame : asked-frame ≡ frame'
  pub command-length : r.command ≡ s.command
  pub command : asked-command ≡ command'
  -- its record is that of the replica after the step
  pub stored : is_done (answered s.answer) ≡ true → area' ≡ over (recorded s.replica (length area)) area
  pub nothing_stored : is_done (answered s.answer) ≡ false → area' ≡ area
  -- and committing its ticket gives that replica
  pub commits : is_done (answered s.answer) ≡ true → commit_answer r.ticketed r.ticket ≡ Done
  pub replica : is_done (answered s.answer) ≡ true → (committed r.ticketed r.ticket).replica ≡ s.replica

-- for every event at every replica, where a ticket is left and the record area is long enough
abbrev pub AskThenCommit : Type 0
AskThenCommit = (x : Ticketed) (e : Input (List Reading) (List ℕ)) (s : Plain.Stepped) (r : Asked)
    (area area' frame frame' asked-frame command command' asked-command : List ℕ) → is_spent (tickets_of x.tickets) ≡ false → record_length ≤ length area
    → Gives x.replica.settings (outcome_of x.replica e (length frame) (length command)) s frame frame' command command'
    → Asks x (ask_outcome x (length area) (outcome_of x.replica e (length frame) (length command))) r area area' frame asked-frame command asked-command
    → SameAsStep x s r area area' frame' asked-frame command' asked-command

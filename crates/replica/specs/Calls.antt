-- What the four calls give, by the protocol's definitions at the settings of the replica handed in.
use Rattle.std.specs.Prelude.{ℕ, ◌≡◌, Bool, not, ◌||◌, List, length, eqb, ltb, ℤ}
use Rattle.lists.specs.Choice.{pick}
use Rattle.readings.specs.declared.Readings.{Readings}
use Rattle.readings.specs.Readings.{normalised, mark_beyond}
use Rattle.scram.specs.Answers.{Answered, Done, Refused, answered}
use Rattle.scram.specs.Held.{Outcome, fresh}
use Rattle.scram.specs.Events as Events
use Rattle.scram.specs.Events.{refusing}
use Rattle.law.specs.declared.Marked.{Marked}
use Rattle.octets.specs.Areas.{over}
use Rattle.frame.specs.Lengths.{longest_frame, longest_command}
use Rattle.replica.specs.declared.Settings.{Settings}
use Rattle.replica.specs.declared.Replica.{Replica}
use Rattle.replica.specs.declared.Stepped.{Stepped}
use Rattle.replica.specs.Settings.{settings_refusal, law_of, member_of, group_of, blank_settings}
use Rattle.replica.specs.Held.{held_in, held_of}
use Rattle.replica.specs.Frames.{found, sent_bytes, issued_bytes}

-- what a step of this replica's protocol gives: a state is a list of i32 values, and what a decision issues is a list of them with its mark
abbrev pub Outcomes : Type 0
Outcomes = Outcome (List ℤ) Readings Marked

-- 5: "frame area under 69 bytes or command area under 24"
abbrev pub short_area : ℕ → ℕ → Bool
short_area frame command = ltb frame longest_frame || ltb command longest_command

-- the number of the refusal that any step may make, or 0: "settings in it that 1 to 4 would refuse get that number, before the lent areas"; 18 too
unfoldable pub step_refusal : Settings → ℕ → ℕ → ℕ
step_refusal s frame command = pick (not (eqb (settings_refusal s) 0)) (settings_refusal s) (pick (short_area frame command) 5 0)

-- "lent areas are looked at before the event"
unfoldable pub checked : Replica → ℕ → ℕ → Outcomes → Outcomes
unfolding step_refusal
checked r frame command o = pick (eqb (step_refusal r.settings frame command) 0) o (refusing (held_in r.held) (step_refusal r.settings frame command))

-- a tick with readings y, the frame area and the command area being so long
unfoldable pub tick_outcome : Replica → Readings → ℕ → ℕ → Outcomes
unfolding checked
tick_outcome r y frame command =
    checked r frame command
    (Events.tick (law_of r.settings.law) (group_of (member_of r.settings)) r.settings.own (held_in r.held) (mark_beyond r.settings.law.m y)
    (normalised r.settings.law.m y))

-- a view given up
unfoldable pub give_up_outcome : Replica → ℕ → ℕ → Outcomes
unfolding checked
give_up_outcome r frame command =
    checked r frame command (Events.give_up (law_of r.settings.law) (group_of (member_of r.settings)) r.settings.own (held_in r.held))

-- bytes that arrive
unfoldable pub arrive_outcome : Replica → List ℕ → ℕ → ℕ → Outcomes
unfolding checked
arrive_outcome r bytes frame command =
    checked r frame command
    (Events.arrival (law_of r.settings.law) (group_of (member_of r.settings)) r.settings.own (held_in r.held)
    (found r.settings.law.n r.settings.law.m bytes))

-- a call with settings s gives what a step of the protocol does: its answer, its replica, the length written to each area, and each area to
-- the last byte, the frame area from frame to frame' and the command area from command to command'
pub record Gives (s : Settings) (o : Outcomes) (r : Stepped) (frame frame' command command' : List ℕ) : Type 0 where
  pub answer : answered r.answer ≡ o.answer
  pub replica : r.replica ≡ record { settings = s; held = held_of o.held }
  pub frame-length : r.frame ≡ length (sent_bytes s.law.n s.law.m o.sent)
  pub command-length : r.command ≡ length (issued_bytes s.law.p o.command)
  pub frame-bytes : frame' ≡ over (sent_bytes s.law.n s.law.m o.sent) frame
  pub command-bytes : command' ≡ over (issued_bytes s.law.p o.command) command

-- what making answers
abbrev pub made_answer : Settings → Answered
made_answer s = pick (eqb (settings_refusal s) 0) Done (Refused (settings_refusal s))

-- the fresh replica of settings
abbrev pub fresh_of : Settings → Replica
fresh_of s = record { settings = s; held = held_of (fresh (law_of s.law)) }

-- what making gives; "Making settings refuses without a replica": what stands for it then is one that every step refuses by 1
unfoldable pub made : Settings → Replica
made s = pick (eqb (settings_refusal s) 0) (fresh_of s) (fresh_of blank_settings)

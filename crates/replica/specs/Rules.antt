-- What the functions inside the four calls do. A rule takes what is held and the few numbers of the settings that it needs, whatever the law is.
use Rattle.std.specs.Prelude.{ℕ, ◌≡◌, Bool, true, false, ◌&&◌, List, leb, ℤ, length}
use Rattle.std.proofs.Math.Option.{Option, none, some}
use Rattle.lists.specs.Choice.{pick}
use Rattle.refusal.specs.declared.Refusal.{Refusal}
use Rattle.readings.specs.declared.Readings.{Readings}
use Rattle.readings.specs.Readings.{mark_beyond}
use Rattle.scram.specs.declared.Answer.TheVariants.{Ignored, Refused}
use Rattle.scram.specs.Answers.{answered}
use Rattle.scram.specs.declared.Kind.TheVariants as Kind
use Rattle.scram.specs.Quorum.{among, with, count}
use Rattle.scram.specs.Held.{Command}
use Rattle.scram.specs.Held as Scram
use Rattle.scram.specs.Events as Events
use Rattle.law.specs.declared.Settings as Law
use Rattle.law.specs.declared.Marked.{Marked}
use Rattle.octets.specs.Areas.{over}
use Rattle.replica.specs.declared.Settings.{Settings}
use Rattle.replica.specs.declared.Held.{Held}
use Rattle.replica.specs.declared.Member.{Member}
use Rattle.replica.specs.declared.Moved.{Moved}
use Rattle.replica.specs.declared.Given.{Given}
use Rattle.replica.specs.declared.Stepped.{Stepped}
use Rattle.replica.specs.Settings.{law_of}
use Rattle.replica.specs.Held.{estimate_in, held_of}
use Rattle.replica.specs.Frames.{sent_bytes, issued_bytes}
use Rattle.replica.specs.Calls.{Outcomes}

-- ---- what a rule gives

-- "the command of Update(estimate's state, estimate's readings)", of the estimate held then, where it is issued
abbrev pub command_of : Law.Settings → Bool → Held → Option (Command Marked)
command_of law issues h = pick issues (some (Events.command_of (law_of law) h.period (estimate_in h.estimate))) none

-- a rule gives what a step of the protocol does, with the frame area from frame to frame'
pub record Says (law : Law.Settings) (member : Member) (o : Outcomes) (r : Moved) (frame frame' : List ℕ) : Type 0 where
  pub answer : answered r.answer ≡ o.answer
  pub held : r.held ≡ held_of o.held
  pub frame-length : r.frame ≡ length (sent_bytes member.n member.m o.sent)
  pub frame-bytes : frame' ≡ over (sent_bytes member.n member.m o.sent) frame
  pub command : command_of law r.issues r.held ≡ o.command

-- what a rule gives, with the length of the command written
abbrev pub given_by : Moved → ℕ → Given
given_by moved command = record { answer = moved.answer; held = moved.held; frame = moved.frame; command = command }

-- ---- what a step gives beside its settings, which stand

-- at the sizes n, m and p it does what a step of the protocol does: its answer, what is held, the length written to each area, and each area to the
-- last byte, the frame area from frame to frame' and the command area from command to command'
pub record Does (n m p : ℕ) (o : Outcomes) (r : Given) (frame frame' command command' : List ℕ) : Type 0 where
  pub answer : answered r.answer ≡ o.answer
  pub held : r.held ≡ held_of o.held
  pub frame-length : r.frame ≡ length (sent_bytes n m o.sent)
  pub command-length : r.command ≡ length (issued_bytes p o.command)
  pub frame-bytes : frame' ≡ over (sent_bytes n m o.sent) frame
  pub command-bytes : command' ≡ over (issued_bytes p o.command) command

-- the step, with the settings
abbrev pub stepped_by : Settings → Given → Stepped
stepped_by s given = record {
  answer = given.answer;
  replica = record { settings = s; held = given.held };
  frame = given.frame;
  command = given.command;
}

-- ---- refusals, and steps that change nothing

-- the number of the refusal that the protocol's tick makes, or 0 (`tick-refused`, `tick-done` of proofs/Calls.antt)
unfoldable pub tick_refusal : Held → ℕ → Readings → ℕ
tick_refusal h m y =
    pick (Events.last_period h.period) 6 (pick (mark_beyond m y) 7 (pick (h.view_change && Events.last_view h.view) 12 0))

-- a refused step
abbrev pub refused_step : Held → Refusal → Given
refused_step h refusal = record { answer = Refused refusal; held = h; frame = 0; command = 0 }

-- a refusal by a rule
abbrev pub refused_rule : Held → Refusal → Moved
refused_rule h refusal = record { answer = Refused refusal; held = h; frame = 0; issues = false }

-- an event ignored
abbrev pub ignored_rule : Held → Moved
ignored_rule h = record { answer = Ignored; held = h; frame = 0; issues = false }

-- ---- parts of the protocol's rules

-- a view entered as another box, with the Estimate that is sent
abbrev pub followed : Law.Settings → Member → Scram.Held (List ℤ) Readings → ℕ → Outcomes
followed law member s view = Events.doing (Events.following (law_of law) s view) (some (Events.estimating member.own s view)) none

-- whether the boxes heard, with one more, are as many as a quorum number asks for
abbrev pub quorum_heard : (quorum boxes : ℕ) → List Bool → ℕ → Bool
quorum_heard quorum boxes heard box = leb quorum (count (among (with heard box)) boxes)

-- the box decides with one more Ack
abbrev pub decided : Law.Settings → Member → Scram.Held (List ℤ) Readings → ℕ → Outcomes
decided law member s box =
    Events.doing (Events.hearing s box s.best true)
    (some (Events.carrying Kind.Decide member.own s.period s.view s.estimate))
    (some (Events.command_of (law_of law) s.period s.estimate))

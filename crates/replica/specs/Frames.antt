-- The protocol's messages and commands as bytes, and the message that bytes are read as.
use Rattle.std.specs.Prelude.{ℕ, List, [], eqb, ℤ}
use Rattle.std.proofs.Math.Option.{Option, none, some}
use Rattle.lists.specs.Choice.{pick}
use Rattle.readings.specs.declared.Readings.{Readings}
use Rattle.readings.specs.Readings.{normalised}
use Rattle.scram.specs.declared.Kind.{Kind}
use Rattle.scram.specs.Held.{Message, Command}
use Rattle.law.specs.declared.Marked.{Marked}
use Rattle.estimate.specs.declared.Estimate.{Estimate}
use Rattle.frame.specs.declared.Frame.{Frame}
use Rattle.frame.specs.Kinds.{propose, ack, decide, estimate}
use Rattle.frame.specs.Format.{frame_bytes}
use Rattle.frame.specs.Reading.{read_refusal, read_frame}
use Rattle.frame.specs.Command.{command_bytes}
use Rattle.replica.specs.Held.{estimate_in, estimate_of}

-- the number of a kind, by the frames' table of kinds
abbrev pub kind_number : Kind → ℕ
kind_number Kind.Propose = propose.number
kind_number Kind.Ack = ack.number
kind_number Kind.Decide = decide.number
kind_number Kind.Estimate = estimate.number

-- and back; reading gives no kind but these four
unfoldable pub kind_of : ℕ → Kind
kind_of k = pick (eqb k propose.number) Kind.Propose (pick (eqb k ack.number) Kind.Ack (pick (eqb k decide.number) Kind.Decide Kind.Estimate))

-- an estimate as frames carry it: "Marks at or above m are 0", values "0 where absent"
abbrev pub carried_by : ℕ → Estimate → Estimate
carried_by m e = record { state = e.state; readings = normalised m e.readings }

-- a frame with its estimate so
abbrev pub as_carried : ℕ → Frame → Frame
as_carried m f = record {
  kind = f.kind;
  sender = f.sender;
  period = f.period;
  view = f.view;
  base_view = f.base_view;
  base_period = f.base_period;
  estimate = carried_by m f.estimate;
}

-- the frame of a message
abbrev pub frame_of : ℕ → Message (List ℤ) Readings → Frame
frame_of m message = record {
  kind = kind_number message.kind;
  sender = message.sender;
  period = message.period;
  view = message.view;
  base_view = message.base_view;
  base_period = message.base_period;
  estimate = carried_by m (estimate_of message.estimate);
}

-- the message of a frame
abbrev pub message_of : Frame → Message (List ℤ) Readings
message_of f = record {
  kind = kind_of f.kind;
  sender = f.sender;
  period = f.period;
  view = f.view;
  base_view = f.base_view;
  base_period = f.base_period;
  estimate = estimate_in f.estimate;
}

-- the message that bytes are read as, if reading does not refuse them by 8
unfoldable pub found : ℕ → ℕ → List ℕ → Option (Message (List ℤ) Readings)
found n m bytes = pick (eqb (read_refusal n m bytes) 0) (some (message_of (read_frame n m bytes))) none

-- the bytes of what a step sends, none where it sends nothing
abbrev pub sent_bytes : ℕ → ℕ → Option (Message (List ℤ) Readings) → List ℕ
sent_bytes n m none = []
sent_bytes n m (some message) = frame_bytes n m (frame_of m message)

-- the bytes of the command that a step issues, none where it issues none
abbrev pub issued_bytes : ℕ → Option (Command Marked) → List ℕ
issued_bytes p none = []
issued_bytes p (some c) = command_bytes p c.period c.values.commands c.values.limited

-- What holds what it held after a call that was ignored or refused, and what such a call gives.
use Rattle.std.specs.Prelude.{ℕ, ◌≡◌, List, [], ◌∷◌, ℤ, Result, IsErr}
use Rattle.refusal.specs.declared.Refusal.{Refusal}
use Rattle.readings.specs.declared.Readings.{Readings}
use Rattle.scram.specs.Answers.{Refused}
use Rattle.replica.specs.declared.Replica.{Replica}
use Rattle.replica.specs.declared.Stepped.{Stepped}
use Rattle.replica.specs.Calls.{tick_outcome, give_up_outcome, arrive_outcome}
use Rattle.asks.specs.declared.Ticketed.{Ticketed}
use Rattle.asks.specs.declared.Asked.{Asked}
use Rattle.asks.specs.declared.Stepped.{Stepped as TicketedStep}
use Rattle.ticketed.specs.Reading.{record_of}

-- ---- the replica's calls

-- a step left the replica `given` and both areas, to the last byte, as they were: "no frame and no command", so each length written is 0
pub record StepKept (given : Replica) (r : Stepped) (frame frame' command command' : List ℕ) : Type 0 where
  pub replica : r.replica ≡ given
  pub frame-area : frame' ≡ frame
  pub command-area : command' ≡ command
  pub no-frame : r.frame ≡ 0
  pub no-command : r.command ≡ 0

-- what stands in the place of a replica, and is none: it is refused by 1 in every step, whatever the event and the areas
pub record NoReplica (r : Replica) : Type 0 where
  pub tick : (y : Readings) (frame command : ℕ) → (tick_outcome r y frame command).answer ≡ Refused 1
  pub give-up : (frame command : ℕ) → (give_up_outcome r frame command).answer ≡ Refused 1
  pub arrive : (bytes : List ℕ) (frame command : ℕ) → (arrive_outcome r bytes frame command).answer ≡ Refused 1

-- a step for C left the record b of its replica and both areas, to the last byte, as they were: "no frame and no command", so the two lengths that it
-- writes are 0, whatever the caller had there
pub record RecordStepKept (b b' lengths frame frame' command command' : List ℕ) : Type 0 where
  pub replica : b' ≡ b
  pub frame-area : frame' ≡ frame
  pub command-area : command' ≡ command
  pub no_bytes : lengths ≡ 0 ∷ 0 ∷ []

-- ---- the calls of a replica with tickets

-- an ask that was ignored or refused left the replica and the three areas, to the last byte, as they were. It has a ticket all the same, and the ticket before
-- is void
pub record AskKept (given : Ticketed) (r : Asked) (area area' frame frame' command command' : List ℕ) : Type 0 where
  pub replica : r.ticketed.replica ≡ given.replica
  pub lent-area : area' ≡ area
  pub frame-area : frame' ≡ frame
  pub command-area : command' ≡ command
  pub no-frame : r.frame ≡ 0
  pub no-command : r.command ≡ 0

-- a step that was not asked left the replica, its tickets and both areas as they were
pub record TicketedKept (given : Ticketed) (r : TicketedStep) (frame frame' command command' : List ℕ) : Type 0 where
  pub ticketed : r.ticketed ≡ given
  pub frame-area : frame' ≡ frame
  pub command-area : command' ≡ command
  pub no-frame : r.frame ≡ 0
  pub no-command : r.command ≡ 0

-- an ask for C, at a replica with tickets in b, left its record and the three areas, to the last byte, as they were, and wrote 0 for the two lengths
pub record AskAreaKept (b b' lengths area area' frame frame' command command' : List ℕ) : Type 0 where
  pub replica : record_of b' ≡ record_of b
  pub lent-area : area' ≡ area
  pub frame-area : frame' ≡ frame
  pub command-area : command' ≡ command
  pub no_bytes : lengths ≡ 0 ∷ 0 ∷ []

-- ---- calls that write to one area

-- a write of a frame, a command or a shift page left its area as it was, and gives no length
pub record WriteKept (r : Result ℕ Refusal) (area area' : List ℕ) : Type 0 where
  pub lent-area : area' ≡ area
  pub no_bytes : IsErr r

-- ---- a C caller's areas

-- the five areas that a frame is read to
pub record FrameAreas : Type 0 where
  pub kind_and_sender : List ℕ
  pub counters : List ℕ
  pub state : List ℤ
  pub present : List ℕ
  pub values : List ℤ

-- the three areas that a command is read to
pub record CommandAreas : Type 0 where
  pub period : ℕ
  pub commands : List ℤ
  pub limited : ℕ

-- the area that a frame or a page is written to, and the caller's number for its length
pub record WriteAreas : Type 0 where
  pub area : List ℕ
  pub length : ℕ

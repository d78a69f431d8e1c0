-- What a replica holds, what it is given and what a step gives, over any law (document 01, "What a replica holds" and "Frames").
use Rattle.std.specs.Prelude.{Bool, false, List, ℕ}
use Rattle.std.proofs.Math.Option.{Option}
pub use Rattle.scram.specs.declared.Kind.{Kind}
pub use Rattle.scram.specs.Answers.{Answered}
use Rattle.scram.specs.Quorum.{nobody}

-- a deterministic law, as the protocol sees it: its update, what a decision issues for an estimate's state and readings, the starting state, a
-- row with no reading, and what stands where there is no state
pub record Law (State Readings Values : Type 0) : Type 0 where
  pub update : State → Readings → State
  pub command : State → Readings → Values
  pub start : State
  pub none : Readings
  pub blank : State

-- the group: its size N, the boxes needed to decide, the boxes heard before a new coordinator proposes, and who coordinates each view
pub record Group : Type 0 where
  pub size : ℕ
  pub to_decide : ℕ
  pub to_propose : ℕ
  pub coordinator : ℕ → ℕ

-- "an estimate (state, readings, ..)"; its bases stand beside it, since a frame has them in its header
pub record Estimate (State Readings : Type 0) : Type 0 where
  pub state : State
  pub readings : Readings

-- "the best estimate heard": whether there is one, the box that it came from, its bases, and the estimate
pub record Best (State Readings : Type 0) : Type 0 where
  pub any : Bool
  pub box : ℕ
  pub base_view : ℕ
  pub base_period : ℕ
  pub estimate : Estimate State Readings

-- "Period, view and base view (each 32 bits), mode (normal or view change), whether this period is decided, an estimate (state,
-- readings, base period), the boxes heard (Acks or Estimates) and, in a view change, the best estimate heard."
pub record Held (State Readings : Type 0) : Type 0 where
  pub period : ℕ
  pub view : ℕ
  pub base_view : ℕ
  pub view_change : Bool
  pub decided : Bool
  pub estimate : Estimate State Readings
  pub base_period : ℕ
  pub heard : List Bool
  pub best : Best State Readings

-- a frame's fields; an Ack carries no part, and has a blank state and no reading
pub record Message (State Readings : Type 0) : Type 0 where
  pub kind : Kind
  pub sender : ℕ
  pub period : ℕ
  pub view : ℕ
  pub base_view : ℕ
  pub base_period : ℕ
  pub estimate : Estimate State Readings

-- the command of a period
pub record Command (Values : Type 0) : Type 0 where
  pub period : ℕ
  pub values : Values

-- "a tick, an arriving frame or a give-up": a tick is handed readings, and what arrives is a message, its bytes, or the entry that sent it
pub data Input (Handed Arriving : Type 0) : Type 0 where
  Tick : Handed → Input Handed Arriving
  Arrival : Arriving → Input Handed Arriving
  GiveUp : Input Handed Arriving

-- what a step gives; "Each event sends at most one frame."
pub record Outcome (State Readings Values : Type 0) : Type 0 where
  pub answer : Answered
  pub held : Held State Readings
  pub sent : Option (Message State Readings)
  pub command : Option (Command Values)

module _ {State Readings Values : Type 0} (law : Law State Readings Values) where
  -- what stands where there is no estimate
  abbrev pub no_estimate : Estimate State Readings
  no_estimate = record { state = law.blank; readings = law.none }

  -- no estimate heard yet
  abbrev pub no_best : Best State Readings
  no_best = record { any = false; box = 0; base_view = 0; base_period = 0; estimate = no_estimate }

  -- "Fresh: all counters 0, normal, undecided, starting state, no reading, no box heard."
  abbrev pub fresh : Held State Readings
  fresh = record {
    period = 0;
    view = 0;
    base_view = 0;
    view_change = false;
    decided = false;
    estimate = record { state = law.start; readings = law.none };
    base_period = 0;
    heard = nobody;
    best = no_best;
  }

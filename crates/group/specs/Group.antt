-- A group of replicas, as the history of demand 3 sees it: the calls' own definitions, on bytes.
use Rattle.std.specs.Prelude.{ℕ, ◌≡◌, List, length, ℤ}
use Rattle.std.proofs.Math.Option.{some}
use Rattle.readings.specs.declared.Readings.{Readings}
use Rattle.readings.specs.Readings.{normalised, mark_beyond}
use Rattle.transmitters.specs.declared.Reading.{Reading}
use Rattle.transmitters.specs.Conversion.{converted_row, AllCountsI32}
use Rattle.scram.specs.Held.{Input, Tick, Arrival, GiveUp}
use Rattle.scram.specs.History.{Result, System}
use Rattle.scram.specs.Shown.{is_refused}
use Rattle.quorums.specs.declared.Quorums.{Quorums}
use Rattle.law.specs.declared.Settings as Law
use Rattle.law.specs.declared.Marked.{Marked}
use Rattle.frame.specs.Command.{command_period}
use Rattle.replica.specs.declared.Settings.{Settings}
use Rattle.replica.specs.declared.Replica.{Replica}
use Rattle.replica.specs.Held.{held_in, held_of}
use Rattle.replica.specs.Frames.{sent_bytes, issued_bytes}
use Rattle.replica.specs.Calls.{Outcomes, tick_outcome, give_up_outcome, arrive_outcome, fresh_of}

-- what a tick is handed: any value of the type `[Reading; 4]`, which has four readings, with counts that are i32
pub record Handed : Type 0 where
  pub readings : List Reading
  pub four : length readings ≡ 4
  pub i32 : AllCountsI32 readings

-- the areas lent to a step, of any length and content
pub record Areas : Type 0 where
  pub frame : List ℕ
  pub command : List ℕ

-- what the call for an input does
abbrev pub outcome_of : Replica → Input Handed (List ℕ) → Areas → Outcomes
outcome_of r (Tick y) a = tick_outcome r (converted_row y.readings) (length a.frame) (length a.command)
outcome_of r (Arrival bytes) a = arrive_outcome r bytes (length a.frame) (length a.command)
outcome_of r GiveUp a = give_up_outcome r (length a.frame) (length a.command)

-- what a call gives back: the replica, whether it was refused, and the bytes that it wrote to each area
abbrev pub result_of : Settings → Outcomes → Result Replica
result_of s o = record {
  box = record { settings = s; held = held_of o.held };
  refused = is_refused o.answer;
  frame = sent_bytes s.law.n s.law.m o.sent;
  command = issued_bytes s.law.p o.command;
}

module _ (N : ℕ) (q : Quorums) (law : Law.Settings) where
  -- "settings differ in the own number alone"; a and b "are equal in all boxes of a group"
  abbrev pub settings_of : ℕ → Settings
  settings_of own = record { boxes = N; own = own; quorums = q; law = law }

  -- N boxes under this law. "7 looks at them converted", and "In the run of demand 3 a reading means its converted value."
  abbrev pub group : System (List ℤ) Readings Marked
  group = record {
    Box = Replica;
    Handed = Handed;
    Areas = Areas;
    fresh = λ i. fresh_of (settings_of i);
    call = λ r e a. result_of r.settings (outcome_of r e a);
    held = λ r. held_in r.held;
    row = λ y. normalised law.m (converted_row y.readings);
    beyond = λ y. mark_beyond law.m (converted_row y.readings);
    frame_bytes = λ m. sent_bytes law.n law.m (some m);
    command_bytes = λ c. issued_bytes law.p (some c);
    command_period = command_period;
  }

-- The group as the C firmware of the boxes sees it: "There a replica is its record". Each box has an area of a record's length, and the calls are those of
-- crate winder, by the definitions of their contracts.
use Rattle.std.specs.Prelude.{ℕ, List, length, eqb, ℤ}
use Rattle.std.proofs.Math.Option.{none, some}
use Rattle.lists.specs.Choice.{pick}
use Rattle.readings.specs.declared.Readings.{Readings}
use Rattle.readings.specs.Readings.{normalised, mark_beyond}
use Rattle.transmitters.specs.Conversion.{converted_row}
use Rattle.transmitters.specs.Numbers.{readings_of}
use Rattle.scram.specs.Held.{Input, Tick, Arrival, GiveUp, fresh}
use Rattle.scram.specs.History.{Result, System}
use Rattle.scram.specs.Shown.{is_refused}
use Rattle.quorums.specs.declared.Quorums.{Quorums}
use Rattle.law.specs.declared.Settings as Law
use Rattle.law.specs.declared.Marked.{Marked}
use Rattle.frame.specs.Command.{command_period}
use Rattle.replica.specs.declared.Replica.{Replica}
use Rattle.replica.specs.Settings.{law_of}
use Rattle.replica.specs.Held.{held_in}
use Rattle.replica.specs.Frames.{sent_bytes, issued_bytes}
use Rattle.replica.specs.Calls.{Outcomes, tick_outcome, give_up_outcome, arrive_outcome, fresh_of}
use Rattle.records.specs.Lengths.{record_length}
use Rattle.records.specs.Recording.{recorded}
use Rattle.records.specs.Reading.{is_record, replica_in}
use Rattle.group.specs.Group.{Areas, settings_of}
use Rattle.power.specs.Demand3.{Storage}
use Rattle.winder.specs.ReplicaAreas.{step_at, record_after, sent_at, issued_at, recording, returning_refusal, returning}

-- What a tick is handed: for each of four places a kind and 32 bits. Lists of any length and any numbers are among them, more than C can hand over: the
-- claim below is about all of them.
pub record Handed : Type 0 where
  pub kinds : List ℕ
  pub bits : List ℕ

-- the row that they are: "In the run of demand 3 a reading means its converted value."
abbrev pub row_of : Handed → Readings
row_of y = converted_row (readings_of y.kinds y.bits)

-- the step of `winder_tick`, `winder_arrive` and `winder_give_up`, at the replica that is read
abbrev pub outcome_at : Replica → Input Handed (List ℕ) → Areas → Outcomes
outcome_at r (Tick y) a = tick_outcome r (row_of y) (length a.frame) (length a.command)
outcome_at r (Arrival bytes) a = arrive_outcome r bytes (length a.frame) (length a.command)
outcome_at r GiveUp a = give_up_outcome r (length a.frame) (length a.command)

-- what a call leaves of an area b: the record then, whether it was refused, and the bytes that it wrote to each lent area
abbrev pub result_at : List ℕ → Outcomes → Result (List ℕ)
result_at b o = record { box = record_after b o; refused = is_refused o.answer; frame = sent_at b o; command = issued_at b o }

module _ (N : ℕ) (q : Quorums) (law : Law.Settings) where
  -- N boxes under this law. Each starts with what `winder_make` writes; a box that is not of the group has no record, and every call at it gets 15. What an
  -- area holds is what the replica in it holds.
  abbrev pub firmware : System (List ℤ) Readings Marked
  firmware = record {
    Box = List ℕ;
    Handed = Handed;
    Areas = Areas;
    fresh = λ i. recorded (fresh_of (settings_of N q law i)) record_length;
    call = λ b e a. result_at b (step_at b (λ r. outcome_at r e a));
    held = λ b. pick (is_record b) (held_in (replica_in b).held) (fresh (law_of law));
    row = λ y. normalised law.m (row_of y);
    beyond = λ y. mark_beyond law.m (row_of y);
    frame_bytes = λ m. sent_bytes law.n law.m (some m);
    command_bytes = λ c. issued_bytes law.p (some c);
    command_period = command_period;
  }

  -- Storage where this is what is stored of an area. Returning writes the record of the replica that comes back to an area of a record's length, or is
  -- refused by 15 or 16.
  abbrev pub storing : (List ℕ → List ℕ) → Storage firmware
  storing stored = record {
    Record = List ℕ;
    recorded = stored;
    back = λ b k. pick (eqb (returning_refusal k b record_length) 0) (some (returning k b record_length)) none;
  }

  -- what `winder_record` writes to an area of a record's length is stored
  abbrev pub written : Storage firmware
  written = storing (λ b. recording b record_length)

  -- the area itself is stored, since it is the record
  abbrev pub copied : Storage firmware
  copied = storing (λ b. b)

-- A record computed: that of a small replica in a view change, which has heard boxes 1 and 3. Assumes nothing.
use mathlib.Core.Path.{◌≡◌, refl}
use mathlib.Core.Bool.{true, false}
use mathlib.Core.List.{[], ◌∷◌, ◌++◌}
use lib.ListN.{length, take, drop, replicate}
use lib.IntN.{ℤ, pos, negsuc}
use Rattle.lists.specs.Below.{all_below}
use Rattle.lists.specs.Choice.{pick}
use Rattle.lists.specs.Places.{filled}
use Rattle.lists.specs.Refusals.{first_of}
use Rattle.readings.specs.Readings.{normalised}
use Rattle.octets.specs.Words.{little_endian, spelled, number_at, twos_complement, from_twos_complement, values_bytes, value_at}
use Rattle.law.specs.Settings.{sizes_in_range, in_range, table_in_range, coefficients_in_range, limits_in_order, refusals}
use Rattle.estimate.specs.declared.Estimate.{Estimate}
use Rattle.estimate.specs.Fields.{carried_estimate}
use Rattle.estimate.specs.Marks.{marks_byte, marks_in, marks_below, absent_zero}
use Rattle.estimate.specs.Format.{state_bytes, readings_bytes, estimate_bytes}
use Rattle.estimate.specs.Reading.{state_in, readings_in, estimate_at}
use Rattle.quorums.specs.Quorums.{bad_quorums}
use Rattle.replica.specs.declared.Replica.{Replica}
use Rattle.replica.specs.Settings.{bad_group, settings_refusal}
use Rattle.records.specs.SettingsPart.{head_bytes, tables_bytes, settings_bytes, values_at, law_in, settings_in}
use Rattle.records.specs.HeldPart.{best_bytes, held_bytes, heard_at, best_at, held_at}
use Rattle.records.specs.Recording.{recorded_best, recorded_held, record_bytes}
use Rattle.records.specs.Reading.{replica_in, layout_ok, states_ok, zero_at, best_ok, settings_ok, bytes_mean, marks_mean, heard_ok, bases_ok, values_ok, estimate_ok, held_ok, is_record}

-- one state in use, and one reading
abbrev small : ℤ → ℤ → Estimate
small x y = record {
  state = x ∷ replicate 5 (pos 0);
  readings = record { present = true ∷ replicate 3 false; values = y ∷ replicate 3 (pos 0) };
}

-- box 2 of three, with n, m and p of 1; period 258, view 4
abbrev example : Replica
example = record {
  settings = record {
    boxes = 3;
    own = 2;
    quorums = record { to_decide = 2; to_propose = 3 };
    law = record {
      n = 1;
      m = 1;
      p = 1;
      a = pos 65536 ∷ replicate 35 (pos 0);
      l = pos 32768 ∷ replicate 23 (pos 0);
      c = pos 65536 ∷ replicate 23 (pos 0);
      k = negsuc 65535 ∷ replicate 23 (pos 0);
      low = negsuc 999 ∷ replicate 3 (pos 0);
      high = pos 1000 ∷ replicate 3 (pos 0);
      start = pos 7 ∷ replicate 5 (pos 0);
    };
  };
  held = record {
    period = 258;
    view = 4;
    base_view = 3;
    view_change = true;
    decided = false;
    estimate = small (negsuc 0) (pos 9);
    base_period = 257;
    heard = false ∷ true ∷ false ∷ true ∷ replicate 6 false;
    best = record { any = true; box_number = 1; base_view = 3; base_period = 258; estimate = small (pos 5) (pos 6) };
  };
}

-- its length
pub example-length : length (record_bytes example) ≡ 616
unfolding record_bytes recorded_held recorded_best settings_bytes head_bytes tables_bytes held_bytes best_bytes carried_estimate filled normalised pick
    estimate_bytes state_bytes readings_bytes marks_byte little_endian twos_complement values_bytes
example-length = refl

-- the eight bytes before the tables
pub example-head : take 8 (record_bytes example) ≡ 82 ∷ 2 ∷ 3 ∷ 2 ∷ 1 ∷ 1 ∷ 1 ∷ 50 ∷ []
unfolding record_bytes settings_bytes head_bytes
example-head = refl

-- the part of what is held: counters, mode and decided, the boxes heard, the estimate, the best one
pub example-held : drop 496 (record_bytes example)
    ≡ (2 ∷ 1 ∷ 0 ∷ 0 ∷ 4 ∷ 0 ∷ 0 ∷ 0 ∷ 3 ∷ 0 ∷ 0 ∷ 0 ∷ 1 ∷ 1 ∷ 0 ∷ 0 ∷ [])
    ++ (1 ∷ 0 ∷ 0 ∷ 1 ∷ 0 ∷ 1 ∷ replicate 6 0)
    ++ (255 ∷ 255 ∷ 255 ∷ 255 ∷ replicate 20 0)
    ++ (1 ∷ 9 ∷ replicate 15 0)
    ++ (1 ∷ 1 ∷ 3 ∷ 0 ∷ 0 ∷ 0 ∷ 2 ∷ 1 ∷ 0 ∷ 0 ∷ [])
    ++ (5 ∷ replicate 23 0)
    ++ (1 ∷ 6 ∷ replicate 15 0)
unfolding record_bytes recorded_held recorded_best settings_bytes head_bytes tables_bytes held_bytes best_bytes carried_estimate filled normalised pick
    estimate_bytes state_bytes readings_bytes marks_byte little_endian twos_complement values_bytes
example-held = refl

-- it is a record
pub example-is-record : is_record (record_bytes example) ≡ true
unfolding record_bytes recorded_held recorded_best settings_bytes head_bytes tables_bytes held_bytes best_bytes carried_estimate filled normalised pick
    estimate_bytes state_bytes readings_bytes marks_byte little_endian twos_complement values_bytes
    is_record layout_ok settings_ok held_ok bytes_mean marks_mean heard_ok bases_ok estimate_ok states_ok values_ok best_ok zero_at all_below
    settings_in law_in values_at value_at number_at spelled from_twos_complement held_at best_at heard_at estimate_at state_in readings_in marks_in
    marks_below absent_zero settings_refusal bad_group bad_quorums refusals first_of sizes_in_range in_range table_in_range coefficients_in_range limits_in_order
example-is-record = refl

-- and the replica that is read of it is the very replica
pub example-read : replica_in (record_bytes example) ≡ example
unfolding record_bytes recorded_held recorded_best settings_bytes head_bytes tables_bytes held_bytes best_bytes carried_estimate filled normalised pick
    estimate_bytes state_bytes readings_bytes marks_byte little_endian twos_complement values_bytes
    replica_in settings_in law_in values_at value_at number_at spelled from_twos_complement held_at best_at heard_at estimate_at state_in readings_in marks_in
example-read = refl

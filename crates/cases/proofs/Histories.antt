-- The five histories compute, and demand 3 speaks of them. Assumes nothing.
use Prim.Native.Nat.{ℕ, ◌≤◌}
use mathlib.Core.Path.{◌≡◌, refl, sym, ap, ◌∙◌, subst}
use mathlib.Core.Logic.{◌⊎◌, inl, inr}
use mathlib.Core.List.{List, [], ◌∷◌, map}
use native.Mathlib.Omega.{arith}
use lib.Dec.{lit<, lit≤}
use lib.Ieee.{is_nan, to_bits}
use Rattle.lists.specs.Choice.{pick}
use Rattle.lists.specs.Below.{all_below, any_below}
use Rattle.lists.specs.Places.{filled}
use Rattle.lists.specs.Refusals.{first_of}
use Rattle.octets.specs.Words.{little_endian, spelled, number_at, twos_complement, from_twos_complement, values_bytes, value_at}
use Rattle.readings.specs.Readings.{normalised, any_mark, mark_beyond}
use Rattle.transmitters.specs.Single.{exponent, magnitude, scale, floor, in_units}
use Rattle.transmitters.specs.Conversion.{within_i32, converted_single, converted_newtons, converted, converted_row}
use Rattle.law.specs.Fixed.{divided, sum, limited, clamp, limits_change, clamp_changes}
use Rattle.law.specs.Settings.{sizes_in_range, in_range, table_in_range, coefficients_in_range, limits_in_order, refusals, refusal}
use Rattle.law.specs.Law as Law
use Rattle.law.specs.Law.{e, e_changed, next, next_changed, command_changed, updated, update_limited, commanded, command_limited, issued}
use Rattle.estimate.specs.Marks.{marks_byte, marks_in, marks_below, absent_zero}
use Rattle.estimate.specs.Reading.{state_in, readings_in, readings_ok, estimate_at, estimate_ok}
use Rattle.estimate.specs.Format.{state_bytes, readings_bytes, estimate_bytes}
use Rattle.frame.specs.Kinds.{any_of, parts_of, kind_ok, part_count, has_parts}
use Rattle.frame.specs.Sizes.{sizes_ok}
use Rattle.frame.specs.Format.{header, pairs, frame_bytes}
use Rattle.frame.specs.Reading.{length_ok, part_count_ok, byte_three_ok, pairs_ok, header_ok, parts_ok, is_frame, fields_in, read_refusal, read_frame}
use Rattle.frame.specs.Command.{command_bytes, command_period}
use Rattle.scram.specs.Quorum.{coordinator, beats, count}
use Rattle.quorums.specs.Quorums.{bad_quorums}
use Rattle.scram.specs.Events.{bad_sender, bad_place, bad_base, unwanted, better}
use Rattle.scram.specs.Events.{raise, after_tick, tick, give_up, hear_ack, hear_estimate, receive, arrive, arrival}
use Rattle.scram.specs.History.{Entry, Issued, In, step, steps, after}
use Rattle.scram.specs.Demand3.{Demand3}
use Rattle.replica.specs.Settings.{bad_group, settings_refusal, law_of}
use Rattle.replica.specs.Frames.{kind_of, found}
use Rattle.replica.specs.Calls.{step_refusal, checked, tick_outcome, give_up_outcome, arrive_outcome}
use Rattle.replica.specs.declared.Replica.{Replica}
use Rattle.group.specs.Group.{Handed, Areas, settings_of, group}
use Rattle.group.proofs.Theorem.{demand-3}
use Rattle.setup.specs.Bench.{bench_law, bench}
use Rattle.cases.specs.Histories.{first-i32, Line, lines_from, lines_of, commands_of, Witness}
use Rattle.cases.specs.Histories.{bench_entries, bench_lines, bench_commands, open_entries, open_lines, open_commands}
use Rattle.cases.specs.Histories.{decided_entries, decided_lines, decided_commands, single_entries, single_lines, single_commands}
use Rattle.cases.specs.Histories.{limited_entries, limited_lines, limited_commands}

-- ---- the lines and the commands, computed

accepted : settings_refusal (settings_of 3 bench.quorums bench_law 1) ≡ 0
unfolding settings_refusal bad_group bad_quorums first_of refusals pick sizes_in_range coefficients_in_range table_in_range all_below in_range limits_in_order
accepted = refl

-- a history gives these lines and these commands
abbrev Computes : List (Entry Handed Areas) → List Line → List (List ℕ) → Type 0
Computes h lines commands = (lines_of h ≡ lines) × (commands_of h ≡ commands)

computed : Computes bench_entries bench_lines bench_commands × Computes open_entries open_lines open_commands
    × Computes decided_entries decided_lines decided_commands × Computes single_entries single_lines single_commands
    × Computes limited_entries limited_lines limited_commands
unfolding lines_from after steps step checked step_refusal tick_outcome give_up_outcome arrive_outcome
    raise after_tick tick give_up hear_ack hear_estimate receive arrive arrival better bad_sender bad_place bad_base unwanted
    coordinator beats count
    settings_refusal bad_group bad_quorums first_of refusals refusal pick sizes_in_range coefficients_in_range table_in_range all_below in_range limits_in_order
    updated commanded issued e next Law.command sum divided limited clamp filled normalised any_mark mark_beyond
    update_limited command_limited e_changed next_changed command_changed limits_change clamp_changes any_below
    found kind_of read_refusal read_frame fields_in is_frame header_ok parts_ok length_ok part_count_ok byte_three_ok pairs_ok sizes_ok kind_ok part_count has_parts
    parts_of any_of state_in readings_in readings_ok estimate_at estimate_ok marks_byte marks_in marks_below absent_zero
    frame_bytes header pairs estimate_bytes state_bytes readings_bytes command_bytes
    little_endian spelled number_at twos_complement from_twos_complement values_bytes value_at
    converted_row converted converted_newtons converted_single within_i32 in_units floor scale magnitude exponent is_nan to_bits
computed = ((refl, refl), (refl, refl), (refl, refl), (refl, refl), (refl, refl))

-- ---- the last decided period

-- the commands issued and the bytes written are the same list
bytes-in : (c : Issued Replica) (l : List (Issued Replica)) → In c l → In c.bytes (map (λ c. c.bytes) l)
bytes-in c [] p = p
bytes-in c (d ∷ l) (inl q) = inl (ap (λ c. c.bytes) q)
bytes-in c (d ∷ l) (inr p) = inr (bytes-in c l p)

bytes_of : (b : List ℕ) (l : List (Issued Replica)) → In b (map (λ c. c.bytes) l) → (c : Issued Replica) × In c l × (c.bytes ≡ b)
bytes_of b [] p = absurd p
bytes_of b (c ∷ l) (inl q) = (c, inl refl, sym q)
bytes_of b (c ∷ l) (inr p) = let (d, i, q) = bytes_of b l p in (d, inr i, q)

-- where the commands are known, the last period decided is the largest of theirs
last_of : (h : List (Entry Handed Areas)) (commands : List (List ℕ)) (k : ℕ) → commands_of h ≡ commands → (b : List ℕ) → In b commands
    → command_period b ≡ k → ((b : List ℕ) → In b commands → command_period b ≤ k)
    → (run : Demand3 (group 3 bench.quorums bench_law) (law_of bench_law) h) → run.last ≡ k
last_of h commands k w b p e most run = go run.is_last
  where
    reached : k ≤ run.last
    reached =
        let (c, i, q) = bytes_of b (after (group 3 bench.quorums bench_law) h).issued (subst (In b) (sym w) p) in
        let d = run.decided c i in
        let z : d.period ≡ k = sym d.written ∙ ap command_period q ∙ e in
        let m = d.most in
        omega arith

    go : (run.last ≡ 0) ⊎ ((c : Issued Replica) × In c (after (group 3 bench.quorums bench_law) h).issued × (command_period c.bytes ≡ run.last)) → run.last ≡ k
    go (inl z) = let m = reached in omega arith
    go (inr (c, i, z)) =
        let m = reached in
        let u = most c.bytes (subst (In c.bytes) w (bytes-in c (after (group 3 bench.quorums bench_law) h).issued i)) in
        omega arith

-- no command of the list is of a later period than k
abbrev NoneLater : ℕ → List (List ℕ) → Type 0
NoneLater k [] = Unit {0}
NoneLater k (b ∷ l) = (command_period b ≤ k) × NoneLater k l

none-later : (k : ℕ) (l : List (List ℕ)) → NoneLater k l → (b : List ℕ) → In b l → command_period b ≤ k
none-later k [] h b x = elim x [ ]
none-later k (c ∷ l) h b (inl q) = subst (λ b. command_period b ≤ k) (sym q) h.0
none-later k (c ∷ l) h b (inr p) = none-later k l h.1 b p

-- ---- the five histories

-- the newest command is of the last period
witness : (h : List (Entry Handed Areas)) (lines : List Line) (newest : List ℕ) (others : List (List ℕ)) (k : ℕ) → Computes h lines (newest ∷ others)
    → command_period newest ≡ k → NoneLater k (newest ∷ others) → Witness h lines (newest ∷ others) k
witness h lines newest others k w e most =
    let start = first-i32 0 5 (lit< tt) in
    let run = demand-3 3 bench.quorums bench_law start accepted h in record {
      start = start;
      accepted = accepted;
      given = w.0;
      written = w.1;
      run = run;
      decided = last_of h (newest ∷ others) k w.1 newest (inl refl) e (none-later k (newest ∷ others) most) run;
    }

pub bench-example : Witness bench_entries bench_lines bench_commands 1
unfolding command_period number_at spelled
bench-example = witness bench_entries bench_lines _ _ 1 computed.0 refl (lit≤ tt, (lit≤ tt, tt))

pub open-taken-over : Witness open_entries open_lines open_commands 2
unfolding command_period number_at spelled
open-taken-over = witness open_entries open_lines _ _ 2 computed.1 refl (lit≤ tt, (lit≤ tt, (lit≤ tt, (lit≤ tt, tt))))

pub decision-kept : Witness decided_entries decided_lines decided_commands 2
unfolding command_period number_at spelled
decision-kept = witness decided_entries decided_lines _ _ 2 computed.2 refl (lit≤ tt, (lit≤ tt, tt))

pub singles-converted : Witness single_entries single_lines single_commands 2
unfolding command_period number_at spelled
singles-converted = witness single_entries single_lines _ _ 2 computed.3 refl (lit≤ tt, (lit≤ tt, tt))

pub marked-where-clamped : Witness limited_entries limited_lines limited_commands 3
unfolding command_period number_at spelled
marked-where-clamped = witness limited_entries limited_lines _ _ 3 computed.4 refl (lit≤ tt, (lit≤ tt, (lit≤ tt, tt)))

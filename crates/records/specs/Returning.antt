-- What returning answers, and the replica that it gives: "Returning takes a record and a count of missed periods, and yields the replica that a box would
-- be which stayed up, was handed no reading in those periods and lost every frame."
use Rattle.std.specs.Prelude.{ℕ, zero, suc, Bool, false, not, ◌||◌, List, [], ◌∷◌, eqb, ltb}
use Rattle.lists.specs.Choice.{pick}
use Rattle.lists.specs.Refusals.{refusal, first_of}
use Rattle.readings.specs.Readings.{no_readings}
use Rattle.scram.specs.Answers.{Answered, Done, Refused}
use Rattle.scram.specs.Shown.{is_refused}
use Rattle.frame.specs.Lengths.{longest_frame, longest_command}
use Rattle.replica.specs.declared.Replica.{Replica}
use Rattle.replica.specs.Settings.{blank_settings}
use Rattle.replica.specs.Held.{held_of}
use Rattle.replica.specs.Calls.{Outcomes, tick_outcome, fresh_of}
use Rattle.records.specs.Reading.{is_record, replica_in}

-- a tick handed no reading, with areas that are long enough
abbrev pub missed_tick : Replica → Outcomes
missed_tick r = tick_outcome r no_readings longest_frame longest_command

-- the replica after it; its frame is dropped
abbrev pub after_missed : Replica → Replica
after_missed r = record { settings = r.settings; held = held_of (missed_tick r).held }

-- the replica after as many
unfoldable pub stayed_up : ℕ → Replica → Replica
stayed_up zero r = r
stayed_up (suc k) r = stayed_up k (after_missed r)

-- "a period or view that would pass its largest value": a tick among them is refused
unfoldable pub passes_largest : ℕ → Replica → Bool
passes_largest zero r = false
passes_largest (suc k) r = is_refused (missed_tick r).answer || passes_largest k (after_missed r)

-- "missed count over 10,000"
abbrev pub most_missed : ℕ
most_missed = 10000

-- 16: "missed count over 10,000, or a period or view that would pass its largest value"
unfoldable pub misses_too_many : ℕ → Replica → Bool
misses_too_many k r = ltb most_missed k || passes_largest k r

-- ---- staying up, of a replica at hand

-- what it answers
abbrev pub stay_answer : ℕ → Replica → Answered
stay_answer k r = pick (misses_too_many k r) (Refused 16) Done

-- the replica that is at hand then: where it is refused, the one handed in
unfoldable pub stayed : ℕ → Replica → Replica
stayed k r = pick (misses_too_many k r) r (stayed_up k r)

-- ---- returning, from a record

-- the number of the refusal, or 0: "on return, in order: 15 .. 16"
unfoldable pub return_refusal : ℕ → List ℕ → ℕ
return_refusal k b = first_of (refusal 15 (not (is_record b)) ∷ refusal 16 (misses_too_many k (replica_in b)) ∷ [])

-- what it answers
abbrev pub return_answer : ℕ → List ℕ → Answered
return_answer k b = pick (eqb (return_refusal k b) 0) Done (Refused (return_refusal k b))

-- the replica that it gives; of a refused call, which gives none, a blank one, which every step refuses by 1
unfoldable pub returned : ℕ → List ℕ → Replica
returned k b = pick (eqb (return_refusal k b) 0) (stayed_up k (replica_in b)) (fresh_of blank_settings)

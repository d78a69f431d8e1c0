-- What reading a record finds: the conditions of refusal 15, one definition each in the order in which document 02 names them ("15 record not of the
-- layout, or with settings refused at making, a mode or mark of no meaning, a box heard above N, a base above its counter, or an absent value not 0"),
-- and the replica that is read.
use Rattle.std.specs.Prelude.{ℕ, ◌+◌, Bool, true, false, not, ◌&&◌, ◌||◌, List, length, get_or, eqb, leb, ltb, ℤ}
use Rattle.lists.specs.Choice.{pick}
use Rattle.lists.specs.Below.{all_below}
use Rattle.lists.specs.Places.{entry}
use Rattle.scram.specs.Quorum.{among}
use Rattle.scram.specs.Answers.{Answered, Done, Ignored, Refused}
use Rattle.estimate.specs.declared.Estimate.{Estimate}
use Rattle.estimate.specs.Marks.{is_zero, marks_below, absent_zero}
use Rattle.replica.specs.declared.Best.{Best}
use Rattle.replica.specs.declared.Held.{Held}
use Rattle.replica.specs.declared.Replica.{Replica}
use Rattle.replica.specs.Settings.{settings_refusal, blank_settings}
use Rattle.replica.specs.Calls.{fresh_of}
use Rattle.records.specs.Lengths.{settings_length, record_length}
use Rattle.records.specs.SettingsPart.{letter, version, settings_in}
use Rattle.records.specs.HeldPart.{held_at}

-- the replica in a record
unfoldable pub replica_in : List ℕ → Replica
replica_in b = record { settings = settings_in b; held = held_at b settings_length }

-- ---- "record not of the layout"

-- its length, the letter and the version
unfoldable pub layout_ok : List ℕ → Bool
layout_ok b = eqb (length b) record_length && (eqb (get_or b 0 0) letter && eqb (get_or b 1 0) version)

-- a state's places from n on are not in use: 0
unfoldable pub states_ok : ℕ → List ℤ → Bool
states_ok n x = all_below 6 (λ i. ltb i n || is_zero (entry x i))

-- whether as many bytes from an offset on are 0
unfoldable pub zero_at : List ℕ → (at count : ℕ) → Bool
zero_at b at count = all_below count (λ i. eqb (get_or b (at + i) 0) 0)

-- a box of the group
abbrev pub is_box : ℕ → ℕ → Bool
is_box N j = leb 1 j && leb j N

-- where there is a best estimate, it is of a box of the group; where there is none, all that a record has of one is 0
unfoldable pub best_ok : ℕ → Best → List ℕ → Bool
best_ok N best b = pick best.any (is_box N best.box_number) (zero_at b 566 50)

-- ---- "with settings refused at making"

-- none of 1 to 4 and 18 refuses the settings in it
unfoldable pub settings_ok : List ℕ → Bool
settings_ok b = eqb (settings_refusal (settings_in b)) 0

-- ---- "a mode or mark of no meaning"

-- the bytes of mode and decided and of the boxes heard, and the one that says whether there is a best estimate: 0 or 1
unfoldable pub bytes_mean : List ℕ → Bool
bytes_mean b = all_below 12 (λ i. leb (get_or b (512 + i) 0) 1) && leb (get_or b 565 0) 1

-- present marks at or above m have no meaning, in the estimate and in the best one
unfoldable pub marks_mean : ℕ → List ℕ → Bool
marks_mean m b = marks_below m (get_or b 548 0) && marks_below m (get_or b 599 0)

-- ---- "a box heard above N"

-- every place that is set is one of a box of the group: place 0 is no box's
unfoldable pub heard_ok : ℕ → List Bool → Bool
heard_ok N heard = all_below 10 (λ j. not (among heard j) || is_box N j)

-- ---- "a base above its counter"

-- of the estimate, and of the best one heard
unfoldable pub bases_ok : Held → Bool
bases_ok h =
    (leb h.base_view h.view && leb h.base_period h.period)
    && (leb h.best.base_view h.view && leb h.best.base_period h.period)

-- ---- "an absent value not 0"

-- where marks at or above m are 0, values there are absent too
unfoldable pub values_ok : Estimate → Bool
values_ok e = absent_zero 4 e.readings

-- ---- all of them

-- what is asked of an estimate: its unused states, and its absent values
unfoldable pub estimate_ok : ℕ → Estimate → Bool
estimate_ok n e = states_ok n e.state && values_ok e

-- what is asked of what is held, with the bytes that it was read from
unfoldable pub held_ok : (N n m : ℕ) → Held → List ℕ → Bool
held_ok N n m h b =
    (bytes_mean b && marks_mean m b)
    && ((heard_ok N h.heard && bases_ok h)
    && ((estimate_ok n h.estimate && estimate_ok n h.best.estimate) && best_ok N h.best b))

-- whether bytes are a record
unfoldable pub is_record : List ℕ → Bool
unfolding replica_in settings_in held_at
is_record b =
    layout_ok b
    && (settings_ok b && held_ok (settings_in b).boxes (settings_in b).law.n (settings_in b).law.m (held_at b settings_length) b)

-- whether an answer is done
abbrev pub is_done : Answered → Bool
is_done Done = true
is_done Ignored = false
is_done (Refused number) = false

-- what reading answers
abbrev pub read_answer : List ℕ → Answered
read_answer b = pick (is_record b) Done (Refused 15)

-- the replica that is read; of a refused call, which gives none, a blank one, which every step refuses by 1
unfoldable pub read_replica : List ℕ → Replica
read_replica b = pick (is_record b) (replica_in b) (fresh_of blank_settings)

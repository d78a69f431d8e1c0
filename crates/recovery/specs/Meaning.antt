-- What the histories of the C firmware call a result is what its calls leave in the caller's areas, by the contracts of crate winder.
use Rattle.std.specs.Prelude.{ℕ, ◌≤◌, ◌≡◌, Bool, not, ◌||◌, List, length, get_or, eqb}
use Rattle.std.proofs.Math.Option.{some}
use Rattle.octets.specs.Areas.{over}
use Rattle.scram.specs.Held.{Input}
use Rattle.scram.specs.History.{Result}
use Rattle.quorums.specs.declared.Quorums.{Quorums}
use Rattle.law.specs.declared.Settings as Law
use Rattle.replica.specs.Calls.{fresh_of}
use Rattle.records.specs.Lengths.{record_length}
use Rattle.records.specs.Recording.{recorded}
use Rattle.group.specs.Group.{Areas, settings_of}
use Rattle.group.specs.Meaning.{Written}
use Rattle.power.specs.Demand3.{Entry}
use Rattle.winder.specs.ReplicaAreas.{step_at, Steps, recording, returning_refusal, returning}
use Rattle.recovery.specs.Firmware.{Handed, outcome_at, firmware, written}
use Rattle.recovery.specs.Demand3.{EveryGroup}
use Rattle.recovery.specs.ComesBack.{area_after, stored_after}

-- ---- `winder_tick`, `winder_arrive` and `winder_give_up`

-- whether an answer's number is a refusal's: done is 0, and ignored 256
abbrev pub refusal_number : ℕ → Bool
refusal_number number = not (eqb number 0 || eqb number 256)

-- the history's result is what a call leaves: the record, its answer, and the bytes at the start of each lent area
pub record Leaves (w : Result (List ℕ)) (number : ℕ) (b' lengths frame frame' command command' : List ℕ) : Type 0 where
  pub replica : b' ≡ w.box
  pub refused : refusal_number number ≡ w.refused
  pub frame-written : Written w.frame (get_or lengths 0 0) frame frame'
  pub command-written : Written w.command (get_or lengths 1 0) command command'

-- for any area, record or not, and any lent areas
abbrev pub StepsMean : Type 0
StepsMean =
    (N : ℕ) (q : Quorums) (law : Law.Settings) (b : List ℕ) (x : Input Handed (List ℕ)) (a : Areas) (number : ℕ) (b' lengths frame' command' : List ℕ)
    → Steps b (step_at b (λ r. outcome_at r x a)) number b' lengths a.frame frame' a.command command'
    → Leaves ((firmware N q law).call b x a) number b' lengths a.frame frame' a.command command'

-- ---- the others, to an area of a record's length

-- `winder_make` at a box of the group
abbrev pub MakingMeans : Type 0
MakingMeans = EveryGroup (λ N q law. (i : ℕ) (area : List ℕ) → 1 ≤ i → i ≤ N → length area ≡ record_length
    → over (recorded (fresh_of (settings_of N q law i)) (length area)) area ≡ (firmware N q law).fresh i)

-- `winder_record`, in any history
abbrev pub RecordingMeans : Type 0
RecordingMeans = EveryGroup (λ N q law. (h : List (Entry Handed Areas)) (i : ℕ) (area : List ℕ) → 1 ≤ i → i ≤ N → length area ≡ record_length
    → over (recording (area_after N q law h i) (length area)) area ≡ (written N q law).recorded (area_after N q law h i))

-- `winder_return`, where it is not refused, from the record that was stored last in any history
abbrev pub ReturningMeans : Type 0
ReturningMeans = EveryGroup (λ N q law. (h : List (Entry Handed Areas)) (i k : ℕ) (area : List ℕ) → 1 ≤ i → i ≤ N → length area ≡ record_length
    → returning_refusal k (stored_after N q law h i) (length area) ≡ 0
    → (written N q law).back (stored_after N q law h i) k ≡ some (over (returning k (stored_after N q law h i) (length area)) area))

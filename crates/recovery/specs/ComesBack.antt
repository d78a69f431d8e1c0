-- In every history with power cycles each box of the group can be recorded and comes back: 15 refuses none of its records.
use Rattle.std.specs.Prelude.{ℕ, ◌≤◌, ◌≡◌, true, List}
use Rattle.std.proofs.Math.Option.{none, some}
use Rattle.lists.specs.Choice.{pick}
use Rattle.quorums.specs.declared.Quorums.{Quorums}
use Rattle.law.specs.declared.Settings as Law
use Rattle.replica.specs.declared.Replica.{Replica}
use Rattle.replica.specs.Settings.{law_of}
use Rattle.records.specs.Reading.{is_record}
use Rattle.records.specs.Returning.{stayed_up, misses_too_many}
use Rattle.group.specs.Group.{Areas, group}
use Rattle.group.specs.Group as Group
use Rattle.power.specs.Demand3.{Entry, after}
use Rattle.recovery.specs.Recorded.{storage}
use Rattle.recovery.specs.Firmware.{firmware, written}
use Rattle.recovery.specs.Firmware as Firmware
use Rattle.recovery.specs.Demand3.{EveryGroup}

module _ (N : ℕ) (q : Quorums) (law : Law.Settings) where
  -- box i's replica at the end of a history
  abbrev pub replica_after : List (Entry Group.Handed Areas) → ℕ → Replica
  replica_after h i = ((after (group N q law) (law_of law) (storage N q law) h).boxes i).now.box

  -- the C firmware's area at box i, and the record that was stored last
  abbrev pub area_after : List (Entry Firmware.Handed Areas) → ℕ → List ℕ
  area_after h i = ((after (firmware N q law) (law_of law) (written N q law) h).boxes i).now.box

  abbrev pub stored_after : List (Entry Firmware.Handed Areas) → ℕ → List ℕ
  stored_after h i = ((after (firmware N q law) (law_of law) (written N q law) h).boxes i).stored.box

-- recorded and returned by k periods it is the replica that stayed up, unless 16 refuses
abbrev pub ComesBack : Type 0
ComesBack = EveryGroup (λ N q law. (h : List (Entry Group.Handed Areas)) (i k : ℕ) → 1 ≤ i → i ≤ N
    → (storage N q law).back ((storage N q law).recorded (replica_after N q law h i)) k
    ≡ pick (misses_too_many k (replica_after N q law h i)) none (some (stayed_up k (replica_after N q law h i))))

-- and by 0 periods the very replica
abbrev pub ComesBackSame : Type 0
ComesBackSame = EveryGroup (λ N q law. (h : List (Entry Group.Handed Areas)) (i : ℕ) → 1 ≤ i → i ≤ N
    → (storage N q law).back ((storage N q law).recorded (replica_after N q law h i)) 0 ≡ some (replica_after N q law h i))

-- the C firmware's area is a record, so that no call gets 15, and so is what was stored of it
abbrev pub AreRecords : Type 0
AreRecords = EveryGroup (λ N q law. (h : List (Entry Firmware.Handed Areas)) (i : ℕ) → 1 ≤ i → i ≤ N
    → (is_record (area_after N q law h i) ≡ true) × (is_record (stored_after N q law h i) ≡ true))

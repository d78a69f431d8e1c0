-- DEMAND 3 WITH POWER CYCLES (document 02, L4), for the replica and for the calls of the C firmware: "A box that stops and returns is now in every history
-- the group must withstand, provided each frame or command left after its step's record was stored, none was stored after one made later, and the last one
-- stored is returned; the single controller's run may use all-absent readings for the missed periods, which count as ticks; steps between that record and
-- the stop, and frames and commands that never left, don't count". The histories and the claim are those of crate power.
use Rattle.std.specs.Prelude.{ℕ, ◌≡◌, List}
use Rattle.scram.specs.History as Base
use Rattle.scram.specs.Demand3 as BaseClaim
use Rattle.quorums.specs.declared.Quorums.{Quorums}
use Rattle.law.specs.declared.Settings as Law
use Rattle.replica.specs.Settings.{settings_refusal, law_of}
use Rattle.records.specs.InOrder.{TypedSettings}
use Rattle.group.specs.Group.{Areas, settings_of, group}
use Rattle.group.specs.Group as Group
use Rattle.power.specs.Demand3.{Entry}
use Rattle.power.specs.Demand3.{Demand3}
use Rattle.recovery.specs.Recorded.{storage}
use Rattle.recovery.specs.Firmware.{firmware, written, copied}
use Rattle.recovery.specs.Firmware as Firmware

-- What is said of every group: N boxes, any a and b, a law whose tables are as their types say, settings that making accepts.
abbrev pub EveryGroup : ((N : ℕ) (q : Quorums) (law : Law.Settings) → Type 0) → Type 0
EveryGroup claim = (N : ℕ) (q : Quorums) (law : Law.Settings) → TypedSettings (settings_of N q law 1) → settings_refusal (settings_of N q law 1) ≡ 0 → claim N q law

-- any history of replicas with their records
abbrev pub DemandThree : Type 0
DemandThree = EveryGroup (λ N q law. (h : List (Entry Group.Handed Areas)) → Demand3 (group N q law) (law_of law) (storage N q law) h)

-- any history of the C firmware's areas, stored by `winder_record`
abbrev pub DemandThreeWritten : Type 0
DemandThreeWritten = EveryGroup (λ N q law. (h : List (Entry Firmware.Handed Areas)) → Demand3 (firmware N q law) (law_of law) (written N q law) h)

-- the same where the areas themselves are stored
abbrev pub DemandThreeCopied : Type 0
DemandThreeCopied = EveryGroup (λ N q law. (h : List (Entry Firmware.Handed Areas)) → Demand3 (firmware N q law) (law_of law) (copied N q law) h)

-- demand 3 of document 01, of which these are the general case: any history in which no box returns
abbrev pub DemandThreePlain : Type 0
DemandThreePlain = EveryGroup (λ N q law. (h : List (Base.Entry Group.Handed Areas)) → BaseClaim.Demand3 (group N q law) (law_of law) h)

-- the same for the calls of the C firmware
abbrev pub DemandThreePlainFirmware : Type 0
DemandThreePlainFirmware = EveryGroup (λ N q law. (h : List (Base.Entry Firmware.Handed Areas)) → BaseClaim.Demand3 (firmware N q law) (law_of law) h)

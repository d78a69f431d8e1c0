-- Demand 3 with power cycles holds of the replica and of the calls of the C firmware, and demand 3 of document 01 is its special case. Assumes nothing.
use mathlib.Core.Path.{◌≡◌}
use mathlib.Core.List.{List}
use Prim.Native.Nat.{ℕ}
use lib.IntN.{ℤ}
use Rattle.readings.specs.declared.Readings.{Readings}
use Rattle.scram.specs.Held.{Group}
use Rattle.scram.specs.History.{Issued, In}
use Rattle.quorums.specs.declared.Quorums.{Quorums}
use Rattle.law.specs.declared.Settings as Law
use Rattle.law.specs.declared.Marked.{Marked}
use Rattle.frame.specs.Command.{command_period}
use Rattle.replica.specs.declared.Replica.{Replica}
use Rattle.replica.specs.Settings.{settings_refusal, law_of, member_of, group_of}
use Rattle.replica.proofs.Accepted.{overlap}
use Rattle.records.specs.InOrder.{TypedSettings}
use Rattle.group.specs.Group.{Areas, settings_of, group}
use Rattle.group.specs.Group as Group
use Rattle.group.proofs.Typed.{Carried}
use Rattle.group.proofs.Calls.{Kept, shown}
use Rattle.group.proofs.Meaning.{accepted-each}
use Rattle.power.specs.Demand3.{Entry, Storage, after}
use Rattle.power.specs.Returns.{Returns}
use Rattle.power.specs.Plainly.{plainly}
use Rattle.power.proofs.Paths.{Premises}
use Rattle.power.proofs.Theorem as Power
use Rattle.power.proofs.Special.{special}
use Rattle.recovery.specs.Recorded.{storage}
use Rattle.recovery.specs.Firmware.{firmware, written, copied}
use Rattle.recovery.specs.Firmware as Firmware
use Rattle.recovery.specs.Demand3.{EveryGroup, DemandThree, DemandThreeWritten, DemandThreeCopied, DemandThreePlain, DemandThreePlainFirmware}
use Rattle.recovery.specs.ComesBack.{replica_after, ComesBack, ComesBackSame}
use Rattle.recovery.proofs.Replicas as Replicas
use Rattle.recovery.proofs.OnRecords.{KeptIn, firmware-shown, written-returns, copied-returns}

module _ (N : ℕ) (q : Quorums) (law : Law.Settings) (t : TypedSettings (settings_of N q law 1)) (e : settings_refusal (settings_of N q law 1) ≡ 0) where
  abbrev G : Group
  G = group_of (member_of (settings_of N q law 1))

  -- replicas with their records
  abbrev pub replicas : Premises (List ℤ) Readings Marked
  replicas = record {
    system = group N q law;
    Kept = Kept N q law;
    Carried = Carried law;
    law = law_of law;
    group = G;
    shown = shown N q law t.start e;
    storage = storage N q law;
    returns = Replicas.returns N q law t;
  }

  -- the C firmware's areas
  abbrev pub areas : (storage : Storage (firmware N q law)) → Returns (firmware N q law) (KeptIn N q law t e) (law_of law) storage
      → Premises (List ℤ) Readings Marked
  areas storage returns = record {
    system = firmware N q law;
    Kept = KeptIn N q law t e;
    Carried = Carried law;
    law = law_of law;
    group = G;
    shown = firmware-shown N q law t e;
    storage = storage;
    returns = returns;
  }

-- ---- demand 3 with power cycles

-- of replicas with their records
pub demand-3 : DemandThree
demand-3 N q law t e = Power.for-premises (replicas N q law t e) (overlap (settings_of N q law 1) e)

-- of the C firmware's areas, stored by `winder_record`
pub demand-3-written : DemandThreeWritten
demand-3-written N q law t e = Power.for-premises (areas N q law t e (written N q law) (written-returns N q law t e)) (overlap (settings_of N q law 1) e)

-- of the C firmware's areas, copied
pub demand-3-copied : DemandThreeCopied
demand-3-copied N q law t e = Power.for-premises (areas N q law t e (copied N q law) (copied-returns N q law t e)) (overlap (settings_of N q law 1) e)

-- ---- all commands of one period that left, which their bytes have, are alike to the last byte

pub commands-alike : EveryGroup (λ N q law. (h : List (Entry Group.Handed Areas)) (c d : Issued Replica)
    → In c (after (group N q law) (law_of law) (storage N q law) h).issued → In d (after (group N q law) (law_of law) (storage N q law) h).issued
    → command_period c.bytes ≡ command_period d.bytes → c.bytes ≡ d.bytes)
commands-alike N q law t e h = Power.commands-alike (group N q law) (law_of law) (storage N q law) h (demand-3 N q law t e h)

pub commands-alike-written : EveryGroup (λ N q law. (h : List (Entry Firmware.Handed Areas)) (c d : Issued (List ℕ))
    → In c (after (firmware N q law) (law_of law) (written N q law) h).issued → In d (after (firmware N q law) (law_of law) (written N q law) h).issued
    → command_period c.bytes ≡ command_period d.bytes → c.bytes ≡ d.bytes)
commands-alike-written N q law t e h = Power.commands-alike (firmware N q law) (law_of law) (written N q law) h (demand-3-written N q law t e h)

-- ---- the special case

-- the base's demand 3: no box returns, and everything is stored and leaves at once
pub base-special : DemandThreePlain
base-special N q law t e h = special (group N q law) (law_of law) (storage N q law) h (demand-3 N q law t e (plainly 0 h))

pub base-special-firmware : DemandThreePlainFirmware
base-special-firmware N q law t e h = special (firmware N q law) (law_of law) (written N q law) h (demand-3-written N q law t e (plainly 0 h))

-- ---- coming back

pub comes_back : ComesBack
comes_back N q law t e h i k l m =
    Replicas.comes_back N q law t i (replica_after N q law h i) k (Power.now-kept (replicas N q law t e) h i) (accepted-each N q law e i l m)

pub comes-back-same : ComesBackSame
comes-back-same N q law t e h i l m =
    Replicas.comes-back-same N q law t i (replica_after N q law h i) (Power.now-kept (replicas N q law t e) h i) (accepted-each N q law e i l m)

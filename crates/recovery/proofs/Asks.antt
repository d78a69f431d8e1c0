-- Demand 3 with events asked first holds of the replica and of the calls of the C firmware, that with power cycles is its special case, and what its
-- histories have of an ask is what the call gives. Assumes nothing.
use mathlib.Core.Path.{◌≡◌, refl, ap, ◌∙◌, subst}
use mathlib.Core.Bool.{true, false}
use mathlib.Core.List.{List, [], map}
use Prim.Native.Nat.{ℕ, ◌≤◌}
use lib.ListN.{length}
use Rattle.lists.proofs.Choice.{pick_true}
use Rattle.octets.specs.Areas.{over}
use Rattle.transmitters.specs.declared.Reading.{Reading}
use Rattle.scram.specs.Held.{Input, Tick, Arrival, GiveUp}
use Rattle.scram.specs.History.{Issued, In}
use Rattle.frame.specs.Command.{command_period}
use Rattle.replica.specs.declared.Replica.{Replica}
use Rattle.replica.specs.Settings.{law_of}
use Rattle.replica.specs.Calls.{Outcomes}
use Rattle.replica.proofs.Accepted.{overlap}
use Rattle.records.specs.Lengths.{record_length}
use Rattle.records.specs.Recording.{recorded}
use Rattle.records.specs.Reading.{is_done}
use Rattle.tickets.specs.Tickets.{is_spent}
use Rattle.asks.specs.declared.Ticketed.{Ticketed}
use Rattle.asks.specs.declared.Asked.{Asked}
use Rattle.asks.specs.Asking.{tickets_of, step_of, ask_outcome, asked_record, Asks}
use Rattle.asks.specs.AskThenCommit as Asks
use Rattle.asks.proofs.AskThenCommit.{ask-has, replica-is}
use Rattle.group.specs.Group.{Areas, outcome_of, settings_of, group}
use Rattle.group.specs.Group as Group
use Rattle.group.specs.Command.{HoldsCommand}
use Rattle.group.proofs.Theorem.{command-in-words}
use Rattle.power.specs.Asks as Claim
use Rattle.power.specs.Asks.{Entry, Unasked, after}
use Rattle.power.proofs.Asked as Power
use Rattle.power.proofs.Unasked.{special}
use Rattle.recovery.specs.Recorded.{storage}
use Rattle.recovery.specs.Firmware as Firmware
use Rattle.recovery.specs.Firmware.{firmware, copied}
use Rattle.recovery.specs.Firmware.{written}
use Rattle.recovery.specs.Demand3.{EveryGroup, DemandThree, DemandThreeCopied}
use Rattle.recovery.specs.Asks.{is_ok, is_ok_at, DemandThreeAsked, DemandThreeAskedWritten, DemandThreeAskedCopied, Offers, AsksMean}
use Rattle.recovery.proofs.OnRecords.{written-returns, copied-returns}
use Rattle.recovery.proofs.Theorem.{replicas, areas}
use Rattle.recovery.proofs.Meaning.{written-there}

-- ---- demand 3 with events asked first

-- of replicas with their records
pub demand-3-asked : DemandThreeAsked
demand-3-asked N q law t e = Power.demand-3 (replicas N q law t e) (is_ok N q law) (overlap (settings_of N q law 1) e)

-- of the C firmware's areas, stored by `winder_record`
pub demand-3-asked-written : DemandThreeAskedWritten
demand-3-asked-written N q law t e = Power.demand-3 (areas N q law t e (written N q law) (written-returns N q law t e)) (is_ok_at N q law) (overlap (settings_of N q law 1) e)

-- of the C firmware's areas and of the records that asks wrote, copied
pub demand-3-asked-copied : DemandThreeAskedCopied
demand-3-asked-copied N q law t e = Power.demand-3 (areas N q law t e (copied N q law) (copied-returns N q law t e)) (is_ok_at N q law) (overlap (settings_of N q law 1) e)

-- ---- all commands of one period that left are alike to the last byte

pub commands-alike-asked : EveryGroup (λ N q law. (h : List (Entry Group.Handed Areas)) (c d : Issued Replica)
    → In c (after (group N q law) (law_of law) (storage N q law) (is_ok N q law) h).plain.issued
    → In d (after (group N q law) (law_of law) (storage N q law) (is_ok N q law) h).plain.issued
    → command_period c.bytes ≡ command_period d.bytes → c.bytes ≡ d.bytes)
commands-alike-asked N q law t e h = Power.commands-alike (group N q law) (law_of law) (storage N q law) (is_ok N q law) h (demand-3-asked N q law t e h)

pub commands-alike-asked-copied : EveryGroup (λ N q law. (h : List (Entry Firmware.Handed Areas)) (c d : Issued (List ℕ))
    → In c (after (firmware N q law) (law_of law) (copied N q law) (is_ok_at N q law) h).plain.issued
    → In d (after (firmware N q law) (law_of law) (copied N q law) (is_ok_at N q law) h).plain.issued
    → command_period c.bytes ≡ command_period d.bytes → c.bytes ≡ d.bytes)
commands-alike-asked-copied N q law t e h =
    Power.commands-alike (firmware N q law) (law_of law) (copied N q law) (is_ok_at N q law) h (demand-3-asked-copied N q law t e h)

-- ---- each holds the single controller's command of its period, with its mark

pub command-of-decision-asked : EveryGroup (λ N q law. (h : List (Entry Group.Handed Areas))
    (run : Claim.Demand3 (group N q law) (law_of law) (storage N q law) (is_ok N q law) h) (c : Issued Replica)
    → In c (after (group N q law) (law_of law) (storage N q law) (is_ok N q law) h).plain.issued → HoldsCommand law run.row c.bytes)
command-of-decision-asked N q law t e h run c p =
    let d = run.decided c p in command-in-words law run.row d.period d.from1 c.bytes d.written d.bytes

pub command-of-decision-asked-copied : EveryGroup (λ N q law. (h : List (Entry Firmware.Handed Areas))
    (run : Claim.Demand3 (firmware N q law) (law_of law) (copied N q law) (is_ok_at N q law) h) (c : Issued (List ℕ))
    → In c (after (firmware N q law) (law_of law) (copied N q law) (is_ok_at N q law) h).plain.issued → HoldsCommand law run.row c.bytes)
command-of-decision-asked-copied N q law t e h run c p =
    let d = run.decided c p in command-in-words law run.row d.period d.from1 c.bytes d.written d.bytes

-- ---- the special case: lists without asks and commits

pub power-special : DemandThree
power-special N q law t e h = special (group N q law) (law_of law) (storage N q law) (is_ok N q law) h (demand-3-asked N q law t e (map Unasked h))

pub power-special-copied : DemandThreeCopied
power-special-copied N q law t e h = special (firmware N q law) (law_of law) (copied N q law) (is_ok_at N q law) h (demand-3-asked-copied N q law t e (map Unasked h))

-- ---- what the histories have of an ask

-- what a tick of the history is handed, as the call has it
abbrev input_of : Input Group.Handed (List ℕ) → Input (List Reading) (List ℕ)
input_of (Tick y) = Tick y.readings
input_of (Arrival bytes) = Arrival bytes
input_of GiveUp = GiveUp

same_outcome : (r : Replica) (e : Input Group.Handed (List ℕ)) (a : Areas)
    → Asks.outcome_of r (input_of e) (length a.frame) (length a.command) ≡ outcome_of r e a
same_outcome r (Tick y) a = refl
same_outcome r (Arrival bytes) a = refl
same_outcome r GiveUp a = refl

module _ (x : Ticketed) (e : Input Group.Handed (List ℕ)) (a : Areas) (area : ℕ) where
  has-outcome : is_spent (tickets_of x.tickets) ≡ false → record_length ≤ area → ask_outcome x area (outcome_of x.replica e a) ≡ outcome_of x.replica e a
  has-outcome left long =
      subst (λ (o : Outcomes). ask_outcome x area o ≡ o) (same_outcome x.replica e a)
      (ask-has x area left long (length a.frame) (length a.command) (input_of e))

offers : {x : Ticketed} {o : Outcomes} {r : Asked} {area area' frame frame' command command' : List ℕ} → is_spent (tickets_of x.tickets) ≡ false
    → Asks x o r area area' frame frame' command command'
    → Offers (Group.result_of x.replica.settings o) (is_done o.answer ≡ true) r area area' frame frame' command command'
unfolding asked_record
offers {x} {o} {r} {area} {area'} {frame} {frame'} {command} {command'} left a = record {
  frame-written = written-there _ r.frame frame frame' a.frame-length a.frame-bytes;
  command-written = written-there _ r.command command command' a.command-length a.command-bytes;
  stored = λ d. a.record-bytes ∙ ap (λ b. over b area) (pick_true _ (recorded (step_of x o) (length area)) [] d);
  commits = λ d. replica-is a left d;
}

pub asks-mean : AsksMean
asks-mean N q law x e a r area area' frame' command' left long g =
    let h = subst (λ (o : Outcomes). Asks x o r area area' a.frame frame' a.command command') (has-outcome x e a (length area) left long) g in
    (ap is_done h.answer, offers left h)

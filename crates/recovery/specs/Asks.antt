-- DEMAND 3 WITH EVENTS ASKED FIRST (document 02, L6), for the replica and for the calls of the C firmware: "In demand 3 the commit counts as writing and
-- sending what its ask gave; none of it leaves earlier." The histories and the claim are those of crate power, and so are tickets in them.
use Rattle.std.specs.Prelude.{ℕ, ◌≤◌, ◌≡◌, true, false, List, length}
use Rattle.scram.specs.Answers.{answered}
use Rattle.scram.specs.Held.{Input}
use Rattle.scram.specs.History.{Result}
use Rattle.quorums.specs.declared.Quorums.{Quorums}
use Rattle.law.specs.declared.Settings as Law
use Rattle.replica.specs.declared.Replica.{Replica}
use Rattle.replica.specs.Settings.{law_of}
use Rattle.records.specs.Lengths.{record_length}
use Rattle.records.specs.Recording.{recorded}
use Rattle.records.specs.Reading.{is_done}
use Rattle.octets.specs.Areas.{over}
use Rattle.tickets.specs.Tickets.{is_spent}
use Rattle.asks.specs.declared.Ticketed.{Ticketed}
use Rattle.asks.specs.declared.Asked.{Asked}
use Rattle.asks.specs.Asking.{tickets_of, ask_outcome, Asks, committed}
use Rattle.group.specs.Group.{Areas, outcome_of, group}
use Rattle.group.specs.Group as Group
use Rattle.group.specs.Meaning.{Written}
use Rattle.power.specs.Asks.{Entry, Answering}
use Rattle.power.specs.Asks as Power
use Rattle.winder.specs.ReplicaAreas.{step_at}
use Rattle.recovery.specs.Recorded.{storage}
use Rattle.recovery.specs.Firmware.{outcome_at, firmware, written, copied}
use Rattle.recovery.specs.Firmware as Firmware
use Rattle.recovery.specs.Demand3.{EveryGroup}

module _ (N : ℕ) (q : Quorums) (law : Law.Settings) where
  -- whether the answer of a call is ok, at a replica
  abbrev pub is_ok : Answering (group N q law)
  is_ok r e a = is_done (outcome_of r e a).answer

  -- and at an area of the C firmware
  abbrev pub is_ok_at : Answering (firmware N q law)
  is_ok_at b e a = is_done (step_at b (λ r. outcome_at r e a)).answer

-- ---- the claim

-- any history of replicas with their records, with asks and commits
abbrev pub DemandThreeAsked : Type 0
DemandThreeAsked = EveryGroup (λ N q law. (h : List (Entry Group.Handed Areas)) → Power.Demand3 (group N q law) (law_of law) (storage N q law) (is_ok N q law) h)

-- any history of the C firmware's areas, stored by `winder_record`
abbrev pub DemandThreeAskedWritten : Type 0
DemandThreeAskedWritten = EveryGroup (λ N q law. (h : List (Entry Firmware.Handed Areas))
    → Power.Demand3 (firmware N q law) (law_of law) (written N q law) (is_ok_at N q law) h)

-- the same where the areas themselves are stored, or the record that an ask wrote
abbrev pub DemandThreeAskedCopied : Type 0
DemandThreeAskedCopied = EveryGroup (λ N q law. (h : List (Entry Firmware.Handed Areas))
    → Power.Demand3 (firmware N q law) (law_of law) (copied N q law) (is_ok_at N q law) h)

-- ---- what the histories have of an ask is what the call gives

-- an ask gave what the history has of its event: whether it is ok, the frame and the command; and where it is ok its record is that of the replica which the
-- history has, and committing its ticket gives that replica
pub record Offers (w : Result Replica) (ok : Type 0) (r : Asked) (area area' frame frame' command command' : List ℕ) : Type 0 where
  pub frame-written : Written w.frame r.frame frame frame'
  pub command-written : Written w.command r.command command command'
  pub stored : ok → area' ≡ over (recorded w.box (length area)) area
  pub commits : ok → (committed r.ticketed r.ticket).replica ≡ w.box

-- at any replica with tickets, one of which is left, for any event and any lent areas, the record's being long enough
abbrev pub AsksMean : Type 0
AsksMean = (N : ℕ) (q : Quorums) (law : Law.Settings) (x : Ticketed) (e : Input Group.Handed (List ℕ)) (a : Areas) (r : Asked) (area area' frame' command' : List ℕ)
    → is_spent (tickets_of x.tickets) ≡ false → record_length ≤ length area
    → Asks x (ask_outcome x (length area) (outcome_of x.replica e a)) r area area' a.frame frame' a.command command'
    → (is_done (answered r.answer) ≡ is_ok N q law x.replica e a)
    × Offers ((group N q law).call x.replica e a) (is_ok N q law x.replica e a ≡ true) r area area' a.frame frame' a.command command'

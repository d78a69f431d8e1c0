-- "The C firmware of the boxes calls making, stepping, recording and returning through functions on numbers and byte areas. There a replica is its
-- record": what such a call leaves in the areas of a caller.
use Rattle.std.specs.Prelude.{ℕ, ◌≡◌, not, List, [], ◌∷◌, length, eqb, ℤ}
use Rattle.lists.specs.Choice.{pick}
use Rattle.lists.specs.Refusals.{refusal, first_of}
use Rattle.octets.specs.Areas.{over}
use Rattle.scram.specs.Events.{refusing}
use Rattle.replica.specs.declared.Settings.{Settings}
use Rattle.replica.specs.declared.Replica.{Replica}
use Rattle.replica.specs.Held.{held_in, held_of}
use Rattle.replica.specs.Frames.{sent_bytes, issued_bytes}
use Rattle.replica.specs.Calls.{Outcomes}
use Rattle.records.specs.SettingsPart.{settings_in}
use Rattle.records.specs.Recording.{record_bytes, short_record}
use Rattle.records.specs.Reading.{is_done, is_record, replica_in, read_replica}
use Rattle.records.specs.Returning.{misses_too_many, stayed_up}
use Rattle.winder.specs.Answers.{number_of}

-- the settings in a caller's areas
abbrev pub settings_of : (n m p : ℕ) (a l c k low high start : List ℤ) (boxes own to_decide to_propose : ℕ) → Settings
settings_of n m p a l c k low high start boxes own to_decide to_propose =
    record {
      boxes = boxes;
      own = own;
      quorums = record { to_decide = to_decide; to_propose = to_propose };
      law = record { n = n; m = m; p = p; a = a; l = l; c = c; k = k; low = low; high = high; start = start };
    }

-- ---- steps

-- a step at the replica whose record these bytes are: "one that 15 would refuse gets 15 before the lent areas"
unfoldable pub step_at : List ℕ → (Replica → Outcomes) → Outcomes
step_at b step = pick (is_record b) (step (replica_in b)) (refusing (held_in (read_replica b).held) 15)

-- the record after it: that of the replica that the step gives back, where it was done; else "the replica and each lent area hold what they held"
unfoldable pub record_after : List ℕ → Outcomes → List ℕ
record_after b o = pick (is_done o.answer) (record_bytes (record { settings = settings_in b; held = held_of o.held })) b

-- the bytes of what the step sends
abbrev pub sent_at : List ℕ → Outcomes → List ℕ
sent_at b o = sent_bytes (settings_in b).law.n (settings_in b).law.m o.sent

-- and of the command that it issues
abbrev pub issued_at : List ℕ → Outcomes → List ℕ
issued_at b o = issued_bytes (settings_in b).law.p o.command

-- a call leaves what this step does: its answer, the record from b to b', the length written to each lent area, and each area to the last byte
pub record Steps (b : List ℕ) (o : Outcomes) (number : ℕ) (b' lengths frame frame' command command' : List ℕ) : Type 0 where
  pub answer : number ≡ number_of o.answer
  pub replica : b' ≡ record_after b o
  pub written : lengths ≡ length (sent_at b o) ∷ length (issued_at b o) ∷ []
  pub frame-bytes : frame' ≡ over (sent_at b o) frame
  pub command-bytes : command' ≡ over (issued_at b o) command

-- ---- recording and returning, to an area that is so long

-- the number of the refusal of recording, or 0: 15, then 5
unfoldable pub recording_refusal : List ℕ → ℕ → ℕ
recording_refusal b area = first_of (refusal 15 (not (is_record b)) ∷ short_record area ∷ [])

-- what it writes to the start of the area
unfoldable pub recording : List ℕ → ℕ → List ℕ
recording b area = pick (eqb (recording_refusal b area) 0) (record_bytes (replica_in b)) []

-- the number of the refusal of returning, or 0: 15, then 5 for the area, then 16
unfoldable pub returning_refusal : ℕ → List ℕ → ℕ → ℕ
returning_refusal k b area = first_of (refusal 15 (not (is_record b)) ∷ short_record area ∷ refusal 16 (misses_too_many k (replica_in b)) ∷ [])

-- what it writes to the start of the area
unfoldable pub returning : ℕ → List ℕ → ℕ → List ℕ
returning k b area = pick (eqb (returning_refusal k b area) 0) (record_bytes (stayed_up k (replica_in b))) []

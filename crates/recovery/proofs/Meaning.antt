-- The histories of the C firmware are what its calls leave, and every area in them is a record. Assumes nothing.
use mathlib.Core.Path.{◌≡◌, refl, sym, ap, ◌∙◌, subst}
use mathlib.Core.Logic.{inl, inr}
use mathlib.Core.Bool.{true}
use mathlib.Core.List.{List, ◌++◌, append-nil}
use mathlib.Core.Option.{some}
use Prim.Native.Nat.{ℕ, ◌≤◌}
use native.Mathlib.Omega.{arith}
use lib.ListN.{length, get_or, take}
use lib.Dec.{lit≤, eqb}
use borrow.Author.Tests.{eq-eqb, ne_eqb}
use Rattle.lists.proofs.Choice.{pick-ok, pick_true}
use Rattle.lists.proofs.Parts.{drop-beyond}
use Rattle.octets.specs.Areas.{over}
use Rattle.octets.proofs.Areas.{over_first}
use Rattle.scram.specs.Answers.{Answered, Done, Ignored, Refused}
use Rattle.scram.specs.Held.{Input}
use Rattle.scram.specs.Shown.{is_refused}
use Rattle.quorums.specs.declared.Quorums.{Quorums}
use Rattle.law.specs.declared.Settings as Law
use Rattle.replica.specs.declared.Replica.{Replica}
use Rattle.replica.specs.Settings.{settings_refusal}
use Rattle.replica.specs.Calls.{Outcomes, fresh_of}
use Rattle.records.specs.Lengths.{record_length}
use Rattle.records.specs.Recording.{record_bytes, recorded}
use Rattle.records.specs.Reading.{is_record, replica_in}
use Rattle.records.specs.InOrder.{TypedSettings}
use Rattle.records.specs.Returning.{stayed_up}
use Rattle.records.proofs.RoundTrip.{recorded-is-record, recorded-read}
use Rattle.group.specs.Group.{Areas, settings_of}
use Rattle.group.specs.Meaning as Group
use Rattle.group.proofs.Calls.{Kept, shown}
use Rattle.group.proofs.Meaning.{accepted-each}
use Rattle.power.specs.Demand3.{Entry}
use Rattle.power.proofs.Theorem as Power
use Rattle.winder.specs.Answers.{number_of}
use Rattle.winder.specs.ReplicaAreas.{step_at, recording, returning_refusal, returning}
use Rattle.answers.specs.Answers.{Listed}
use Rattle.recovery.specs.Firmware.{Handed, outcome_at, written}
use Rattle.recovery.specs.ComesBack.{area_after, stored_after, AreRecords}
use Rattle.recovery.specs.Meaning.{refusal_number, StepsMean, MakingMeans, RecordingMeans, ReturningMeans}
use Rattle.recovery.proofs.Quiet.{outcome-quiet}
use Rattle.recovery.proofs.Refusals.{record-length, recorded-bytes, returning-bytes}
use Rattle.recovery.proofs.OnRecords.{Written, KeptIn, in_order, stayed-kept, recording-same, written-returns}
use Rattle.recovery.proofs.Theorem.{areas}

-- ---- steps

-- an answer is a refusal where its number is one
by_number : (a : Answered) → Listed a → refusal_number (number_of a) ≡ is_refused a
by_number Done n = refl
by_number Ignored n = refl
by_number (Refused number) n =
    rw (ne_eqb number 0 (λ z. absurd (omega (arith, z, n.0))), ne_eqb number 256 (λ z. absurd (omega (arith, z, n.1))))

step-numbered : (b : List ℕ) (x : Input Handed (List ℕ)) (a : Areas) → Listed (step_at b (λ r. outcome_at r x a)).answer
unfolding step_at
step-numbered b x a =
    pick-ok (λ (o : Outcomes). Listed o.answer) _ _ _ (λ _. (outcome-quiet (replica_in b) x a).numbered) (λ _. (lit≤ tt, lit≤ tt))

pub written-there : (bytes : List ℕ) (count : ℕ) (area area' : List ℕ) → count ≡ length bytes → area' ≡ over bytes area → Group.Written bytes count area area'
written-there bytes count area area' q z = record {
  number = q;
  first = ap (λ k. take k area') q ∙ ap (take (length bytes)) z ∙ over_first bytes area;
  whole = z;
}

pub steps-mean : StepsMean
steps-mean N q law b x a number b' lengths frame' command' g = record {
  replica = g.replica;
  refused = ap refusal_number g.answer ∙ by_number (step_at b (λ r. outcome_at r x a)).answer (step-numbered b x a);
  frame-written = written-there _ _ a.frame frame' (ap (λ l. get_or l 0 0) g.written) g.frame-bytes;
  command-written = written-there _ _ a.command command' (ap (λ l. get_or l 1 0) g.written) g.command-bytes;
}

-- ---- areas of a record's length

-- what is as long as the area is all that is in it then
over-all : (bytes area : List ℕ) → length area ≡ record_length → length bytes ≡ record_length → over bytes area ≡ bytes
over-all bytes area p q = ap (λ l. bytes ++ l) (drop-beyond area (length bytes) (omega arith)) ∙ append-nil bytes

module _ (N : ℕ) (q : Quorums) (law : Law.Settings) (t : TypedSettings (settings_of N q law 1)) (e : settings_refusal (settings_of N q law 1) ≡ 0) where
  module _ (i : ℕ) (stands : settings_refusal (settings_of N q law i) ≡ 0) where
    -- a box of the group has a record
    written_in : (b : List ℕ) → KeptIn N q law t e i b → Written N q law t e i b
    written_in b (inl w) = w
    written_in b (inr f) = absurd (f.refused stands)

    kept_record : (c : Replica) → Kept N q law i c → is_record (record_bytes c) ≡ true
    kept_record c k = recorded-is-record c (in_order N q law t e i stands c k)

    -- what an area of it holds, and what is stored of that
    in-record : (b : List ℕ) → Written N q law t e i b → is_record b ≡ true
    in-record b w = ap is_record w.same ∙ kept_record w.replica w.kept

    recording-is : (b : List ℕ) → Written N q law t e i b → recording b record_length ≡ b
    recording-is b w =
        ap (λ b. recording b record_length) w.same
        ∙ recording-same N q law t e w.replica (in_order N q law t e i stands w.replica w.kept)
        ∙ sym w.same

    returned-length : (k : ℕ) (b : List ℕ) → Written N q law t e i b → eqb (returning_refusal k b record_length) 0 ≡ true
        → length (returning k b record_length) ≡ record_length
    returned-length k b w z =
        let r = ap replica_in w.same ∙ recorded-read w.replica (in_order N q law t e i stands w.replica w.kept) in
        ap length (returning-bytes k b z ∙ ap (λ c. record_bytes (stayed_up k c)) r)
        ∙ record-length _ (kept_record (stayed_up k w.replica) (stayed-kept N q law t e i stands k w.replica w.kept))

  -- ---- in a history

  module _ (h : List (Entry Handed Areas)) (i : ℕ) (from1 : 1 ≤ i) (most : i ≤ N) where
    stands : settings_refusal (settings_of N q law i) ≡ 0
    stands = accepted-each N q law e i from1 most

    now : Written N q law t e i (area_after N q law h i)
    now = written_in i stands (area_after N q law h i) (Power.now-kept (areas N q law t e (written N q law) (written-returns N q law t e)) h i)

    stored : Written N q law t e i (stored_after N q law h i)
    stored =
        let (b, same, k) = Power.stored-kept (areas N q law t e (written N q law) (written-returns N q law t e)) h i in
        let w = written_in i stands b k in
        subst (Written N q law t e i) (sym (same ∙ recording-is i stands b w)) w

pub are-records : AreRecords
are-records N q law t e h i l m =
    let s = stands N q law t e h i l m in
    (in-record N q law t e i s (area_after N q law h i) (now N q law t e h i l m), in-record N q law t e i s (stored_after N q law h i) (stored N q law t e h i l m))

pub making-means : MakingMeans
making-means N q law t e i area l m p =
    let s = accepted-each N q law e i l m in
    let c = fresh_of (settings_of N q law i) in
    ap (λ k. over (recorded c k) area) p
    ∙ over-all (recorded c record_length) area p
    (record-length _ (ap is_record (recorded-bytes c s) ∙ kept_record N q law t e i s c ((shown N q law t.start e).fresh_kept i)))

pub recording-means : RecordingMeans
recording-means N q law t e h i area l m p =
    let s = stands N q law t e h i l m in
    let w = now N q law t e h i l m in
    let b = area_after N q law h i in
    ap (λ k. over (recording b k) area) p
    ∙ over-all (recording b record_length) area p (ap length (recording-is N q law t e i s b w) ∙ record-length b (in-record N q law t e i s b w))

pub returning-means : ReturningMeans
returning-means N q law t e h i k area l m p z =
    let s = stands N q law t e h i l m in
    let w = stored N q law t e h i l m in
    let b = stored_after N q law h i in
    let y = eq-eqb (returning_refusal k b record_length) 0 (ap (returning_refusal k b) (sym p) ∙ z) in
    pick_true _ _ _ y
    ∙ ap some (sym (over-all (returning k b record_length) area p (returned-length N q law t e i s k b w y)) ∙ ap (λ n. over (returning k b n) area) (sym p))

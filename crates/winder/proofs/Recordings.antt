-- What recording and returning on records answer, and what they write, one condition after the other. Assumes nothing.
use mathlib.Core.Path.{◌≡◌, refl, sym, ap, ◌∙◌}
use mathlib.Core.Bool.{true, false, not}
use mathlib.Core.List.{List, []}
use Prim.Native.Nat.{ℕ, zero, suc}
use lib.Dec.{eqb, ltb}
use Rattle.lists.proofs.Choice.{pick_true, pick-false}
use Rattle.lists.proofs.Refusals.{none-holds, first_holds, first-fails}
use Rattle.octets.specs.Words.{AllBytes}
use Rattle.replica.specs.declared.Replica.{Replica}
use Rattle.replica.specs.Settings.{settings_refusal}
use Rattle.records.specs.Lengths.{record_length}
use Rattle.records.specs.Recording.{record_bytes, record_answer, recorded}
use Rattle.records.specs.Reading.{is_record, replica_in}
use Rattle.records.specs.Returning.{after_missed, stayed_up, misses_too_many}
use Rattle.records.proofs.Recorded.{not-refused, record-done}
use Rattle.records.proofs.RoundTrip.{read-recorded}
use Rattle.winder.specs.Answers.{number_of}
use Rattle.winder.specs.ReplicaAreas.{recording_refusal, recording, returning_refusal, returning}

-- ---- of a replica whose settings stand, in an area that is long enough

written-done : (r : Replica) (area : ℕ) → settings_refusal r.settings ≡ 0 → ltb area record_length ≡ false
    → (number_of (record_answer r.settings area) ≡ 0) × (recorded r area ≡ record_bytes r)
written-done r area stands long = let m = record-done r area (sym (not-refused r.settings area stands long)) in (ap number_of m.0, m.1)

-- ---- recording

module _ (b : List ℕ) (area : ℕ) where
  pub recording-15 : is_record b ≡ false → (recording_refusal b area ≡ 15) × (recording b area ≡ [])
  unfolding recording_refusal recording
  recording-15 e = let z = first_holds 15 _ _ (ap not e) in (z, pick-false _ _ _ (ap (λ (x : ℕ). eqb x 0) z))

  module _ (e : is_record b ≡ true) where
    pub recording-5 : ltb area record_length ≡ true → (recording_refusal b area ≡ 5) × (recording b area ≡ [])
    unfolding recording_refusal recording
    recording-5 s = let z = first-fails 15 _ _ (ap not e) ∙ first_holds 5 _ _ s in (z, pick-false _ _ _ (ap (λ (x : ℕ). eqb x 0) z))

    -- the record of what a record holds is that record
    pub recording-done : AllBytes b → ltb area record_length ≡ false → (recording_refusal b area ≡ 0) × (recording b area ≡ b)
    unfolding recording_refusal recording
    recording-done bytes s =
        let z = first-fails 15 _ _ (ap not e) ∙ first-fails 5 _ _ s ∙ none-holds in
        (z, pick_true _ _ _ (ap (λ (x : ℕ). eqb x 0) z) ∙ read-recorded b bytes e)

-- ---- returning

-- missed periods leave the settings
pub up-settings : (k : ℕ) (r : Replica) → (stayed_up k r).settings ≡ r.settings
unfolding stayed_up
up-settings zero r = refl
up-settings (suc k) r = up-settings k (after_missed r)

module _ (k : ℕ) (b : List ℕ) (area : ℕ) where
  refusing : (number : ℕ) → returning_refusal k b area ≡ number → eqb number 0 ≡ false → (returning_refusal k b area ≡ number) × (returning k b area ≡ [])
  unfolding returning
  refusing number e n = (e, pick-false _ _ _ (ap (λ (x : ℕ). eqb x 0) e ∙ n))

  pub returning-15 : is_record b ≡ false → (returning_refusal k b area ≡ 15) × (returning k b area ≡ [])
  unfolding returning_refusal
  returning-15 e = refusing 15 (first_holds 15 _ _ (ap not e)) refl

  module _ (e : is_record b ≡ true) where
    pub returning-5 : ltb area record_length ≡ true → (returning_refusal k b area ≡ 5) × (returning k b area ≡ [])
    unfolding returning_refusal
    returning-5 s = refusing 5 (first-fails 15 _ _ (ap not e) ∙ first_holds 5 _ _ s) refl

    module _ (s : ltb area record_length ≡ false) where
      pub returning-16 : misses_too_many k (replica_in b) ≡ true → (returning_refusal k b area ≡ 16) × (returning k b area ≡ [])
      unfolding returning_refusal
      returning-16 m = refusing 16 (first-fails 15 _ _ (ap not e) ∙ first-fails 5 _ _ s ∙ first_holds 16 _ _ m) refl

      -- what it writes is what recording the replica that stayed up does
      pub returning-done : misses_too_many k (replica_in b) ≡ false → settings_refusal (replica_in b).settings ≡ 0
          → (number_of (record_answer (stayed_up k (replica_in b)).settings area) ≡ returning_refusal k b area)
          × (recorded (stayed_up k (replica_in b)) area ≡ returning k b area)
      unfolding returning_refusal returning
      returning-done m stands =
          let z : returning_refusal k b area ≡ 0 = first-fails 15 _ _ (ap not e) ∙ first-fails 5 _ _ s ∙ first-fails 16 _ _ m ∙ none-holds in
          let w = written-done (stayed_up k (replica_in b)) area (ap settings_refusal (up-settings k (replica_in b)) ∙ stands) s in
          (w.0 ∙ sym z, w.1 ∙ sym (pick_true _ _ _ (ap (λ (x : ℕ). eqb x 0) z)))

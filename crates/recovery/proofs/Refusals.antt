-- When recording and returning are refused, and what is not refused tells: callers need not open the definitions. Assumes nothing.
use mathlib.Core.Path.{◌≡◌, refl, sym, ap, ◌∙◌}
use mathlib.Core.Bool.{Bool, true, false, not, ◌||◌}
use mathlib.Core.List.{List, [], ◌∷◌}
use Prim.Native.Nat.{ℕ}
use lib.ListN.{length}
use lib.Dec.{lit≤, eqb, ltb}
use borrow.Author.Tests.{eqb-true, eqb-false}
use Rattle.lists.specs.Choice.{pick}
use Rattle.lists.specs.Refusals.{refusal, first_of}
use Rattle.lists.proofs.Booleans.{never, both}
use Rattle.lists.proofs.Choice.{pick_true, pick-false}
use Rattle.lists.proofs.Refusals.{none-holds, first_holds, first-fails, passed}
use Rattle.replica.specs.declared.Replica.{Replica}
use Rattle.replica.specs.Settings.{settings_refusal}
use Rattle.records.specs.Lengths.{record_length}
use Rattle.records.specs.Recording.{record_bytes, recorded}
use Rattle.records.specs.Reading.{layout_ok, is_record, replica_in}
use Rattle.records.specs.Returning.{most_missed, passes_largest, misses_too_many, return_refusal, stayed_up}
use Rattle.records.proofs.IsRecord.{no-layout, layout-length}
use Rattle.records.proofs.Recorded.{refused-settings, not-refused, record-refused, record-done}
use Rattle.winder.specs.ReplicaAreas.{recording_refusal, recording, returning_refusal, returning}

-- ---- tests

-- neither of two
pub neither : (a b : Bool) → (a || b) ≡ false → (a ≡ false) × (b ≡ false)
neither true b e = never (sym e)
neither false b e = (refl, e)

is : (b : Bool) → not b ≡ false → b ≡ true
is true e = refl
is false e = never (sym e)

-- one refusal alone
only : (b : Bool) → eqb (first_of (refusal 16 b ∷ [])) 0 ≡ not b
unfolding first_of pick
only true = refl
only false = refl

-- ---- no record

pub no_bytes : is_record [] ≡ false
unfolding layout_ok
no_bytes = no-layout [] refl

-- and how long one is
pub record-length : (b : List ℕ) → is_record b ≡ true → length b ≡ record_length
unfolding is_record
record-length b e = layout-length b (both (layout_ok b) _ e).0

-- ---- recording a replica

module _ (c : Replica) where
  -- it is written where its settings are not refused
  pub recorded-bytes : settings_refusal c.settings ≡ 0 → recorded c record_length ≡ record_bytes c
  recorded-bytes e = (record-done c record_length (sym (not-refused c.settings record_length e refl))).1

  -- and else there is no record
  pub recorded-none : (settings_refusal c.settings ≡ 0 → ⊥) → is_record (recorded c record_length) ≡ false
  recorded-none n = ap is_record (record-refused c record_length (λ z. n (refused-settings c.settings record_length n ∙ z))).1 ∙ no_bytes

  pub recorded-stands : is_record (recorded c record_length) ≡ true → settings_refusal c.settings ≡ 0
  recorded-stands t = by (eqb (settings_refusal c.settings) 0) refl
    where
      by : (b : Bool) → eqb (settings_refusal c.settings) 0 ≡ b → settings_refusal c.settings ≡ 0
      by true e = eqb-true (settings_refusal c.settings) 0 e
      by false e = never (sym (recorded-none (eqb-false (settings_refusal c.settings) 0 e)) ∙ t)

-- ---- returning

-- a record, and periods and views that do not pass their largest value
pub record Returnable (k : ℕ) (b : List ℕ) : Type 0 where
  pub record-there : is_record b ≡ true
  pub within : passes_largest k (replica_in b) ≡ false

module _ (k : ℕ) (b : List ℕ) where
  returnable : not (is_record b) ≡ false → misses_too_many k (replica_in b) ≡ false → Returnable k b
  unfolding misses_too_many
  returnable r m = record { record-there = is (is_record b) r; within = (neither (ltb most_missed k) (passes_largest k (replica_in b)) m).1 }

  -- of the replica's own call
  pub return-passed : eqb (return_refusal k b) 0 ≡ true → Returnable k b
  unfolding return_refusal
  return-passed e =
      let p = passed 15 (not (is_record b)) _ (lit≤ tt) (eqb-true _ 0 e) in
      returnable p.0 (passed 16 (misses_too_many k (replica_in b)) [] (lit≤ tt) p.1).0

  -- a record is refused by 16 alone
  pub return-done : is_record b ≡ true → eqb (return_refusal k b) 0 ≡ not (misses_too_many k (replica_in b))
  unfolding return_refusal
  return-done r = ap (λ (n : ℕ). eqb n 0) (first-fails 15 (not (is_record b)) _ (ap not r)) ∙ only (misses_too_many k (replica_in b))

  -- of `winder_return`
  pub returning-passed : eqb (returning_refusal k b record_length) 0 ≡ true → Returnable k b
  unfolding returning_refusal
  returning-passed e =
      let p = passed 15 (not (is_record b)) _ (lit≤ tt) (eqb-true _ 0 e) in
      let q = passed 5 (ltb record_length record_length) _ (lit≤ tt) p.1 in
      returnable p.0 (passed 16 (misses_too_many k (replica_in b)) [] (lit≤ tt) q.1).0

  -- what is no record is refused
  pub returning-15 : is_record b ≡ false → eqb (returning_refusal k b record_length) 0 ≡ false
  unfolding returning_refusal
  returning-15 f = ap (λ (n : ℕ). eqb n 0) (first_holds 15 (not (is_record b)) _ (ap not f))

  -- what it writes
  pub returning-bytes : eqb (returning_refusal k b record_length) 0 ≡ true → returning k b record_length ≡ record_bytes (stayed_up k (replica_in b))
  unfolding returning
  returning-bytes e = pick_true _ _ _ e

-- ---- `winder_record`

module _ (b : List ℕ) where
  pub recording-done : is_record b ≡ true → recording b record_length ≡ record_bytes (replica_in b)
  unfolding recording recording_refusal
  recording-done t =
      pick_true _ _ _ (ap (λ (n : ℕ). eqb n 0) (first-fails 15 (not (is_record b)) _ (ap not t) ∙ first-fails 5 (ltb record_length record_length) [] refl ∙ none-holds))

  pub recording-none : is_record b ≡ false → is_record (recording b record_length) ≡ false
  unfolding recording recording_refusal
  recording-none f = ap is_record (pick-false _ _ _ (ap (λ (n : ℕ). eqb n 0) (first_holds 15 (not (is_record b)) _ (ap not f)))) ∙ no_bytes

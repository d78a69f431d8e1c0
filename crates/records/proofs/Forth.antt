-- What is recorded of a replica in order is read again. Assumes nothing.
use mathlib.Core.Path.{◌≡◌, refl, sym, ap, ◌∙◌, subst}
use mathlib.Core.Bool.{true}
use mathlib.Core.List.{List, ◌++◌}
use mathlib.Core.Logic.{◌⊎◌, inl, inr}
use Prim.Native.Nat.{ℕ, ◌≤◌, ◌<◌}
use native.Mathlib.Omega.{arith}
use lib.ListN.{length}
use lib.Dec.{leb}
use borrow.Author.Tests.{leb-true}
use Rattle.lists.proofs.Booleans.{both}
use Rattle.lists.proofs.Choice.{pick_true, pick-false}
use Rattle.law.proofs.Accepted.{Sizes}
use Rattle.law.proofs.Laws.{sizes-accepted}
use Rattle.estimate.specs.declared.Estimate.{Estimate}
use Rattle.estimate.specs.Fields.{TypedEstimate, carried_estimate}
use Rattle.estimate.specs.Marks.{marks_byte, marks_below}
use Rattle.estimate.proofs.PresentMarks.{byte-below}
use Rattle.quorums.proofs.Stand.{stand}
use Rattle.replica.specs.declared.Settings.{Settings}
use Rattle.replica.specs.declared.Best.{Best}
use Rattle.replica.specs.declared.Held.{Held}
use Rattle.replica.specs.declared.Replica.{Replica}
use Rattle.replica.proofs.Accepted.{accepted}
use Rattle.records.specs.Lengths.{settings_length}
use Rattle.records.specs.SettingsPart.{settings_bytes}
use Rattle.records.specs.HeldPart.{held_bytes}
use Rattle.records.specs.Recording.{no_best, recorded_best, recorded_held, record_bytes}
use Rattle.records.specs.Reading.{best_ok, replica_in}
use Rattle.records.specs.InOrder.{CarriedWhole, BestOf, HeldInOrder, InOrder}
use Rattle.records.proofs.SettingsLaws.{length-settings_bytes, layout-read, settings-read}
use Rattle.records.proofs.HeldLaws.{TypedHeld, length_whole, bytes-mean, marks-548, marks-599, no-best-zero, held-read}
use Rattle.records.proofs.Carried.{Places, whole-clean, whole-record}
use Rattle.records.proofs.Facts.{bases-facts, HeldFacts, RecordFacts}

-- ---- a record keeps all of what is held

module _ (n m : ℕ) where
  -- of a best estimate heard
  pub heard-kept : (b : Best) → b.any ≡ true → carried_estimate n m b.estimate ≡ b.estimate → recorded_best n m b ≡ b
  unfolding recorded_best
  heard-kept b any w =
      pick_true b.any _ _ any
      ∙ (λ i. record { any = b.any; box_number = b.box_number; base_view = b.base_view; base_period = b.base_period; estimate = w i })

  -- of none
  pub none_kept : recorded_best n m no_best ≡ no_best
  unfolding recorded_best
  none_kept = pick-false _ _ _ refl

  pub best-kept : (N : ℕ) (b : Best) → carried_estimate n m b.estimate ≡ b.estimate → (b ≡ no_best) ⊎ BestOf N b → recorded_best n m b ≡ b
  best-kept N b w (inl none) = subst (λ (t : Best). recorded_best n m t ≡ t) (sym none) none_kept
  best-kept N b w (inr of) = heard-kept b of.any w

  pub held_kept : (h : Held) → carried_estimate n m h.estimate ≡ h.estimate → recorded_best n m h.best ≡ h.best → recorded_held n m h ≡ h
  unfolding recorded_held
  held_kept h estimate best = λ i. record {
    period = h.period;
    view = h.view;
    base_view = h.base_view;
    view_change = h.view_change;
    decided = h.decided;
    estimate = estimate i;
    base_period = h.base_period;
    heard = h.heard;
    best = best i;
  }

-- so the record of a replica in order is its settings and what it holds
pub recorded-whole : (r : Replica) → InOrder r → record_bytes r ≡ settings_bytes r.settings ++ held_bytes r.held
unfolding record_bytes
recorded-whole r o =
    let law = r.settings.law in
    let h = o.held in
    ap (λ (h : Held). settings_bytes r.settings ++ held_bytes h)
    (held_kept law.n law.m r.held h.estimate.whole (best-kept law.n law.m r.settings.boxes r.held.best h.best_estimate.whole h.best))

-- ---- what is held, as its bytes have it

-- an estimate has the places that its type says
pub places : {e : Estimate} → TypedEstimate e → Places e
places t = record { six = t.state-length; four-marks = t.marks-length; four = t.values_length }

-- a box of a group of at most nine has a byte's number; where there is no best estimate the box is 0
box-byte : (N : ℕ) (b : Best) → N ≤ 9 → (b ≡ no_best) ⊎ BestOf N b → b.box_number < 256
box-byte N b few (inl none) = let e : b.box_number ≡ 0 = ap (λ (t : Best). t.box_number) none in omega arith
box-byte N b few (inr of) =
    let l = leb-true b.box_number N (both (leb 1 b.box_number) _ of.box).1 in omega arith

module _ (N n m : ℕ) (h : Held) (few : N ≤ 9) (low : 1 ≤ m) (high : m ≤ 4) (o : HeldInOrder N n m h) where
  held-typed : TypedHeld h
  held-typed =
      let b = bases-facts h o.bases in
      let view = o.view in
      let period = o.period in record {
        period = period;
        view = view;
        base-view = omega (arith, b.view);
        base-period = omega (arith, b.period);
        heard = o.ten;
        estimate = o.estimate.typed;
        carried = whole-record n m h.estimate (places o.estimate.typed) high o.estimate.whole;
        box-number = box-byte N h.best few o.best;
        best-base-view = omega (arith, b.best-view);
        best-base-period = omega (arith, b.best-period);
        best-estimate = o.best_estimate.typed;
        best-carried = whole-record n m h.best.estimate (places o.best_estimate.typed) high o.best_estimate.whole;
      }

  clean-below : (e : Estimate) → CarriedWhole n m e → marks_below m (marks_byte e.readings) ≡ true
  clean-below e w = byte-below m e.readings w.typed.marks-length (whole-clean n m e high w.whole).marks low high

  -- ---- with the settings' bytes before it

  module _ (before : List ℕ) (start : length before ≡ settings_length) where
    best-holds : (h.best ≡ no_best) ⊎ BestOf N h.best → best_ok N h.best (before ++ held_bytes h) ≡ true
    unfolding best_ok
    best-holds (inl none) =
        pick-false h.best.any _ _ (ap (λ (t : Best). t.any) none) ∙ no-best-zero h before start held-typed none
    best-holds (inr of) = pick_true h.best.any _ _ of.any ∙ of.box

    held-hold : HeldFacts N n m h (before ++ held_bytes h)
    held-hold =
        let own = whole-clean n m h.estimate high o.estimate.whole in
        let other = whole-clean n m h.best.estimate high o.best_estimate.whole in record {
          mean = bytes-mean h before start held-typed;
          marks = ap (marks_below m) (marks-548 h before start held-typed) ∙ clean-below h.estimate o.estimate;
          best-marks = ap (marks_below m) (marks-599 h before start held-typed) ∙ clean-below h.best.estimate o.best_estimate;
          heard = o.heard;
          bases = o.bases;
          states = own.states;
          values = own.values;
          best-states = other.states;
          best-values = other.values;
          best = best-holds o.best;
        }

-- ---- both parts

module _ (r : Replica) (o : InOrder r) where
  abbrev s : Settings
  s = r.settings

  abbrev h : Held
  h = r.held

  abbrev whole : List ℕ
  whole = settings_bytes s ++ held_bytes h

  few : s.boxes ≤ 9
  few = (accepted s o.stands).group.N9

  sizes : Sizes s.law.n s.law.m s.law.p
  sizes = sizes-accepted s.law (accepted s o.stands).law

  start : length (settings_bytes s) ≡ settings_length
  start = length-settings_bytes s o.settings

  typed : TypedHeld h
  typed = held-typed s.boxes s.law.n s.law.m h few sizes.m1 sizes.m4 o.held

  few-to-decide : s.quorums.to_decide < 16
  few-to-decide = let a = (stand _ _ (accepted s o.stands).quorums).a_n in omega (arith, few)

  whole-read : replica_in whole ≡ r
  unfolding replica_in
  whole-read =
      let settings = settings-read s (held_bytes h) o.settings few-to-decide in
      let held = held-read h (settings_bytes s) start typed in
      λ i. record { settings = settings i; held = held i }

  whole-holds : RecordFacts r whole
  whole-holds =
      let l = layout-read s (held_bytes h) in record {
        layout = record { long = length_whole h (settings_bytes s) start typed; byte-0 = l.0; byte-1 = l.1 };
        stands = o.stands;
        held = held-hold s.boxes s.law.n s.law.m h few sizes.m1 sizes.m4 o.held (settings_bytes s) start;
      }

  -- the facts of a record hold of the bytes of a replica in order
  pub forth-facts : RecordFacts r (record_bytes r)
  forth-facts = subst (RecordFacts r) (sym (recorded-whole r o)) whole-holds

  -- and reading them gives the replica
  pub forth : replica_in (record_bytes r) ≡ r
  forth = ap replica_in (recorded-whole r o) ∙ whole-read

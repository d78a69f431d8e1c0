-- What is read of a record is in order, so that it is recorded as it is. Assumes nothing.
use mathlib.Core.Path.{◌≡◌, refl, sym, ap, ◌∙◌, subst}
use mathlib.Core.Bool.{Bool, true, false}
use mathlib.Core.List.{List, ◌++◌}
use mathlib.Core.Logic.{◌⊎◌, inl, inr}
use Prim.Native.Nat.{ℕ, zero, suc, ◌+◌, ◌*◌, ◌≤◌, ◌<◌}
use native.Mathlib.Omega.{arith}
use native.Mathlib.Nat.{add-zero}
use lib.ListN.{length, drop, get_or, length-drop, take-append-drop}
use lib.Seq.{get_or-take, get_or-drop}
use lib.IntN.{ℤ, pos}
use lib.Dec.{lit<}
use mir.Syntax.{w32}
use mir.Val.{SFits}
use mir.ValLaws.{to_z-Fits}
use Rattle.lists.specs.I32.{AllI32}
use Rattle.lists.specs.Places.{filled}
use Rattle.lists.proofs.Choice.{pick_true, pick-false}
use Rattle.lists.proofs.Places.{filled-length, blank-at}
use Rattle.readings.specs.Readings.{mark_beyond}
use Rattle.octets.specs.Words.{AllBytes, part, number_at, value_at}
use Rattle.octets.proofs.Numbers.{bytes_drop, bytes-part, length_part, number_lt}
use Rattle.octets.proofs.TwosComplement.{as-to_z}
use Rattle.law.proofs.Accepted.{Sizes}
use Rattle.law.proofs.Laws.{sizes-accepted}
use Rattle.estimate.specs.Fields.{TypedEstimate}
use Rattle.estimate.specs.Marks.{marks_in, marks_below}
use Rattle.estimate.specs.Reading.{state_in, readings_in, state_part, readings_part, estimate_at}
use Rattle.estimate.proofs.PresentMarks.{below-clean, below-sixteen}
use Rattle.replica.proofs.Accepted.{accepted}
use Rattle.records.specs.Lengths.{settings_length, record_length}
use Rattle.records.specs.SettingsPart.{values_at, law_in, settings_in}
use Rattle.records.specs.HeldPart.{held_bytes, mark_at, heard_at, best_at, held_at}
use Rattle.records.specs.Recording.{no_best, record_bytes}
use Rattle.records.specs.Reading.{states_ok, values_ok, best_ok, is_record, replica_in}
use Rattle.records.specs.InOrder.{TypedSettings, CarriedWhole, BestOf, HeldInOrder, InOrder}
use Rattle.records.proofs.SettingsLaws.{settings-written}
use Rattle.records.proofs.HeldLaws.{held-written}
use Rattle.records.proofs.Carried.{clean-whole}
use Rattle.records.proofs.Facts.{HeldFacts, RecordFacts, record-facts}
use Rattle.records.proofs.NoBest.{no-best}
use Rattle.records.proofs.Forth.{places, recorded-whole}

-- ---- values that are read are i32

zero-fits : SFits w32 (pos 0)
zero-fits = record { sfits = lit< tt }

filled-fits : (width n : ℕ) (f : ℕ → ℤ) → ((i : ℕ) → i < n → i < width → SFits w32 (f i)) → AllI32 (filled (pos 0) width n f)
unfolding filled
filled-fits zero n f h j = zero-fits
filled-fits (suc width) zero f h j = subst (SFits w32) (sym (blank-at (pos 0) (suc width) j)) zero-fits
filled-fits (suc width) (suc n) f h zero = h 0 (omega arith) (omega arith)
filled-fits (suc width) (suc n) f h (suc j) = filled-fits width n (λ k. f (suc k)) (λ i l w. h (suc i) (omega arith) (omega arith)) j

value-fits : (p : List ℕ) (i : ℕ) → AllBytes p → 4 * i + 4 ≤ length p → SFits w32 (value_at p i)
unfolding value_at
value-fits p i h room =
    let x : ℕ = number_at 4 p (4 * i) in
    subst (SFits w32) (sym (as-to_z x)) (to_z-Fits w32 x (record { fits = number_lt p (4 * i) 4 h room }))

-- as many as there are bytes for
all_fit : (p : List ℕ) (k : ℕ) → AllBytes p → length p ≡ 4 * k → (width : ℕ) → AllI32 (filled (pos 0) width k (value_at p))
all_fit p k h e width = filled-fits width k (value_at p) (λ i l w. value-fits p i h (omega arith))

-- ---- the settings

module _ (b : List ℕ) (bytes : AllBytes b) (long : length b ≡ record_length) where
  values-fit : (at count : ℕ) → at + 4 * count ≤ record_length → AllI32 (values_at b at count)
  unfolding values_at
  values-fit at count room =
      all_fit (part b at (4 * count)) count (bytes-part at (4 * count) b bytes) (length_part b at (4 * count) (omega (arith, long))) count

  values_length : (at count : ℕ) → length (values_at b at count) ≡ count
  unfolding values_at
  values_length at count = filled-length (pos 0) count count (value_at (part b at (4 * count)))

  settings-typed : TypedSettings (settings_in b)
  unfolding settings_in law_in
  settings-typed = record {
    a-length = values_length 8 36;
    l-length = values_length 152 24;
    c-length = values_length 248 24;
    k-length = values_length 344 24;
    low-length = values_length 440 4;
    high-length = values_length 456 4;
    start-length = values_length 472 6;
    a = values-fit 8 36 (omega arith);
    l = values-fit 152 24 (omega arith);
    c = values-fit 248 24 (omega arith);
    k = values-fit 344 24 (omega arith);
    low = values-fit 440 4 (omega arith);
    high = values-fit 456 4 (omega arith);
    start = values-fit 472 6 (omega arith);
  }

  -- ---- an estimate

  estimate-typed : (at : ℕ) → at + 41 ≤ record_length → TypedEstimate (estimate_at 6 4 b at)
  unfolding estimate_at state_in readings_in marks_in
  estimate-typed at room =
      let p : List ℕ = readings_part 6 4 b at in
      let long-p : length p ≡ 17 = length_part b (at + 24) 17 (omega (arith, long)) in record {
        state-length = filled-length (pos 0) 6 6 _;
        state = all_fit (state_part 6 b at) 6 (bytes-part at 24 b bytes) (length_part b at 24 (omega (arith, long))) 6;
        marks-length = refl;
        values_length = filled-length (pos 0) 4 4 _;
        values = all_fit (drop 1 p) 4 (bytes_drop 1 p (bytes-part (at + 24) 17 b bytes)) (simp length-drop (omega (arith, long-p))) 4;
      }

  estimate-clean : (m at : ℕ) → 1 ≤ m → m ≤ 4 → marks_below m (get_or b (at + 24) 0) ≡ true → mark_beyond m (estimate_at 6 4 b at).readings ≡ false
  unfolding estimate_at readings_in
  estimate-clean m at low high e =
      let here : get_or (readings_part 6 4 b at) 0 0 ≡ get_or b (at + 24) 0 =
      get_or-take 17 (drop (at + 24) b) 0 0 (omega arith) ∙ get_or-drop (at + 24) b 0 0 ∙ rw add-zero in
      below-clean m (get_or (readings_part 6 4 b at) 0 0) _ low high (ap (marks_below m) here ∙ e)

  estimate-whole : (n m at : ℕ) → at + 41 ≤ record_length → 1 ≤ m → m ≤ 4 → marks_below m (get_or b (at + 24) 0) ≡ true
      → states_ok n (estimate_at 6 4 b at).state ≡ true → values_ok (estimate_at 6 4 b at) ≡ true → CarriedWhole n m (estimate_at 6 4 b at)
  estimate-whole n m at room low high marks states values =
      let t = estimate-typed at room in record {
        typed = t;
        whole =
            clean-whole n m (estimate_at 6 4 b at) (places t)
            (record { states = states; marks = estimate-clean m at low high marks; values = values });
      }

  -- ---- what is held

  module _ (N n m : ℕ) (low : 1 ≤ m) (high : m ≤ 4) (f : HeldFacts N n m (held_at b settings_length) b) where
    best-by : (t : Bool) → (best_at b 565).any ≡ t → best_ok N (best_at b 565) b ≡ true → (best_at b 565 ≡ no_best) ⊎ BestOf N (best_at b 565)
    unfolding best_ok best_at
    best-by true any e = inr (record { any = any; box = sym (pick_true (mark_at b 565) _ _ any) ∙ e })
    best-by false any e = inl (no-best b long (sym (pick-false (mark_at b 565) _ _ any) ∙ e) any)

    held-in-order : HeldInOrder N n m (held_at b settings_length)
    unfolding held_at best_at heard_at
    held-in-order = record {
      period = number_lt b 496 4 bytes (omega (arith, long));
      view = number_lt b 500 4 bytes (omega (arith, long));
      ten = filled-length false 10 10 _;
      heard = f.heard;
      bases = f.bases;
      estimate = estimate-whole n m 524 (omega arith) low high f.marks f.states f.values;
      best_estimate = estimate-whole n m 575 (omega arith) low high f.best-marks f.best-states f.best-values;
      best = best-by (mark_at b 565) refl f.best;
    }

    held_back : held_bytes (held_at b settings_length) ≡ drop settings_length b
    held_back =
        held-written b bytes long f.mean (below-sixteen m (get_or b 548 0) high f.marks) (below-sixteen m (get_or b 599 0) high f.best-marks)
        f.values f.best-values

-- ---- both parts

module _ (b : List ℕ) (bytes : AllBytes b) (e : is_record b ≡ true) where
  facts : RecordFacts (replica_in b) b
  facts = record-facts b e

  sizes : Sizes (replica_in b).settings.law.n (replica_in b).settings.law.m (replica_in b).settings.law.p
  sizes = sizes-accepted (replica_in b).settings.law (accepted (replica_in b).settings facts.stands).law

  -- the replica that is read is in order
  pub back-in-order : InOrder (replica_in b)
  unfolding replica_in
  back-in-order = record {
    settings = settings-typed b bytes facts.layout.long;
    stands = facts.stands;
    held = held-in-order b bytes facts.layout.long _ _ _ sizes.m1 sizes.m4 facts.held;
  }

  -- and its record is the very bytes
  pub back : record_bytes (replica_in b) ≡ b
  unfolding replica_in
  back =
      let l = facts.layout in
      let settings = settings-written b bytes l.long l.byte-0 l.byte-1 in
      let held = held_back b bytes l.long _ _ _ sizes.m1 sizes.m4 facts.held in
      recorded-whole (replica_in b) back-in-order ∙ (λ i. settings i ++ held i) ∙ take-append-drop settings_length b

-- Readings that are taken one by one: the next mark, the next value, and what all of them tell of their part. Assumes nothing.
use mathlib.Core.Path.{◌≡◌, refl}
use mathlib.Core.Bool.{Bool, true, false, ◌||◌}
use mathlib.Core.List.{List}
use Prim.Native.Nat.{ℕ, zero, suc, ◌+◌, ◌*◌, ◌/◌, ◌%◌, ◌≤◌, ◌<◌}
use native.Mathlib.Omega.{arith}
use native.Mathlib.Numerals.{add-one}
use lib.ListN.{length, get_or, drop}
use lib.Seq.{drop-drop}
use lib.IntN.{pos}
use lib.Dec.{eqb}
use Rattle.lists.specs.Places.{entry, filled}
use Rattle.lists.specs.Below.{all_below}
use Rattle.lists.proofs.Booleans.{second-fails}
use Rattle.lists.proofs.Places.{filled_at}
use Rattle.lists.proofs.Below.{one-fails}
use Rattle.readings.specs.Readings.{present}
use Rattle.octets.specs.Words.{number_at, from_twos_complement, value_at}
use Rattle.estimate.specs.Marks.{marks_in, marks_below, is_zero, absent_zero}
use Rattle.estimate.specs.Reading.{marks_at, readings_in, readings_ok}
use Rattle.estimate.proofs.PresentMarks.{marks-below, below-clean}

-- ---- the next reading

-- what is left of a byte of marks after j of them were taken, the lowest first
unfoldable pub left : ℕ → ℕ → ℕ
left zero k = k
left (suc j) k = left j k / 2

pub left-more : (j k : ℕ) → left j k / 2 ≡ left (j + 1) k
unfolding left
left-more j k = rw add-one

pub next-mark : (j k : ℕ) → j < 4 → eqb (left j k % 2) 1 ≡ get_or (marks_in k) j false
unfolding left marks_in
next-mark zero k l = refl
next-mark (suc zero) k l = refl
next-mark (suc (suc zero)) k l = let e : k / 2 / 2 ≡ k / 4 = omega arith in rw e
next-mark (suc (suc (suc zero))) k l = let e : k / 2 / 2 / 2 ≡ k / 8 = omega arith in rw e
next-mark (suc (suc (suc (suc j)))) k l = absurd (omega arith)

pub next-value : (p : List ℕ) (j : ℕ) → from_twos_complement (number_at 4 p (1 + 4 * j)) ≡ value_at (drop 1 p) j
unfolding value_at number_at
next-value p j = rw (drop-drop (4 * j) 1 p)

-- ---- what all of them tell

module _ (m : ℕ) (p : List ℕ) where
  -- the test of reading j: "0 where absent"
  abbrev pub stands : ℕ → Bool
  stands j = present (readings_in m p) j || is_zero (entry (readings_in m p).values j)

  pub next-stands : (j : ℕ) → j < m → m ≤ 4 → stands j ≡ get_or (marks_in (marks_at p)) j false || is_zero (value_at (drop 1 p) j)
  unfolding readings_in
  next-stands j l high = rw (filled_at (pos 0) 4 m j (value_at (drop 1 p)) l (omega arith))

  pub mark-above : marks_below m (marks_at p) ≡ false → readings_ok m p ≡ false
  unfolding readings_ok
  mark-above h = rw h

  pub value-under-absent : (j : ℕ) → j < m → stands j ≡ false → readings_ok m p ≡ false
  unfolding readings_ok absent_zero
  value-under-absent j l h = second-fails (marks_below m (marks_at p)) _ (one-fails stands m j l h)

  four-marks : length (readings_in m p).present ≡ 4
  unfolding readings_in marks_in
  four-marks = refl

  module _ (below : marks_below m (marks_at p) ≡ true) where
    pub all-stand : all_below m stands ≡ true → readings_ok m p ≡ true
    unfolding readings_ok absent_zero
    all-stand h = rw (below, h)

    -- marks below m are all that there are
    pub all-marks : 1 ≤ m → m ≤ 4 → filled false 4 m (λ j. get_or (marks_in (marks_at p)) j false) ≡ (readings_in m p).present
    unfolding readings_in
    all-marks low high =
        marks-below m (readings_in m p) four-marks (below-clean m (marks_at p) (filled (pos 0) 4 m (value_at (drop 1 p))) low high below)

  pub all-values : filled (pos 0) 4 m (value_at (drop 1 p)) ≡ (readings_in m p).values
  unfolding readings_in
  all-values = refl

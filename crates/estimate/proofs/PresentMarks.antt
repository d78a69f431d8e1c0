-- Laws of present marks: the byte and the four marks give each other, marks at or above m, and values under absent marks. Assumes nothing.
use mathlib.Core.Path.{◌≡◌, refl, sym, ap, ◌∙◌}
use mathlib.Core.Bool.{Bool, true, false, ◌||◌}
use mathlib.Core.List.{List, [], ◌∷◌}
use Prim.Native.Nat.{ℕ, zero, suc, ◌+◌, ◌*◌, ◌/◌, ◌%◌, ◌^◌, ◌-◌, ◌≤◌, ◌<◌}
use native.Mathlib.Omega.{arith}
use lib.ListN.{length, get_or, drop, replicate}
use lib.IntN.{ℤ, pos, negsuc}
use lib.Dec.{eqb}
use borrow.Author.Tests.{eq-eqb, ne_eqb, eqb-true, eqb-false, ltb-true, lt-ltb}
use mir.Syntax.{w32}
use mir.Val.{SFits, of_z, bool_byte}
use Rattle.readings.specs.declared.Readings.{Readings}
use Rattle.lists.specs.Choice.{pick}
use Rattle.lists.specs.Places.{entry, filled}
use Rattle.readings.specs.Readings.{present, value, normalised, any_mark, mark_beyond}
use Rattle.lists.proofs.Places.{filled_at, filled-beyond}
use Rattle.estimate.specs.Marks.{bit, marks_byte, marks_in, marks_below, is_zero, absent_zero}
use Rattle.lists.proofs.Booleans.{never}
use Rattle.lists.proofs.Below.{all_of, all-at}

-- ---- the byte and the marks

pub bit_le : (mark : Bool) → bit mark ≤ 1
unfolding pick
bit_le true = omega arith
bit_le false = omega arith

-- the library's bit of a mark
pub bit-is : (mark : Bool) → bool_byte mark ≡ bit mark
unfolding pick
bit-is true = refl
bit-is false = refl

mark_of : (mark : Bool) (x : ℕ) → x ≡ bit mark → eqb x 1 ≡ mark
unfolding pick
mark_of true x e = eq-eqb x 1 e
mark_of false x e = rw e

bit-by : (x : ℕ) (t : Bool) → eqb (x % 2) 1 ≡ t → bit t ≡ x % 2
unfolding pick
bit-by x true e = omega (arith, eqb-true (x % 2) 1 e)
bit-by x false e = let h = eqb-false (x % 2) 1 e in omega arith

bit-of-mark : (x : ℕ) → bit (eqb (x % 2) 1) ≡ x % 2
bit-of-mark x = bit-by x (eqb (x % 2) 1) refl

four : (marks : List Bool) → length marks ≡ 4
    → get_or marks 0 false ∷ get_or marks 1 false ∷ get_or marks 2 false ∷ get_or marks 3 false ∷ [] ≡ marks
four [] h = absurd (omega arith)
four (a ∷ []) h = absurd (omega arith)
four (a ∷ b ∷ []) h = absurd (omega arith)
four (a ∷ b ∷ c ∷ []) h = absurd (omega arith)
four (a ∷ b ∷ c ∷ d ∷ []) h = refl
four (a ∷ b ∷ c ∷ d ∷ x ∷ l) h = absurd (omega arith)

-- marks that were written are read again
pub marks-forth : (y : Readings) → length y.present ≡ 4 → marks_in (marks_byte y) ≡ y.present
unfolding marks_in marks_byte
marks-forth y h =
    let l₀ = bit_le (present y 0) in
    let l₁ = bit_le (present y 1) in
    let l₂ = bit_le (present y 2) in
    let l₃ = bit_le (present y 3) in
    let k : ℕ = bit (present y 0) + 2 * bit (present y 1) + 4 * bit (present y 2) + 8 * bit (present y 3) in
    let e₀ = mark_of (present y 0) (k % 2) (omega arith) in
    let e₁ = mark_of (present y 1) (k / 2 % 2) (omega arith) in
    let e₂ = mark_of (present y 2) (k / 4 % 2) (omega arith) in
    let e₃ = mark_of (present y 3) (k / 8 % 2) (omega arith) in
    (λ i. e₀ i ∷ e₁ i ∷ e₂ i ∷ e₃ i ∷ []) ∙ four y.present h

-- marks that were read are written again
pub marks-back : (k : ℕ) (values : List ℤ) → k < 16 → marks_byte (record { present = marks_in k; values = values }) ≡ k
unfolding marks_in marks_byte
marks-back k values h =
    let e₀ : k ≡ 2 * (k / 2) + k % 2 = omega arith in
    let e₁ : k / 2 ≡ 2 * (k / 4) + k / 2 % 2 = omega arith in
    let e₂ : k / 4 ≡ 2 * (k / 8) + k / 4 % 2 = omega arith in
    let e₃ : k / 8 ≡ k / 8 % 2 = omega arith in
    omega (arith, bit-of-mark k, bit-of-mark (k / 2), bit-of-mark (k / 4), bit-of-mark (k / 8))

-- ---- marks at or above m

no-marks : (l : List Bool) → any_mark l ≡ false → replicate (length l) false ≡ l
unfolding any_mark
no-marks [] h = refl
no-marks (true ∷ l) h = never (sym h)
no-marks (false ∷ l) h = ap (λ (t : List Bool). false ∷ t) (no-marks l h)

marks-in-use : (l : List Bool) (m : ℕ) → any_mark (drop m l) ≡ false → filled false (length l) m (λ j. get_or l j false) ≡ l
unfolding filled
marks-in-use [] m h = refl
marks-in-use (a ∷ l) zero h = no-marks (a ∷ l) h
marks-in-use (a ∷ l) (suc m) h = ap (λ (t : List Bool). a ∷ t) (marks-in-use l m h)

blanks-unmarked : (k : ℕ) → any_mark (replicate k false) ≡ false
unfolding any_mark
blanks-unmarked zero = refl
blanks-unmarked (suc k) = blanks-unmarked k

filled-unmarked : (width m : ℕ) (f : ℕ → Bool) → any_mark (drop m (filled false width m f)) ≡ false
unfolding filled
filled-unmarked zero zero f = blanks-unmarked 0
filled-unmarked zero (suc m) f = blanks-unmarked 0
filled-unmarked (suc width) zero f = blanks-unmarked (suc width)
filled-unmarked (suc width) (suc m) f = filled-unmarked width m (λ i. f (suc i))

module _ (m : ℕ) (y : Readings) (four-marks : length y.present ≡ 4) (clean : mark_beyond m y ≡ false) where
  -- the marks below m are all there are
  pub marks-below : filled false 4 m (present y) ≡ y.present
  unfolding mark_beyond
  marks-below = ap (λ (w : ℕ). filled false w m (present y)) (sym four-marks) ∙ marks-in-use y.present m clean

  unmarked : (j : ℕ) → m ≤ j → present y j ≡ false
  unmarked j l = ap (λ (marks : List Bool). get_or marks j false) (sym marks-below) ∙ filled-beyond false 4 m j (present y) l

-- the byte of such marks
byte-lt : (m : ℕ) (y : Readings) → length y.present ≡ 4 → mark_beyond m y ≡ false → 1 ≤ m → m ≤ 4 → marks_byte y < 2 ^ m
unfolding marks_byte pick
byte-lt zero y h s low high = absurd (omega arith)
byte-lt (suc zero) y h s low high =
    let none : (j : ℕ) → 1 ≤ j → bit (present y j) ≡ 0 = λ j l. ap bit (unmarked 1 y h s j l) in
    omega (arith, bit_le (present y 0), none 1 (omega arith), none 2 (omega arith), none 3 (omega arith))
byte-lt (suc (suc zero)) y h s low high =
    let none : (j : ℕ) → 2 ≤ j → bit (present y j) ≡ 0 = λ j l. ap bit (unmarked 2 y h s j l) in
    omega (arith, bit_le (present y 0), bit_le (present y 1), none 2 (omega arith), none 3 (omega arith))
byte-lt (suc (suc (suc zero))) y h s low high =
    let none : (j : ℕ) → 3 ≤ j → bit (present y j) ≡ 0 = λ j l. ap bit (unmarked 3 y h s j l) in
    omega (arith, bit_le (present y 0), bit_le (present y 1), bit_le (present y 2), none 3 (omega arith))
byte-lt (suc (suc (suc (suc zero)))) y h s low high =
    omega (arith, bit_le (present y 0), bit_le (present y 1), bit_le (present y 2), bit_le (present y 3))
byte-lt (suc (suc (suc (suc (suc m))))) y h s low high = absurd (omega arith)

pub byte-below : (m : ℕ) (y : Readings) → length y.present ≡ 4 → mark_beyond m y ≡ false → 1 ≤ m → m ≤ 4 → marks_below m (marks_byte y) ≡ true
unfolding marks_below
byte-below m y h s low high = lt-ltb (marks_byte y) (2 ^ m) (byte-lt m y h s low high)

bit-clear : (x : ℕ) → x ≡ 0 → eqb (x % 2) 1 ≡ false
bit-clear x e = rw e

-- and back
pub below-clean : (m k : ℕ) (values : List ℤ) → 1 ≤ m → m ≤ 4 → marks_below m k ≡ true → mark_beyond m (record { present = marks_in k; values = values }) ≡ false
unfolding marks_below mark_beyond marks_in any_mark
below-clean zero k values low high h = absurd (omega arith)
below-clean (suc zero) k values low high h =
    let l : k < 2 = ltb-true k 2 h in rw (bit-clear (k / 2) (omega arith), bit-clear (k / 4) (omega arith), bit-clear (k / 8) (omega arith))
below-clean (suc (suc zero)) k values low high h =
    let l : k < 4 = ltb-true k 4 h in rw (bit-clear (k / 4) (omega arith), bit-clear (k / 8) (omega arith))
below-clean (suc (suc (suc zero))) k values low high h =
    let l : k < 8 = ltb-true k 8 h in rw (bit-clear (k / 8) (omega arith))
below-clean (suc (suc (suc (suc zero)))) k values low high h = refl
below-clean (suc (suc (suc (suc (suc m))))) k values low high h = absurd (omega arith)

pub below-sixteen : (m k : ℕ) → m ≤ 4 → marks_below m k ≡ true → k < 16
unfolding marks_below
below-sixteen zero k high h = omega (arith, ltb-true k 1 h)
below-sixteen (suc zero) k high h = omega (arith, ltb-true k 2 h)
below-sixteen (suc (suc zero)) k high h = omega (arith, ltb-true k 4 h)
below-sixteen (suc (suc (suc zero))) k high h = omega (arith, ltb-true k 8 h)
below-sixteen (suc (suc (suc (suc zero)))) k high h = ltb-true k 16 h
below-sixteen (suc (suc (suc (suc (suc m))))) k high h = absurd (omega arith)

-- ---- values under absent marks

-- a value is 0 where its bits are
pub bits-zero : (z : ℤ) → SFits w32 z → eqb (of_z w32 z) 0 ≡ is_zero z
bits-zero (pos k) s = refl
bits-zero (negsuc k) s = let small : k < 2147483648 = s.sfits in ne_eqb (4294967296 - suc k) 0 (λ e. omega arith)

is-zero : (z : ℤ) → is_zero z ≡ true → pos 0 ≡ z
is-zero (pos k) e = ap pos (sym (eqb-true k 0 e))
is-zero (negsuc k) e = never e

as_read : (mark : Bool) (z : ℤ) → (mark || is_zero z) ≡ true → pick mark z (pos 0) ≡ z
unfolding pick
as_read true z e = refl
as_read false z e = is-zero z e

read-zero : (mark : Bool) (z : ℤ) → (mark || is_zero (pick mark z (pos 0))) ≡ true
unfolding pick
read-zero true z = refl
read-zero false z = refl

-- values that stand for themselves
pub value-as-given : (m : ℕ) (y : Readings) → absent_zero m y ≡ true → (j : ℕ) → j < m → value y j ≡ entry y.values j
unfolding absent_zero
value-as-given m y h j l = as_read (present y j) (entry y.values j) (all-at (λ j. present y j || is_zero (entry y.values j)) m j h l)

-- ---- readings as the law reads them

module _ (m : ℕ) (y : Readings) (m≤4 : m ≤ 4) where
  pub normalised-clean : mark_beyond m (normalised m y) ≡ false
  unfolding mark_beyond normalised
  normalised-clean = filled-unmarked 4 m (present y)

  pub normalised-absent : absent_zero m (normalised m y) ≡ true
  unfolding absent_zero normalised
  normalised-absent =
      all_of _ m
      (λ j l. rw (filled_at false 4 m j (present y) l (omega arith), filled_at (pos 0) 4 m j (value y) l (omega arith))
      (read-zero (present y j) (entry y.values j)))

-- Laws of estimates in a record: one that frames carry whole is one whose places that are not in use are 0, with values of 0 where absent. Assumes
-- nothing.
use mathlib.Core.Path.{◌≡◌, sym, ap, ◌∙◌}
use mathlib.Core.Bool.{true, false, ◌||◌}
use mathlib.Core.List.{List}
use Prim.Native.Nat.{ℕ, suc, ◌≤◌, ◌<◌}
use native.Mathlib.Omega.{arith}
use native.Mathlib.Decide.{dec_le}
use lib.ListN.{length, get_or}
use lib.Seq.{ext_get_or}
use lib.IntN.{ℤ, pos, negsuc}
use lib.Dec.{ltb}
use borrow.Author.Tests.{eqb-true, lt-ltb, le-ltb}
use Rattle.lists.specs.Places.{entry, filled}
use Rattle.lists.proofs.Booleans.{never, or-true}
use Rattle.lists.proofs.Below.{all_of, all-at}
use Rattle.lists.proofs.Choice.{pick-false}
use Rattle.lists.proofs.Parts.{drop-beyond}
use Rattle.lists.proofs.Places.{filled-length, filled_at, filled-beyond, filled-same}
use Rattle.readings.specs.declared.Readings.{Readings}
use Rattle.readings.specs.Readings.{present, value, normalised, any_mark, mark_beyond}
use Rattle.estimate.specs.declared.Estimate.{Estimate}
use Rattle.estimate.specs.Fields.{first_states, carried_estimate}
use Rattle.estimate.specs.Marks.{is_zero, absent_zero}
use Rattle.estimate.proofs.PresentMarks.{marks-below, value-as-given, normalised-clean, normalised-absent}
use Rattle.estimate.proofs.RoundTrip.{carried-whole}
use Rattle.records.specs.Reading.{states_ok, values_ok}

-- ---- a list whose places from n on are blank

-- its first n places are all there is of it
pub filled-kept : {A : Type 0} (blank : A) (width n : ℕ) (x : List A) → length x ≡ width → ((i : ℕ) → n ≤ i → i < width → get_or x i blank ≡ blank)
    → filled blank width n (λ i. get_or x i blank) ≡ x
filled-kept {A} blank width n x long blanks =
    ext_get_or blank _ x (filled-length blank width n _ ∙ sym long)
    (λ i l. at i (omega (arith, filled-length blank width n (λ i. get_or x i blank))) (dec_le (suc i) n))
  where
    at : (i : ℕ) → i < width → Dec (i < n) → get_or (filled blank width n (λ i. get_or x i blank)) i blank ≡ get_or x i blank
    at i l (yes h) = filled_at blank width n i (λ i. get_or x i blank) h l
    at i l (no h) =
        let m : n ≤ i = omega (arith, h) in filled-beyond blank width n i (λ i. get_or x i blank) m ∙ sym (blanks i m l)

-- ---- states

zero-value : (z : ℤ) → is_zero z ≡ true → z ≡ pos 0
zero-value (pos k) e = ap pos (eqb-true k 0 e)
zero-value (negsuc k) e = never e

-- a state with 0 in the places from n on is all that n states carry
pub states-whole : (n : ℕ) (x : List ℤ) → length x ≡ 6 → states_ok n x ≡ true → first_states n x ≡ x
unfolding states_ok
states-whole n x six e =
    filled-kept (pos 0) 6 n x six
    (λ i h l. zero-value (entry x i) (rw (le-ltb i n h) at (all-at (λ i. ltb i n || is_zero (entry x i)) 6 i e l)))

-- and back
pub states-ok : (n : ℕ) (x : List ℤ) → first_states n x ≡ x → states_ok n x ≡ true
unfolding states_ok
states-ok n x e = all_of (λ i. ltb i n || is_zero (entry x i)) 6 (λ i l. at i (dec_le (suc i) n))
  where
    at : (i : ℕ) → Dec (i < n) → (ltb i n || is_zero (entry x i)) ≡ true
    at i (yes h) = ap (λ t. t || is_zero (entry x i)) (lt-ltb i n h)
    at i (no h) =
        let zero : entry x i ≡ pos 0 = ap (λ (v : List ℤ). entry v i) (sym e) ∙ filled-beyond (pos 0) 6 n i (entry x) (omega (arith, h)) in
        ap (λ (z : ℤ). ltb i n || is_zero z) zero ∙ or-true (ltb i n)

-- six states are all in use
pub six-ok : (x : List ℤ) → states_ok 6 x ≡ true
unfolding states_ok
six-ok x = all_of (λ i. ltb i 6 || is_zero (entry x i)) 6 (λ i l. ap (λ t. t || is_zero (entry x i)) (lt-ltb i 6 l))

-- ---- readings

module _ (m : ℕ) (y : Readings) where
  -- readings with no mark from m on, and 0 where absent, are as the law reads them
  pub normalised-whole : length y.present ≡ 4 → length y.values ≡ 4 → mark_beyond m y ≡ false → absent_zero 4 y ≡ true → normalised m y ≡ y
  unfolding normalised
  normalised-whole four-marks four clean absent =
      let marks = marks-below m y four-marks clean in
      let given : (j : ℕ) → j < 4 → value y j ≡ entry y.values j = value-as-given 4 y absent in
      let unmarked : (j : ℕ) → m ≤ j → present y j ≡ false = λ j h. ap (λ l. get_or l j false) (sym marks) ∙ filled-beyond false 4 m j (present y) h in
      let values =
      filled-same (pos 0) 4 m (value y) (entry y.values) (λ j h l. given j l)
      ∙ filled-kept (pos 0) 4 m y.values four (λ j h l. sym (given j l) ∙ pick-false (present y j) _ _ (unmarked j h)) in
      λ i. record { present = marks i; values = values i }

  zero-in-use : m ≤ 4 → (j : ℕ) → j < m → (present (normalised m y) j || is_zero (entry (normalised m y).values j)) ≡ true
  unfolding absent_zero
  zero-in-use high j l = all-at (λ j. present (normalised m y) j || is_zero (entry (normalised m y).values j)) m j (normalised-absent m y high) l

  zero-beyond : (j : ℕ) → m ≤ j → entry (normalised m y).values j ≡ pos 0
  unfolding normalised
  zero-beyond j l = filled-beyond (pos 0) 4 m j (value y) l

  -- what the law reads is 0 where absent, in all four places
  pub normalised-zero : m ≤ 4 → absent_zero 4 (normalised m y) ≡ true
  unfolding absent_zero
  normalised-zero high =
      all_of (λ j. present (normalised m y) j || is_zero (entry (normalised m y).values j)) 4 (λ j l. at j (dec_le (suc j) m))
    where
      at : (j : ℕ) → Dec (j < m) → (present (normalised m y) j || is_zero (entry (normalised m y).values j)) ≡ true
      at j (yes h) = zero-in-use high j h
      at j (no h) =
          ap (λ (z : ℤ). present (normalised m y) j || is_zero z) (zero-beyond j (omega (arith, h))) ∙ or-true (present (normalised m y) j)

-- there are four marks
pub four-clean : (y : Readings) → length y.present ≡ 4 → mark_beyond 4 y ≡ false
unfolding mark_beyond any_mark
four-clean y four = ap any_mark (drop-beyond y.present 4 (omega arith))

-- ---- estimates

-- what is asked of an estimate in a record, of n states and m readings
pub record Clean (n m : ℕ) (e : Estimate) : Type 0 where
  pub states : states_ok n e.state ≡ true
  pub marks : mark_beyond m e.readings ≡ false
  pub values : values_ok e ≡ true

-- an estimate has as many places as its type says
pub record Places (e : Estimate) : Type 0 where
  pub six : length e.state ≡ 6
  pub four-marks : length e.readings.present ≡ 4
  pub four : length e.readings.values ≡ 4

module _ (n m : ℕ) (e : Estimate) where
  -- what is asked of it makes it one that frames carry whole
  pub clean-whole : Places e → Clean n m e → carried_estimate n m e ≡ e
  unfolding values_ok
  clean-whole p c =
      carried-whole n m e (states-whole n e.state p.six c.states)
      (normalised-whole m e.readings p.four-marks p.four c.marks c.values)

  -- and back
  pub whole-clean : m ≤ 4 → carried_estimate n m e ≡ e → Clean n m e
  unfolding carried_estimate values_ok
  whole-clean high w =
      let state : first_states n e.state ≡ e.state = ap (λ (t : Estimate). t.state) w in
      let readings : normalised m e.readings ≡ e.readings = ap (λ (t : Estimate). t.readings) w in record {
        states = states-ok n e.state state;
        marks = ap (mark_beyond m) (sym readings) ∙ normalised-clean m e.readings high;
        values = ap (absent_zero 4) (sym readings) ∙ normalised-zero m e.readings high;
      }

-- such an estimate stands whole in a record, which has six states and four readings
pub whole-record : (n m : ℕ) (e : Estimate) → Places e → m ≤ 4 → carried_estimate n m e ≡ e → carried_estimate 6 4 e ≡ e
whole-record n m e p high w =
    clean-whole 6 4 e p
    (record { states = six-ok e.state; marks = four-clean e.readings p.four-marks; values = (whole-clean n m e high w).values })

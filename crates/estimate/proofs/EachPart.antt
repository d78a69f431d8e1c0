-- Each part alone: what was written is read again, and what was read is written again. Assumes nothing.
use mathlib.Core.Path.{◌≡◌, refl, sym, ap, ◌∙◌}
use mathlib.Core.Bool.{true, false, not}
use mathlib.Core.List.{List, [], ◌∷◌}
use Prim.Native.Nat.{ℕ, ◌≤◌, ◌<◌}
use native.Mathlib.Omega.{arith}
use lib.ListN.{length, get_or, take, drop, length-drop}
use lib.Seq.{length-take-le, get_or-take}
use lib.IntN.{ℤ, pos}
use borrow.Author.Tests.{not-true}
use Rattle.lists.specs.Places.{entry}
use Rattle.lists.specs.I32.{AllI32}
use Rattle.lists.proofs.Booleans.{both}
use Rattle.lists.proofs.Places.{filled-same, take-filled}
use Rattle.readings.specs.declared.Readings.{Readings}
use Rattle.readings.specs.Readings.{value, normalised, mark_beyond}
use Rattle.octets.specs.Words.{AllBytes, values_bytes, value_at}
use Rattle.octets.proofs.Numbers.{bytes_drop}
use Rattle.octets.proofs.ValueLists.{value-forth, values-back}
use Rattle.estimate.specs.Fields.{first_states}
use Rattle.estimate.specs.Lengths.{state_length, readings_length}
use Rattle.estimate.specs.Marks.{marks_byte, marks_below, absent_zero}
use Rattle.estimate.specs.Format.{state_bytes, readings_bytes, writable}
use Rattle.estimate.specs.Reading.{state_in, marks_at, readings_in, readings_ok}
use Rattle.estimate.proofs.PresentMarks.{marks-forth, marks-back, marks-below, byte-below, below-sixteen, below-clean}
use Rattle.estimate.proofs.PresentMarks.{value-as-given, normalised-clean, normalised-absent}

-- ---- what it tells that readings can be written, or were read

pub record Writable (m : ℕ) (y : Readings) : Type 0 where
  pub clean : mark_beyond m y ≡ false
  pub absent : absent_zero m y ≡ true

pub writable-facts : (m : ℕ) (y : Readings) → writable m y ≡ true → Writable m y
unfolding writable
writable-facts m y e =
    let p = both (not (mark_beyond m y)) (absent_zero m y) e in record { clean = not-true _ p.0; absent = p.1 }

writable-holds : (m : ℕ) (y : Readings) → Writable m y → writable m y ≡ true
unfolding writable
writable-holds m y w = rw (w.clean, w.absent)

-- readings as the law reads them can be written
pub normalised-writable : (m : ℕ) (y : Readings) → m ≤ 4 → normalised m y ≡ y → writable m y ≡ true
normalised-writable m y h e =
    writable-holds m y
    (record { clean = ap (mark_beyond m) (sym e) ∙ normalised-clean m y h; absent = ap (absent_zero m) (sym e) ∙ normalised-absent m y h })

record Found (m : ℕ) (p : List ℕ) : Type 0 where
  marks : marks_below m (marks_at p) ≡ true
  absent : absent_zero m (readings_in m p) ≡ true

found : (m : ℕ) (p : List ℕ) → readings_ok m p ≡ true → Found m p
unfolding readings_ok
found m p e = let q = both (marks_below m (marks_at p)) _ e in record { marks = q.0; absent = q.1 }

-- ---- what was written is read again

pub values-forth : (k : ℕ) (vs : List ℤ) → k ≤ length vs → AllI32 vs → (j : ℕ) → j < k → value_at (values_bytes (take k vs)) j ≡ entry vs j
values-forth k vs h s j l =
    let same = get_or-take k vs j (pos 0) l in
    value-forth (take k vs) j (rw (length-take-le k vs h) l) (rw same (s j)) ∙ same

pub state-forth : (n : ℕ) (x : List ℤ) → n ≤ length x → AllI32 x → state_in n (state_bytes n x) ≡ first_states n x
unfolding state_in state_bytes
state-forth n x h s = filled-same (pos 0) 6 n _ _ (λ j l w. values-forth n x h s j l)

module _ (m : ℕ) (y : Readings) (four-marks : length y.present ≡ 4) (good : writable m y ≡ true) where
  pub readings-forth : m ≤ length y.values → AllI32 y.values → readings_in m (readings_bytes m y) ≡ normalised m y
  unfolding readings_in readings_bytes normalised
  readings-forth h s =
      let w = writable-facts m y good in
      let marks = marks-forth y four-marks ∙ sym (marks-below m y four-marks w.clean) in
      let values = filled-same (pos 0) 4 m (value_at (values_bytes (take m y.values))) (value y)
      (λ j l k. values-forth m y.values h s j l ∙ sym (value-as-given m y w.absent j l)) in
      λ i. record { present = marks i; values = values i }

  first_byte : marks_at (readings_bytes m y) ≡ marks_byte y
  unfolding readings_bytes
  first_byte = refl

  pub readings-good : m ≤ length y.values → AllI32 y.values → 1 ≤ m → m ≤ 4 → readings_ok m (readings_bytes m y) ≡ true
  unfolding readings_ok
  readings-good h s low high =
      rw (first_byte, readings-forth h s, byte-below m y four-marks (writable-facts m y good).clean low high) (normalised-absent m y high)

-- ---- what was read is written again

pub state-back : (n : ℕ) (p : List ℕ) → n ≤ 6 → AllBytes p → length p ≡ state_length n → state_bytes n (state_in n p) ≡ p
unfolding state_in state_bytes
state-back n p hn h e = rw (take-filled (pos 0) 6 n (value_at p) hn) (values-back n p h e)

cons-back : (p : List ℕ) → 1 ≤ length p → get_or p 0 0 ∷ drop 1 p ≡ p
cons-back [] h = absurd (omega arith)
cons-back (x ∷ p) h = refl

module _ (m : ℕ) (p : List ℕ) (high : m ≤ 4) (good : readings_ok m p ≡ true) where
  marks-part : marks_byte (readings_in m p) ≡ marks_at p
  unfolding readings_in
  marks-part = marks-back (marks_at p) _ (below-sixteen m (marks_at p) high (found m p good).marks)

  values-part : AllBytes p → length p ≡ readings_length m → values_bytes (take m (readings_in m p).values) ≡ drop 1 p
  unfolding readings_in
  values-part h e =
      rw (take-filled (pos 0) 4 m (value_at (drop 1 p)) high) (values-back m (drop 1 p) (bytes_drop 1 p h) (simp length-drop (omega arith)))

  pub readings-back : AllBytes p → length p ≡ readings_length m → readings_bytes m (readings_in m p) ≡ p
  unfolding readings_bytes
  readings-back h e = (λ i. marks-part i ∷ values-part h e i) ∙ cons-back p (omega arith)

  clean_back : 1 ≤ m → mark_beyond m (readings_in m p) ≡ false
  unfolding readings_in
  clean_back low = below-clean m (marks_at p) _ low high (found m p good).marks

  pub readings-writable : 1 ≤ m → writable m (readings_in m p) ≡ true
  readings-writable low = writable-holds m (readings_in m p) (record { clean = clean_back low; absent = (found m p good).absent })

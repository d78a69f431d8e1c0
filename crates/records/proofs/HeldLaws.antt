-- Laws of the part of what is held: what stands in it, and both ways of the round trip. Assumes nothing.
use mathlib.Core.Path.{◌≡◌, refl, sym, ap, ◌∙◌}
use mathlib.Core.Bool.{Bool, true, false}
use mathlib.Core.List.{List, [], ◌∷◌, ◌++◌, append_assoc, append-nil, map}
use Prim.Native.Nat.{ℕ, suc, ◌+◌, ◌≤◌, ◌<◌}
use native.Mathlib.Omega.{arith}
use native.Mathlib.Nat.{add-zero}
use lib.ListN.{length, take, drop, get_or, replicate, length-append, length-drop, get_or-append}
use lib.Seq.{drop_at, take_at, take_all, take-add, drop-drop, get_or-take, get_or-drop, get_or_at}
use lib.Dec.{eqb, leb}
use borrow.Author.Tests.{leb-true, le-leb, eq-eqb, lt-ltb}
use Rattle.lists.specs.Below.{all_below}
use Rattle.lists.specs.Choice.{pick}
use Rattle.lists.specs.Places.{filled}
use Rattle.lists.proofs.Booleans.{both}
use Rattle.lists.proofs.Below.{all_of, all-at}
use Rattle.lists.proofs.Places.{blank-at}
use Rattle.octets.specs.Words.{AllBytes, little_endian, spelled, part, number_at, twos_complement, values_bytes}
use Rattle.octets.proofs.Numbers.{spelled-little_endian, number-back}
use Rattle.estimate.specs.declared.Estimate.{Estimate}
use Rattle.estimate.specs.Fields.{TypedEstimate, carried_estimate}
use Rattle.estimate.specs.Marks.{bit, marks_byte, marks_below}
use Rattle.estimate.specs.Format.{state_bytes, readings_bytes, estimate_bytes, writable}
use Rattle.estimate.specs.Reading.{readings_ok, readings_part, estimate_at, estimate_ok}
use Rattle.estimate.proofs.Lengths.{length-state}
use Rattle.estimate.proofs.PresentMarks.{bit_le}
use Rattle.estimate.proofs.EachPart.{normalised-writable}
use Rattle.estimate.proofs.RoundTrip.{estimate-read, estimate-written}
use Rattle.replica.specs.declared.Held.{Held}
use Rattle.records.specs.Lengths.{settings_length, record_length}
use Rattle.records.specs.HeldPart.{heard_bytes, best_bytes, held_bytes, mark_at, heard_at, best_at, held_at}
use Rattle.records.specs.Recording.{no_best}
use Rattle.records.specs.Reading.{values_ok, bytes_mean, zero_at}
use Rattle.records.proofs.PartLengths.{FullEstimate, full, length-own, length-held}
use Rattle.records.proofs.Heard.{length-heard, mark-forth, bit_at, marks-read, bit-back, marks-written}

-- what the types of the fields say, and estimates as frames of six states and four readings carry them
pub record TypedHeld (h : Held) : Type 0 where
  pub period : h.period < 4294967296
  pub view : h.view < 4294967296
  pub base-view : h.base_view < 4294967296
  pub base-period : h.base_period < 4294967296
  pub heard : length h.heard ≡ 10
  pub estimate : TypedEstimate h.estimate
  pub carried : carried_estimate 6 4 h.estimate ≡ h.estimate
  pub box-number : h.best.box_number < 256
  pub best-base-view : h.best.base_view < 4294967296
  pub best-base-period : h.best.base_period < 4294967296
  pub best-estimate : TypedEstimate h.best.estimate
  pub best-carried : carried_estimate 6 4 h.best.estimate ≡ h.best.estimate

-- ---- what stands at an offset, by what stands after one that is not above it

byte-after : (w x : List ℕ) (s i : ℕ) → drop s w ≡ x → get_or w (s + i) 0 ≡ get_or x i 0
byte-after w x s i e = sym (get_or-drop s w i 0) ∙ ap (λ (t : List ℕ). get_or t i 0) e

number-after : (w x : List ℕ) (s i v : ℕ) → drop s w ≡ x → part x i 4 ≡ little_endian 4 v → v < 4294967296 → number_at 4 w (s + i) ≡ v
unfolding number_at
number-after w x s i v e p h =
    ap (λ (t : List ℕ). spelled (take 4 t)) (sym (drop-drop i s w) ∙ ap (drop i) e) ∙ ap spelled p ∙ spelled-little_endian 4 v h

-- ---- an estimate among other bytes

carried-writable : (e : Estimate) → carried_estimate 6 4 e ≡ e → writable 4 e.readings ≡ true
unfolding carried_estimate
carried-writable e c = normalised-writable 4 e.readings (omega arith) (ap (λ (t : Estimate). t.readings) c)

estimate-after : (w r : List ℕ) (s : ℕ) (e : Estimate) → TypedEstimate e → carried_estimate 6 4 e ≡ e → s + 41 ≤ length w → drop s w ≡ estimate_bytes 6 4 e ++ r
    → estimate_at 6 4 w s ≡ e
estimate-after w r s e t c room there =
    estimate-read 6 4 e t (omega arith) (omega arith) (carried-writable e c) w s room
    (ap (take 41) there ∙ take_at (estimate_bytes 6 4 e) r 41 (length-own e (full t))) ∙ c

-- its byte of marks
estimate-marks : (e : Estimate) (r : List ℕ) → FullEstimate e → get_or (estimate_bytes 6 4 e ++ r) 24 0 ≡ marks_byte e.readings
unfolding estimate_bytes readings_bytes
estimate-marks e r z =
    get_or-append (estimate_bytes 6 4 e) r 0 24 (omega (arith, length-own e z))
    ∙ get_or_at (state_bytes 6 e.state) _ _ 0 24 (length-state 6 e.state (omega (arith, z.six)))

-- no best estimate is 0 in every byte
none-zero : best_bytes no_best ≡ replicate 51 0
unfolding best_bytes estimate_bytes state_bytes readings_bytes values_bytes marks_byte little_endian twos_complement pick
none-zero = refl

-- ---- bytes that have the part after the settings'

module _ (h : Held) (before : List ℕ) (start : length before ≡ settings_length) (t : TypedHeld h) where
  abbrev own : List ℕ
  own = estimate_bytes 6 4 h.estimate

  abbrev best : List ℕ
  best = best_bytes h.best

  abbrev whole : List ℕ
  whole = before ++ held_bytes h

  abbrev marks : List Bool
  marks = h.view_change ∷ h.decided ∷ h.heard

  -- with the settings' part they are as long as a record
  pub length_whole : length (before ++ held_bytes h) ≡ record_length
  length_whole = length-append before (held_bytes h) ∙ omega (arith, start, length-held h t.heard (full t.estimate) (full t.best-estimate))

  from-496 : drop 496 whole ≡ held_bytes h
  from-496 = drop_at before (held_bytes h) 496 start

  -- mode, decided and the boxes heard: the marks with a byte of their own
  from-512 : drop 512 whole ≡ map bit marks ++ (own ++ best)
  unfolding held_bytes little_endian
  from-512 = sym (drop-drop 16 496 whole) ∙ ap (drop 16) from-496 ∙ append_assoc (map bit marks) own best

  from-524 : drop 524 whole ≡ own ++ best
  from-524 = sym (drop-drop 12 512 whole) ∙ ap (drop 12) from-512 ∙ drop_at (map bit marks) (own ++ best) 12 (omega (arith, length-heard h.heard t.heard))

  from-565 : drop 565 whole ≡ best
  from-565 = sym (drop-drop 41 524 whole) ∙ ap (drop 41) from-524 ∙ drop_at own best 41 (length-own h.estimate (full t.estimate))

  from-575 : drop 575 whole ≡ estimate_bytes 6 4 h.best.estimate
  unfolding best_bytes little_endian
  from-575 = sym (drop-drop 10 565 whole) ∙ ap (drop 10) from-565

  -- ---- single bytes

  mark-byte : (j : ℕ) → j < 12 → get_or whole (512 + j) 0 ≡ bit (get_or marks j false)
  mark-byte j l =
      byte-after whole (map bit marks ++ (own ++ best)) 512 j from-512
      ∙ get_or-append (map bit marks) (own ++ best) 0 j (omega (arith, length-heard h.heard t.heard))
      ∙ bit_at marks j

  any-byte : get_or whole 565 0 ≡ bit h.best.any
  unfolding best_bytes
  any-byte = byte-after whole best 565 0 from-565

  -- no mode or mark of no meaning is written
  pub bytes-mean : bytes_mean (before ++ held_bytes h) ≡ true
  unfolding bytes_mean
  bytes-mean =
      rw (
        all_of (λ i. leb (get_or whole (512 + i) 0) 1) 12 (λ j l. le-leb (get_or whole (512 + j) 0) 1 (rw (mark-byte j l) (bit_le (get_or marks j false)))),
        any-byte,
        le-leb (bit h.best.any) 1 (bit_le h.best.any),
      )

  -- the byte of the estimate's present marks
  pub marks-548 : get_or (before ++ held_bytes h) 548 0 ≡ marks_byte h.estimate.readings
  marks-548 = byte-after whole (own ++ best) 524 24 from-524 ∙ estimate-marks h.estimate best (full t.estimate)

  -- the byte of the best estimate's
  pub marks-599 : get_or (before ++ held_bytes h) 599 0 ≡ marks_byte h.best.estimate.readings
  marks-599 =
      byte-after whole (estimate_bytes 6 4 h.best.estimate ++ []) 575 24 (from-575 ∙ sym (append-nil _))
      ∙ estimate-marks h.best.estimate [] (full t.best-estimate)

  -- where there is no best estimate, all that a record has of one is 0
  pub no-best-zero : h.best ≡ no_best → zero_at (before ++ held_bytes h) 566 50 ≡ true
  unfolding zero_at
  no-best-zero none =
      all_of (λ i. eqb (get_or whole (566 + i) 0) 0) 50
      (λ i l. eq-eqb _ 0
      (ap (λ (k : ℕ). get_or whole k 0) (omega arith)
      ∙ byte-after whole (replicate 51 0) 565 (1 + i) (from-565 ∙ ap best_bytes none ∙ none-zero)
      ∙ blank-at 0 51 (1 + i)))

  -- ---- what is held is read again

  box-byte : get_or whole 566 0 ≡ h.best.box_number
  unfolding best_bytes
  box-byte = byte-after whole best 565 1 from-565

  best-read : best_at whole 565 ≡ h.best
  unfolding best_at best_bytes little_endian
  best-read =
      let any = ap (λ (x : ℕ). eqb x 1) any-byte ∙ mark-forth h.best.any in
      let view = number-after whole best 565 2 h.best.base_view from-565 refl t.best-base-view in
      let period = number-after whole best 565 6 h.best.base_period from-565 refl t.best-base-period in
      let estimate = estimate-after whole [] 575 h.best.estimate t.best-estimate t.best-carried (omega (arith, length_whole)) (from-575 ∙ sym (append-nil _)) in
      λ i. record { any = any i; box_number = box-byte i; base_view = view i; base_period = period i; estimate = estimate i }

  heard-read : heard_at whole 514 ≡ h.heard
  unfolding heard_at
  heard-read =
      marks-read whole 514 10 h.heard t.heard
      (λ j l. ap (λ (k : ℕ). get_or whole k 0) (omega arith) ∙ mark-byte (suc (suc j)) (omega arith))

  mark-read : (j : ℕ) → j < 12 → mark_at whole (512 + j) ≡ get_or marks j false
  mark-read j l = ap (λ (x : ℕ). eqb x 1) (mark-byte j l) ∙ mark-forth (get_or marks j false)

  -- (a) Reading what was written gives what is held.
  pub held-read : held_at (before ++ held_bytes h) settings_length ≡ h
  unfolding held_at held_bytes little_endian
  held-read =
      let period = number-after whole (held_bytes h) 496 0 h.period from-496 refl t.period in
      let view = number-after whole (held_bytes h) 496 4 h.view from-496 refl t.view in
      let base-view = number-after whole (held_bytes h) 496 8 h.base_view from-496 refl t.base-view in
      let base-period = number-after whole (held_bytes h) 496 12 h.base_period from-496 refl t.base-period in
      let estimate = estimate-after whole best 524 h.estimate t.estimate t.carried (omega (arith, length_whole)) from-524 in
      λ i. record {
        period = period i;
        view = view i;
        base_view = base-view i;
        view_change = mark-read 0 (omega arith) i;
        decided = mark-read 1 (omega arith) i;
        estimate = estimate i;
        base_period = base-period i;
        heard = heard-read i;
        best = best-read i;
      }

-- ---- what was read is written again

-- pieces side by side
beside : {a a' b b' : List ℕ} → a ≡ a' → b ≡ b' → a ++ b ≡ a' ++ b'
beside p q = λ i. p i ++ q i

grow : (c : List ℕ) (i k : ℕ) → take i c ++ part c i k ≡ take (i + k) c
grow c i k = sym (take-add i k c)

shift : (b : List ℕ) (s i k : ℕ) → part b (s + i) k ≡ part (drop s b) i k
shift b s i k = ap (take k) (sym (drop-drop i s b))

first_two : (l : List ℕ) → 2 ≤ length l → get_or l 0 0 ∷ get_or l 1 0 ∷ [] ≡ take 2 l
first_two [] h = absurd (omega arith)
first_two (a ∷ []) h = absurd (omega arith)
first_two (a ∷ b ∷ l) h = refl

-- the byte that says whether there is a best estimate
pub any_small : (b : List ℕ) → bytes_mean b ≡ true → get_or b 565 0 ≤ 1
unfolding bytes_mean
any_small b mean = leb-true _ 1 (both (all_below 12 (λ i. leb (get_or b (512 + i) 0) 1)) _ mean).1

-- those of mode, of decided and of the boxes heard
mark-small : (b : List ℕ) → bytes_mean b ≡ true → (j : ℕ) → j < 12 → get_or b (512 + j) 0 ≤ 1
unfolding bytes_mean
mark-small b mean j l =
    leb-true _ 1 (all-at (λ i. leb (get_or b (512 + i) 0) 1) 12 j (both (all_below 12 (λ i. leb (get_or b (512 + i) 0) 1)) _ mean).0 l)

-- those of the boxes heard
pub heard-small : (b : List ℕ) → bytes_mean b ≡ true → (j : ℕ) → j < 10 → get_or b (514 + j) 0 ≤ 1
heard-small b mean j l = let e : 514 + j ≡ 512 + (2 + j) = omega arith in rw e (mark-small b mean (2 + j) (omega arith))

module _ (b : List ℕ) (bytes : AllBytes b) (long : length b ≡ record_length) where
  estimate-ok : (at : ℕ) → get_or b (at + 24) 0 < 16 → values_ok (estimate_at 6 4 b at) ≡ true → estimate_ok 6 4 b at ≡ true
  unfolding estimate_ok readings_ok marks_below values_ok estimate_at
  estimate-ok at small values =
      let here : get_or (readings_part 6 4 b at) 0 0 ≡ get_or b (at + 24) 0 = get_or-take 17 (drop (at + 24) b) 0 0 (omega arith) ∙ get_or-drop (at + 24) b 0 0 ∙ rw add-zero in
      rw (here, lt-ltb (get_or b (at + 24) 0) 16 small) values

  estimate-back : (at : ℕ) → at + 41 ≤ record_length → get_or b (at + 24) 0 < 16 → values_ok (estimate_at 6 4 b at) ≡ true
      → estimate_bytes 6 4 (estimate_at 6 4 b at) ≡ part b at 41
  estimate-back at room small values =
      estimate-written 6 4 b at (omega arith) (omega arith) (estimate-ok at small values) bytes (omega (arith, long))

  number-piece : (s i : ℕ) → s + i + 4 ≤ record_length → little_endian 4 (number_at 4 b (s + i)) ≡ part (drop s b) i 4
  number-piece s i room = number-back b (s + i) 4 bytes (omega (arith, long)) ∙ shift b s i 4

  module _ (mean : bytes_mean b ≡ true) where
    best-back : get_or b 599 0 < 16 → values_ok (estimate_at 6 4 b 575) ≡ true → best_bytes (best_at b 565) ≡ part b 565 51
    unfolding best_bytes best_at
    best-back small values =
        let c : List ℕ = drop 565 b in
        let two : ◌≡◌ {A = List ℕ} (bit (mark_at b 565) ∷ get_or b 566 0 ∷ []) (take 2 c) =
        (λ i. (bit-back (get_or b 565 0) (any_small b mean) ∙ sym (get_or-drop 565 b 0 0)) i ∷ sym (get_or-drop 565 b 1 0) i ∷ [])
        ∙ first_two c (simp length-drop (omega (arith, long))) in
        beside (beside (beside two (number-piece 565 2 (omega arith))) (number-piece 565 6 (omega arith)))
        (estimate-back 575 (omega arith) small values ∙ shift b 565 10 41)
        ∙ rw (grow c 2 4, grow c 6 4, grow c 10 41)

    marks-back : bit (mark_at b 512) ∷ bit (mark_at b 513) ∷ [] ≡ part b 512 2
    unfolding filled
    marks-back = marks-written b 512 2 (omega (arith, long)) (λ j l. mark-small b mean j (omega arith))

    heard-back : heard_bytes (heard_at b 514) ≡ part b 514 10
    unfolding heard_at
    heard-back = marks-written b 514 10 (omega (arith, long)) (heard-small b mean)

    -- (b) Whatever reading finds, writing it gives the very bytes that it was read from.
    pub held-written : get_or b 548 0 < 16 → get_or b 599 0 < 16 → values_ok (held_at b settings_length).estimate ≡ true
        → values_ok (held_at b settings_length).best.estimate ≡ true → held_bytes (held_at b settings_length) ≡ drop settings_length b
    unfolding held_bytes held_at best_at
    held-written small best-small values best-values =
        let c : List ℕ = drop 496 b in
        let all : length c ≡ 120 = simp length-drop (omega (arith, long)) in
        beside (beside (beside (beside (beside (beside (beside
        (number-piece 496 0 (omega arith))
        (number-piece 496 4 (omega arith)))
        (number-piece 496 8 (omega arith)))
        (number-piece 496 12 (omega arith)))
        (marks-back ∙ shift b 496 16 2))
        (heard-back ∙ shift b 496 18 10))
        (estimate-back 524 (omega arith) small values ∙ shift b 496 28 41))
        (best-back best-small best-values ∙ shift b 496 69 51)
        ∙ rw (grow c 4 4, grow c 8 4, grow c 12 4, grow c 16 2, grow c 18 10, grow c 28 41, grow c 69 51)
        (take_all 120 c (omega (arith, all)))

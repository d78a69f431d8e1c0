-- A line of the format is short: `short-lines`. So a line that is cut, to more bytes than that, is none before it is cut and none after. Assumes
-- nothing.
use mathlib.Core.Path.{◌≡◌, refl, ap, ◌∙◌}
use mathlib.Core.Bool.{Bool, true, false, ◌&&◌, ◌||◌}
use mathlib.Core.List.{List, [], ◌∷◌}
use Prim.Native.Nat.{ℕ, zero, suc, ◌+◌, ◌*◌, ◌-◌, ◌≤◌, ◌<◌}
use native.Mathlib.Omega.{arith}
use lib.Dec.{eqb, leb, ltb}
use lib.ListN.{length, get_or}
use borrow.Author.Tests.{eqb-true, eqb-false, ltb-true}
use Rattle.lists.specs.Choice.{pick}
use Rattle.lists.specs.Below.{all_below}
use Rattle.lists.proofs.Booleans.{both, never}
use Rattle.lists.proofs.Choice.{pick-holds}
use Rattle.lists.proofs.Below.{all-at}
use Rattle.std.specs.Prelude.{ℤ, Option, Some, None}
use Rattle.std.proofs.Common.{cond}
use Rattle.std.proofs.lemmas.List.Sums.{sum_by-cons}
use Rattle.text.specs.Lines.{up_to}
use Rattle.line.specs.declared.events.Event.{Event}
use Rattle.line.specs.declared.events.Event.TheVariants.{Bad}
use Rattle.line.specs.declared.events.Called.{Called}
use Rattle.text.specs.Numbers.{magnitude, number_of, is_size, counted, is_whole}
use Rattle.transmitters.specs.declared.Reading.{Reading}
use Rattle.line.specs.Fields.{spaces, one_less, after_spaces, field}
use Rattle.line.specs.Singles.{is_single, single_in}
use Rattle.line.specs.Tickets.{ticket_of, is_ticket}
use Rattle.line.specs.Events.{letter_of, box_of, reading_in, is_given, is_reading, all_readings, tick_called, give_up_called, delivery_called, store_called, return_called, commit_called, power_called, called_for, is_taken, ask_called, store_asked_called, two_called, word_called, called}
use Rattle.line.proofs.FieldLaws.{after-found}
use Rattle.line.proofs.SingleLaws.{single-length}
use Rattle.line.proofs.TicketLaws.{ticket-length}
use Rattle.text.proofs.PrintingLengths.{decimal-length, signed-length}
use Rattle.text.proofs.RoundTrip.{magnitude-back, printed-reads}

-- ---- the fields of a line, one byte after the other

module _ (b : ℕ) (bs : List ℕ) where
  space-count : eqb b 32 ≡ true → spaces (b ∷ bs) ≡ suc (spaces bs)
  space-count e = sum_by-cons (λ x. cond (eqb x 32) 1 0) b bs ∙ rw e (omega arith)

  space-first : eqb b 32 ≡ true → field 0 (b ∷ bs) ≡ []
  unfolding field after_spaces up_to pick
  space-first e = rw e

  space-next : (j : ℕ) → eqb b 32 ≡ true → field (suc j) (b ∷ bs) ≡ field j bs
  unfolding field after_spaces one_less pick
  space-next j e = let p : suc j - 1 ≡ j = omega arith in rw (e, p)

  other-count : eqb b 32 ≡ false → spaces (b ∷ bs) ≡ spaces bs
  other-count e = sum_by-cons (λ x. cond (eqb x 32) 1 0) b bs ∙ rw e (omega arith)

  other-first : eqb b 32 ≡ false → field 0 (b ∷ bs) ≡ b ∷ field 0 bs
  unfolding field after_spaces up_to pick
  other-first e = rw (e, after-found bs)

  other-next : (j : ℕ) → eqb b 32 ≡ false → field (suc j) (b ∷ bs) ≡ field (suc j) bs
  unfolding field after_spaces one_less pick
  other-next j e = rw e

-- fields of at most 11 bytes, the first of which stands after a bytes
pub narrow : (line : List ℕ) (a : ℕ) → a + length (field 0 line) ≤ 11 → ((j : ℕ) → j < spaces line → length (field (suc j) line) ≤ 11)
    → a + length line ≤ 12 * spaces line + 11
narrow [] a first others = omega arith
narrow (b ∷ bs) a first others = by (eqb b 32) refl (narrow bs)
  where
    by : (t : Bool) → eqb b 32 ≡ t
        → ((a : ℕ) → a + length (field 0 bs) ≤ 11 → ((j : ℕ) → j < spaces bs → length (field (suc j) bs) ≤ 11) → a + length bs ≤ 12 * spaces bs + 11)
        → a + length (b ∷ bs) ≤ 12 * spaces (b ∷ bs) + 11
    by true e rest =
        let n = space-count b bs e in
        let f = ap length (space-next b bs 0 e) in
        let g = ap length (space-first b bs e) in
        let h = rest 0 (omega (arith, f, others 0 (omega arith))) (λ j l. omega (
          arith,
          ap length (space-next b bs (suc j) e),
          others (suc j)
              (omega arith),
        )) in
        omega arith
    by false e rest =
        let n = other-count b bs e in
        let f = ap length (other-first b bs e) in
        let h = rest (suc a) (omega arith) (λ j l. omega (arith, ap length (other-next b bs j e), others j (omega arith))) in
        omega arith

-- ---- the first field, and what stands behind its space

pub record Behind (line : List ℕ) : Type 0 where
  pub rest : List ℕ
  pub whole : length line ≡ length (field 0 line) + suc (length rest)
  pub count : spaces line ≡ suc (spaces rest)
  pub fields : (j : ℕ) → field (suc j) line ≡ field j rest

behind : (line : List ℕ) → 0 < spaces line → Behind line
behind [] h = absurd (omega arith)
behind (b ∷ bs) h = by (eqb b 32) refl (behind bs)
  where
    by : (t : Bool) → eqb b 32 ≡ t → (0 < spaces bs → Behind bs) → Behind (b ∷ bs)
    by true e more =
        record {
          rest = bs;
          whole = omega (arith, ap length (space-first b bs e));
          count = space-count b bs e;
          fields = λ j. space-next b bs j e;
        }
    by false e more =
        let n = other-count b bs e in
        let r = more (omega arith) in
        record {
          rest = r.rest;
          whole = omega (arith, ap length (other-first b bs e), r.whole);
          count = n ∙ r.count;
          fields = λ j. other-next b bs j e ∙ r.fields j;
        }

alone : (line : List ℕ) → spaces line ≡ 0 → length line ≡ length (field 0 line)
unfolding field after_spaces up_to
alone [] h = refl
alone (b ∷ bs) h = by (eqb b 32) refl (alone bs)
  where
    by : (t : Bool) → eqb b 32 ≡ t → (spaces bs ≡ 0 → length bs ≡ length (field 0 bs)) → length (b ∷ bs) ≡ length (field 0 (b ∷ bs))
    by true e more = absurd (let n = space-count b bs e in omega arith)
    by false e more =
        let n = other-count b bs e in
        let r = more (omega arith) in
        omega (arith, ap length (other-first b bs e))

-- three fields
three : (line : List ℕ) → spaces line ≡ 2 → length line ≡ length (field 0 line) + length (field 1 line) + length (field 2 line) + 2
three line h =
    let a = behind line (omega arith) in
    let b = behind a.rest (omega (arith, a.count)) in
    omega (
      arith,
      a.whole,
      b.whole,
      alone b.rest (omega (arith, a.count, b.count)),
      ap length (a.fields 0),
      ap length (a.fields 1),
      ap length (b.fields 0),
    )

-- ---- what a field may hold

pub number-length : (word : List ℕ) (n : Option ℤ) → number_of word ≡ n → is_whole n ≡ true → length word ≤ 11
number-length word (Some z) e w = omega (arith, ap length (printed-reads word z e), signed-length z)
number-length word None e w = never w

counted-length : (word : List ℕ) (n : Option ℤ) → number_of word ≡ n → 0 < counted n → length word ≤ 11
unfolding counted
counted-length word (Some z) e w = number-length word (Some z) e refl
counted-length word None e w = absurd (omega arith)

size-length : (word : List ℕ) (k : Option ℕ) → magnitude word ≡ k → is_size k ≡ true → length word ≤ 11
size-length word (Some n) e w = omega (arith, ap length (magnitude-back word n e), decimal-length n)
size-length word None e w = never w

committed-length : (word : List ℕ) (t : Option ℕ) → ticket_of word ≡ t → is_ticket t ≡ true → length word ≤ 20
committed-length word (Some n) e w = ticket-length word n e
committed-length word None e w = never w

letter-alone : (word : List ℕ) → 0 < letter_of word → length word ≡ 1
unfolding letter_of pick
letter-alone word h = by (eqb (length word) 1) refl h
  where
    by : (t : Bool) → eqb (length word) 1 ≡ t → 0 < pick (eqb (length word) 1) (get_or word 0 0) 0 → length word ≡ 1
    by true e h = eqb-true (length word) 1 e
    by false e h = absurd (let z = rw e at h in omega arith)

letter-length : (word : List ℕ) → 0 < letter_of word → length word ≤ 11
letter-length word h = omega (arith, letter-alone word h)

-- where there is a reading, the field is short
abbrev ShortField : List ℕ → Reading → Type 0
ShortField word r = is_given r ≡ true → length word ≤ 11

given-length : (of_rig : Bool) (word : List ℕ) → is_given (reading_in of_rig word) ≡ true → length word ≤ 11
unfolding reading_in single_in is_given
given-length of_rig word =
    pick-holds (ShortField word) (is_whole (number_of word)) _ _ (λ w _. number-length word (number_of word) refl w)
    (λ _. pick-holds (ShortField word) of_rig _ _
    (λ _. pick-holds (ShortField word) (is_single word) _ _ (λ s _. omega (arith, single-length word s)) (λ _ e. never e))
    (λ _ e. never e))

reading-length : (of_rig : Bool) (word : List ℕ) → is_reading of_rig word ≡ true → length word ≤ 11
unfolding is_reading
reading-length of_rig word e = by (is_given (reading_in of_rig word)) refl e
  where
    by : (t : Bool) → is_given (reading_in of_rig word) ≡ t → (is_given (reading_in of_rig word) || eqb (letter_of word) 45) ≡ true → length word ≤ 11
    by true q e = given-length of_rig word q
    by false q e = letter-length word (omega (arith, eqb-true (letter_of word) 45 (rw q at e)))

box-length : (boxes : ℕ) (word : List ℕ) → (box_of boxes word ≡ 0 → ⊥) → length word ≤ 11
unfolding box_of pick
box-length boxes word h = by (leb (counted (number_of word)) boxes) refl h
  where
    by : (t : Bool) → leb (counted (number_of word)) boxes ≡ t → (pick (leb (counted (number_of word)) boxes) (counted (number_of word)) 0 ≡ 0 → ⊥)
        → length word ≤ 11
    by true e h = counted-length word (number_of word) refl (omega (arith, rw e at h))
    by false e h = absurd (h (rw e))

-- ---- the kinds of lines

-- with a letter of the first field, which has one or two
module _ (of_rig : Bool) (m : ℕ) (line : List ℕ) (box : length (field 1 line) ≤ 11) (letter : ℕ) (first : 0 < letter → length (field 0 line) ≤ 2) where
  -- where there is an event, the line is short
  abbrev Short : Event → Type 0
  Short event = (event ≡ Bad → ⊥) → length line ≤ 12 * m + 35

  begins : (b : ℕ) → 0 < b → eqb letter b ≡ true → length (field 0 line) ≤ 2
  begins b h e = first (omega (arith, eqb-true letter b e))

  tick-length : length (field 0 line) ≤ 2 → (eqb (spaces line) (m + 1) && all_readings of_rig m line) ≡ true → length line ≤ 12 * m + 35
  unfolding all_readings
  tick-length begun e =
      let q = both (eqb (spaces line) (m + 1)) _ e in
      let n = eqb-true (spaces line) (m + 1) q.0 in
      let h = narrow line 0 (omega arith) (λ j l. at j (omega arith) q.1) in
      omega arith
    where
      at : (j : ℕ) → j < m + 1 → all_below m (λ i. is_reading of_rig (field (i + 2) line)) ≡ true → length (field (suc j) line) ≤ 11
      at zero l all = box
      at (suc i) l all =
          let z : i + 2 ≡ suc (suc i) = omega arith in
          rw z at (reading-length of_rig (field (i + 2) line) (all-at (λ i. is_reading of_rig (field (i + 2) line)) m i all (omega arith)))

  -- the letter and the box, as in `G r` and `S r`
  one-space : length (field 0 line) ≤ 2 → eqb (spaces line) 1 ≡ true → length line ≤ 12 * m + 35
  one-space begun e =
      let n = eqb-true (spaces line) 1 e in
      let h = narrow line 0 (omega arith) (λ j l. at j (omega arith)) in
      omega arith
    where
      at : (j : ℕ) → j < 1 → length (field (suc j) line) ≤ 11
      at zero l = box
      at (suc i) l = absurd (omega arith)

  -- the letter, the box and a number, as in `D r f` and `R r k`
  two-spaces : length (field 0 line) ≤ 2 → eqb (spaces line) 2 ≡ true → length (field 2 line) ≤ 11 → length line ≤ 12 * m + 35
  two-spaces begun e f =
      let n = eqb-true (spaces line) 2 e in
      let h = narrow line 0 (omega arith) (λ j l. at j (omega arith)) in
      omega arith
    where
      at : (j : ℕ) → j < 2 → length (field (suc j) line) ≤ 11
      at zero l = box
      at (suc zero) l = f
      at (suc (suc i)) l = absurd (omega arith)

  delivery-length : length (field 0 line) ≤ 2 → (eqb (spaces line) 2 && ltb 0 (counted (number_of (field 2 line)))) ≡ true → length line ≤ 12 * m + 35
  delivery-length begun e =
      let q = both (eqb (spaces line) 2) _ e in
      two-spaces begun q.0 (counted-length (field 2 line) (number_of (field 2 line)) refl (ltb-true 0 _ q.1))

  return-length : length (field 0 line) ≤ 2 → (eqb (spaces line) 2 && is_size (magnitude (field 2 line))) ≡ true → length line ≤ 12 * m + 35
  return-length begun e =
      let q = both (eqb (spaces line) 2) _ e in
      two-spaces begun q.0 (size-length (field 2 line) (magnitude (field 2 line)) refl q.1)

  commit-length : length (field 0 line) ≤ 2 → (eqb (spaces line) 2 && is_ticket (ticket_of (field 2 line))) ≡ true → length line ≤ 12 * m + 35
  commit-length begun e =
      let q = both (eqb (spaces line) 2) _ e in
      omega (arith, three line (eqb-true (spaces line) 2 q.0), committed-length (field 2 line) (ticket_of (field 2 line)) refl q.1)

  abbrev ShortCall : Called → Type 0
  ShortCall c = Short c.event

  short-power : (at : ℕ) → Short (power_called at letter (spaces line) line).event
  unfolding power_called store_called return_called commit_called
  short-power at =
      pick-holds ShortCall (eqb letter 83) _ _
      (λ s. pick-holds Short (eqb (spaces line) 1) _ _ (λ e _. one-space (begins 83 (omega arith) s) e) (λ _ h. absurd (h refl)))
      (λ _. pick-holds ShortCall (eqb letter 82) _ _
      (λ r. pick-holds Short (eqb (spaces line) 2 && is_size (magnitude (field 2 line))) _ _ (λ e _. return-length (begins 82 (omega arith) r) e) (λ _ h. absurd
      (h refl)))
      (λ _. pick-holds ShortCall (eqb letter 67) _ _
      (λ c. pick-holds Short (eqb (spaces line) 2 && is_ticket (ticket_of (field 2 line))) _ _
      (λ e _. commit-length (begins 67 (omega arith) c) e)
      (λ _ h. absurd (h refl)))
      (λ _ h. absurd (h refl))))

  short-called : (at : ℕ) → Short (called_for of_rig at m letter (spaces line) line).event
  unfolding called_for tick_called give_up_called delivery_called
  short-called at =
      let f = counted (number_of (field 2 line)) in
      pick-holds ShortCall (eqb letter 84) _ _
      (λ t. pick-holds ShortCall (eqb (spaces line) (m + 1) && all_readings of_rig m line) _ _ (λ e _. tick-length (begins 84 (omega arith) t) e) (λ _ h. absurd
      (h refl)))
      (λ _. pick-holds ShortCall (eqb letter 71) _ _
      (λ g. pick-holds Short (eqb (spaces line) 1) _ _ (λ e _. one-space (begins 71 (omega arith) g) e) (λ _ h. absurd (h refl)))
      (λ _. pick-holds ShortCall (eqb letter 68) _ _
      (λ d. pick-holds Short (eqb (spaces line) 2 && ltb 0 f) _ _ (λ e _. delivery-length (begins 68 (omega arith) d) e) (λ _ h. absurd (h refl)))
      (λ _. pick-holds ShortCall of_rig _ _ (λ _. short-power at) (λ _ h. absurd (h refl)))))

module _ (of_rig : Bool) (m : ℕ) (line : List ℕ) (box : length (field 1 line) ≤ 11) (at : ℕ) where
  -- the line is short, or it calls for nothing
  abbrev ShortLine : Called → Type 0
  ShortLine c = (c.event ≡ Bad → ⊥) → length line ≤ 12 * m + 35

  short-ask : (c : Called) → ShortLine c → ShortLine (ask_called c)
  unfolding ask_called
  short-ask c h = pick-holds ShortLine (is_taken c.event) _ _ (λ _. h) (λ _ h. absurd (h refl))

  short-two : (a b : ℕ) → length (field 0 line) ≡ 2 → ShortLine (two_called at m a b (spaces line) line)
  unfolding two_called store_asked_called
  short-two a b two =
      let begun : length (field 0 line) ≤ 2 = omega arith in
      pick-holds ShortLine (eqb a 65) _ _
      (λ _. short-ask (called_for true at m b (spaces line) line) (short-called true m line box b (λ _. begun) at))
      (λ _. pick-holds ShortLine (eqb a 83 && eqb b 65) _ _
      (λ _. pick-holds (λ (e : Event). (e ≡ Bad → ⊥) → length line ≤ 12 * m + 35) (eqb (spaces line) 1) _ _
      (λ e _. one-space of_rig m line box b (λ _. begun) begun e)
      (λ _ h. absurd (h refl)))
      (λ _ h. absurd (h refl)))

  short-word : ShortLine (word_called of_rig at m (field 0 line) (spaces line) line)
  unfolding word_called
  short-word =
      pick-holds ShortLine (of_rig && eqb (length (field 0 line)) 2) _ _
      (λ e. short-two _ _ (eqb-true (length (field 0 line)) 2 (both of_rig _ e).1))
      (λ _. short-called of_rig m line box (letter_of (field 0 line)) (λ h. omega (arith, letter-alone (field 0 line) h)) at)

-- a line with more bytes is no line of the format
pub short-lines : (of_rig : Bool) (boxes m : ℕ) (line : List ℕ) → ((called of_rig boxes m line).event ≡ Bad → ⊥) → length line ≤ 12 * m + 35
unfolding called
short-lines of_rig boxes m line =
    pick-holds (λ (c : Called). (c.event ≡ Bad → ⊥) → length line ≤ 12 * m + 35) (eqb (box_of boxes (field 1 line)) 0) _ _ (λ _ h. absurd (h refl))
    (λ e. short-word of_rig m line (box-length boxes (field 1 line) (eqb-false _ 0 e)) (box_of boxes (field 1 line)))

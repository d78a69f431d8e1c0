-- Laws of the tickets' part: both ways between its bytes and the tickets in it, and what is put into it. Assumes nothing.
use mathlib.Core.Path.{◌≡◌, refl, sym, ap, ap₂, ◌∙◌}
use mathlib.Core.Bool.{Bool, true, false}
use mathlib.Core.List.{List, [], ◌∷◌, ◌++◌, append_assoc, append-nil}
use Prim.Native.Nat.{ℕ, zero, suc, ◌+◌, ◌≤◌, ◌<◌}
use native.Mathlib.Omega.{arith}
use lib.ListN.{length, take, drop, get_or, length-drop, take-append-drop}
use lib.Seq.{take_all, take_at, drop_at, drop-cons, drop-drop, take-append-add, drop-append-add, get_or-append-add, length-take-le}
use lib.Dec.{eqb, leb}
use borrow.Author.Tests.{eqb-true, leb-true}
use Rattle.lists.specs.Choice.{pick}
use Rattle.lists.proofs.Booleans.{both}
use Rattle.lists.proofs.Below.{all-at}
use Rattle.lists.proofs.Parts.{drop-beyond}
use Rattle.octets.specs.Words.{AllBytes, little_endian, spelled, number_at, part}
use Rattle.octets.specs.Areas.{put}
use Rattle.octets.proofs.Numbers.{length-little_endian, spelled-little_endian, number-back}
use Rattle.estimate.specs.Marks.{bit}
use Rattle.records.specs.Lengths.{held_length, record_length}
use Rattle.records.specs.Reading.{zero_at}
use Rattle.tickets.specs.Tickets.{Tickets}
use Rattle.ticketed.specs.Lengths.{ticket_length, ticketed_length}
use Rattle.ticketed.specs.TicketsPart.{letter, version, head_bytes, ticket_bytes, tickets_at}
use Rattle.ticketed.specs.Reading.{record_of, head_ok}

-- ---- the eight bytes before the latest ticket

pub record Head (b : List ℕ) : Type 0 where
  pub byte-616 : get_or b 616 0 ≡ letter
  pub byte-617 : get_or b 617 0 ≡ version
  pub mark : get_or b 618 0 ≤ 1
  pub zeros : (i : ℕ) → i < 5 → get_or b (619 + i) 0 ≡ 0

module _ (b : List ℕ) where
  pub head-facts : head_ok b ≡ true → Head b
  unfolding head_ok zero_at
  head-facts e =
      let p = both (eqb (get_or b 616 0) letter) _ e in
      let q = both (eqb (get_or b 617 0) version) _ p.1 in
      let r = both (leb (get_or b 618 0) 1) _ q.1 in record {
        byte-616 = eqb-true _ _ p.0;
        byte-617 = eqb-true _ _ q.0;
        mark = leb-true _ _ r.0;
        zeros = λ i h. eqb-true _ _ (all-at _ 5 i r.1 h);
      }

  module _ (long : length b ≡ ticketed_length) where
    next : (j : ℕ) → j < ticketed_length → drop j b ≡ get_or b j 0 ∷ drop (suc j) b
    next j h = drop-cons b j 0 (omega (arith, long))

    -- the part starts with them
    pub head_first : head_ok b ≡ true → drop record_length b ≡ head_bytes (get_or b 618 0) ++ drop 624 b
    unfolding head_bytes
    head_first e =
        let f = head-facts e in
        next 616 (omega arith)
        ∙ (λ i. f.byte-616 i ∷ next 617 (omega arith) i)
        ∙ (λ i. letter ∷ f.byte-617 i ∷ next 618 (omega arith) i)
        ∙ (λ i. letter ∷ version ∷ get_or b 618 0 ∷ next 619 (omega arith) i)
        ∙ (λ i. letter ∷ version ∷ get_or b 618 0 ∷ f.zeros 0 (omega arith) i ∷ next 620 (omega arith) i)
        ∙ (λ i. letter ∷ version ∷ get_or b 618 0 ∷ 0 ∷ f.zeros 1 (omega arith) i ∷ next 621 (omega arith) i)
        ∙ (λ i. letter ∷ version ∷ get_or b 618 0 ∷ 0 ∷ 0 ∷ f.zeros 2 (omega arith) i ∷ next 622 (omega arith) i)
        ∙ (λ i. letter ∷ version ∷ get_or b 618 0 ∷ 0 ∷ 0 ∷ 0 ∷ f.zeros 3 (omega arith) i ∷ next 623 (omega arith) i)
        ∙ (λ i. letter ∷ version ∷ get_or b 618 0 ∷ 0 ∷ 0 ∷ 0 ∷ 0 ∷ f.zeros 4 (omega arith) i ∷ drop 624 b)

    -- then come the latest ticket and what its step leaves
    ticket-next : drop 624 b ≡ part b 624 ticket_length ++ part b 632 held_length
    ticket-next =
        sym (take-append-drop 8 (drop 624 b))
        ∙ ap (λ (t : List ℕ). part b 624 8 ++ t) (drop-drop 8 624 b ∙ sym (take_all 120 (drop 632 b) (rw length-drop (omega (arith, long)))))

    pub all-parts : head_ok b ≡ true → b ≡ record_of b ++ (head_bytes (get_or b 618 0) ++ (part b 624 ticket_length ++ part b 632 held_length))
    all-parts e =
        sym (take-append-drop 616 b) ∙ ap (λ (t : List ℕ). record_of b ++ t) (head_first e ∙ ap (λ (t : List ℕ). head_bytes (get_or b 618 0) ++ t) ticket-next)

    pub record-long : length (record_of b) ≡ record_length
    record-long = length-take-le 616 b (omega (arith, long))

-- ---- both ways

-- a byte that is 0 or 1 is that of its mark
mark-back : (x : ℕ) → x ≤ 1 → bit (eqb x 1) ≡ x
unfolding pick
mark-back zero h = refl
mark-back (suc zero) h = refl
mark-back (suc (suc x)) h = absurd (omega arith)

-- (a) The bytes of the tickets in a replica with tickets are the very bytes.
pub tickets-written : (b : List ℕ) → AllBytes b → length b ≡ ticketed_length → head_ok b ≡ true → ticket_bytes (tickets_at b) ≡ drop record_length b
unfolding ticket_bytes tickets_at
tickets-written b bytes long e =
    ap₂ (λ (x : ℕ) (l : List ℕ). head_bytes x ++ (l ++ part b 632 held_length)) (mark-back (get_or b 618 0) (head-facts b e).mark)
    (number-back b 624 8 bytes (omega (arith, long)))
    ∙ sym (head_first b long e ∙ ap (λ (t : List ℕ). head_bytes (get_or b 618 0) ++ t) (ticket-next b long))

-- a mark is the mark of its byte
bit-back : (m : Bool) → eqb (bit m) 1 ≡ m
unfolding pick
bit-back true = refl
bit-back false = refl

-- behind a list that is as long as a record
module _ (p : List ℕ) (long : length p ≡ record_length) (t : Tickets (List ℕ)) (step : length t.step ≡ held_length) where
  behind : (k : ℕ) → drop (record_length + k) (p ++ ticket_bytes t) ≡ drop k (ticket_bytes t)
  behind k = ap (λ (n : ℕ). drop (n + k) (p ++ ticket_bytes t)) (sym long) ∙ drop-append-add p (ticket_bytes t) k

  mark-behind : get_or (p ++ ticket_bytes t) 618 0 ≡ bit t.pending
  unfolding ticket_bytes head_bytes
  mark-behind = ap (λ (n : ℕ). get_or (p ++ ticket_bytes t) (n + 2) 0) (sym long) ∙ get_or-append-add p (ticket_bytes t) 2 0

  latest-behind : part (p ++ ticket_bytes t) 624 ticket_length ≡ little_endian ticket_length t.latest
  unfolding ticket_bytes head_bytes
  latest-behind = ap (take 8) (behind 8) ∙ take_at (little_endian 8 t.latest) t.step 8 (length-little_endian 8 t.latest)

  step-behind : part (p ++ ticket_bytes t) 632 held_length ≡ t.step
  unfolding ticket_bytes head_bytes little_endian
  step-behind = ap (take 120) (behind 16) ∙ take_all 120 t.step (omega (arith, step))

  -- (b) The tickets in written tickets are those tickets.
  pub tickets-read : t.latest < 18446744073709551616 → tickets_at (p ++ ticket_bytes t) ≡ t
  unfolding tickets_at number_at
  tickets-read h =
      let latest = ap spelled latest-behind ∙ spelled-little_endian 8 t.latest h in
      let pending = ap (λ (x : ℕ). eqb x 1) mark-behind ∙ bit-back t.pending in
      λ i. record { latest = latest i; pending = pending i; step = step-behind i }

-- ---- what is put into it

-- bytes put behind the first list
pub put-behind : (p q written : List ℕ) (i j : ℕ) → length p + i ≡ j → put (p ++ q) j written ≡ p ++ put q i written
unfolding put
put-behind p q written i j e =
    ap (λ (n : ℕ). take n (p ++ q) ++ (written ++ drop (n + length written) (p ++ q))) (sym e)
    ∙ (λ k. take-append-add p q i k ++ (written ++ drop (more k) (p ++ q)))
    ∙ ap (λ (t : List ℕ). (p ++ take i q) ++ (written ++ t)) (drop-append-add p q (i + length written))
    ∙ append_assoc p (take i q) (written ++ drop (i + length written) q)
  where
    more : length p + i + length written ≡ length p + (i + length written)
    more = omega arith

module _ (p : List ℕ) (long : length p ≡ record_length) where
  -- the mark
  pub mark-put : (x y : ℕ) (rest : List ℕ) → put (p ++ (head_bytes x ++ rest)) 618 (y ∷ []) ≡ p ++ (head_bytes y ++ rest)
  unfolding put head_bytes
  mark-put x y rest = put-behind p (head_bytes x ++ rest) (y ∷ []) 2 618 (omega (arith, long))

  -- the latest ticket
  pub latest-put : (x : ℕ) (w w' s : List ℕ) → length w ≡ 8 → length w' ≡ 8 → put (p ++ (head_bytes x ++ (w ++ s))) 624 w' ≡ p ++ (head_bytes x ++ (w' ++ s))
  unfolding put head_bytes
  latest-put x w w' s e e' =
      put-behind p (head_bytes x ++ (w ++ s)) w' 8 624 (omega (arith, long))
      ∙ ap (λ (t : List ℕ). p ++ t)
      (put-behind (head_bytes x) (w ++ s) w' 0 8 refl
      ∙ ap (λ (t : List ℕ). head_bytes x ++ t) (ap (λ (n : ℕ). w' ++ drop (0 + n) (w ++ s)) e' ∙ ap (λ (t : List ℕ). w' ++ t) (drop_at w s 8 e)))

  -- what its step leaves
  pub step-put : (x : ℕ) (w s s' : List ℕ) → length w ≡ 8 → length s ≡ length s' → put (p ++ (head_bytes x ++ (w ++ s))) 632 s' ≡ p ++ (head_bytes x ++ (w ++ s'))
  unfolding put head_bytes
  step-put x w s s' e e' =
      put-behind p (head_bytes x ++ (w ++ s)) s' 16 632 (omega (arith, long))
      ∙ ap (λ (t : List ℕ). p ++ t)
      (put-behind (head_bytes x) (w ++ s) s' 8 16 refl
      ∙ ap (λ (t : List ℕ). head_bytes x ++ t)
      (put-behind w s s' 0 8 (omega (arith, e))
      ∙ ap (λ (t : List ℕ). w ++ t) (ap (λ (t : List ℕ). s' ++ t) (drop-beyond s (0 + length s') (omega (arith, e'))) ∙ append-nil s')))

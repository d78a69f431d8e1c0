-- A record with written tickets behind it is a replica with tickets again: after tickets for a record, after every commit, and after an ask whose record
-- is one. Assumes nothing.
use mathlib.Core.Path.{◌≡◌, refl, sym, ap, ◌∙◌, subst}
use mathlib.Core.Bool.{Bool, true, false}
use mathlib.Core.List.{List, ◌++◌}
use Prim.Native.Nat.{ℕ, ◌+◌, ◌<◌}
use native.Mathlib.Omega.{arith}
use lib.ListN.{length, take, drop, get_or, length-append, length-replicate}
use lib.Seq.{take_at, take-append-le, get_or-append-add}
use lib.Dec.{eqb, leb}
use borrow.Author.Tests.{eq-eqb, ne_eqb, eqb-false}
use Rattle.lists.proofs.Booleans.{both}
use Rattle.lists.specs.Choice.{pick}
use Rattle.lists.specs.Below.{all_below}
use Rattle.lists.proofs.Choice.{pick_true, pick-false}
use Rattle.octets.specs.Words.{AllBytes}
use Rattle.octets.proofs.Numbers.{number_lt, length-little_endian}
use Rattle.estimate.specs.Marks.{bit}
use Rattle.tickets.specs.Tickets.{Tickets, largest_ticket, is_spent, voided, commits}
use Rattle.tickets.proofs.Laws.{ask-spent, ask-next, commit-made}
use Rattle.replica.specs.Calls.{Outcomes}
use Rattle.records.specs.Lengths.{settings_length, held_length, record_length}
use Rattle.records.specs.Reading.{is_done, zero_at, is_record}
use Rattle.asks.specs.Asking.{asked_record}
use Rattle.ticketed.specs.Lengths.{ticket_length, ticketed_length}
use Rattle.ticketed.specs.TicketsPart.{head_bytes, ticket_bytes, tickets_at}
use Rattle.ticketed.specs.Reading.{record_of, step_record, ticketed_in, head_ok, step_ok, tickets_ok, is_ticketed}
use Rattle.ticketed.specs.Calls.{fresh_tickets, tickets_after, asked_area, committing}
use Rattle.ticketed.proofs.Judged.{judged, record-length, none-waits, step-judged, step-record}
use Rattle.ticketed.proofs.TicketsLaws.{tickets-read}
use Rattle.ticketed.proofs.CommitLaws.{step-long, commit-17, commit-0}

-- a mark's byte is 0 or 1
mark-small : (m : Bool) → leb (bit m) 1 ≡ true
unfolding pick
mark-small true = refl
mark-small false = refl

module _ (p : List ℕ) (is : is_record p ≡ true) (t : Tickets (List ℕ)) (step : length t.step ≡ held_length) (fits : t.latest < 18446744073709551616) where
  abbrev written : List ℕ
  written = p ++ ticket_bytes t

  long : length p ≡ record_length
  long = record-length p is

  behind : (i : ℕ) → get_or written (record_length + i) 0 ≡ get_or (ticket_bytes t) i 0
  behind i = ap (λ (n : ℕ). get_or written (n + i) 0) (sym long) ∙ get_or-append-add p (ticket_bytes t) i 0

  head-written : head_ok written ≡ true
  unfolding head_ok zero_at all_below ticket_bytes head_bytes
  head-written =
      rw (behind 0, behind 1, behind 2, behind 3, behind 4, behind 5, behind 6, behind 7, mark-small t.pending)

  long-written : length written ≡ ticketed_length
  unfolding ticket_bytes head_bytes
  long-written = rw length-append (simp length-append (omega (arith, long, step, length-little_endian ticket_length t.latest)))

  tickets-are : tickets_at written ≡ t
  tickets-are = tickets-read p long t step fits

  record_is : record_of written ≡ p
  record_is = take_at p (ticket_bytes t) record_length long

  with-step : step_ok written ≡ true → is_ticketed written ≡ true
  unfolding is_ticketed tickets_ok
  with-step e = rw (eq-eqb _ _ long-written, head-written, e) (ap is_record record_is ∙ is)

  -- where no ticket can be committed
  pub shut-ticketed : t.pending ≡ false → is_ticketed written ≡ true
  shut-ticketed e = with-step (sym (none-waits written (ap (λ (u : Tickets (List ℕ)). u.pending) tickets-are ∙ e)))

  -- where one can be: it is not 0, and its step leaves a record
  pub open-ticketed : t.pending ≡ true → eqb t.latest 0 ≡ false → is_record (take settings_length p ++ t.step) ≡ true → is_ticketed written ≡ true
  open-ticketed e n r =
      let first : take settings_length written ≡ take settings_length p = take-append-le settings_length p (ticket_bytes t) (omega (arith, long)) in
      let same : step_record written ≡ take settings_length p ++ t.step = λ i. first i ++ (tickets-are i).step in
      with-step
      (sym (step-judged written (ap (λ (u : Tickets (List ℕ)). u.pending) tickets-are ∙ e) (ap (λ (u : Tickets (List ℕ)). eqb u.latest 0) tickets-are ∙ n))
      ∙ ap is_record same
      ∙ r)

-- ---- after tickets for a record

pub fresh-ticketed : (b : List ℕ) → is_record b ≡ true → is_ticketed (b ++ ticket_bytes fresh_tickets) ≡ true
fresh-ticketed b is = shut-ticketed b is fresh_tickets (length-replicate {A = ℕ} held_length 0) (omega arith) refl

-- ---- after a commit

-- a ticket that makes its step can be committed
commits-pending : (t : Tickets (List ℕ)) (ticket : ℕ) → commits t ticket ≡ true → t.pending ≡ true
unfolding commits
commits-pending t ticket e = (both (eqb ticket t.latest) _ e).1

latest-fits : (b : List ℕ) → AllBytes b → length b ≡ ticketed_length → (tickets_at b).latest < 18446744073709551616
unfolding tickets_at
latest-fits b bytes long = number_lt b 624 ticket_length bytes (omega (arith, long))

module _ (b : List ℕ) (bytes : AllBytes b) (is : is_ticketed b ≡ true) where
  made-ticketed : (tickets_at b).pending ≡ true → is_ticketed (step_record b ++ ticket_bytes (voided (tickets_at b))) ≡ true
  made-ticketed waits =
      let j = judged b is in
      shut-ticketed (step_record b) (step-record b waits j.step).1 (voided (tickets_at b)) (step-long b j.long) (latest-fits b bytes j.long) refl

  pub commit-ticketed : (ticket : ℕ) → is_ticketed (committing b ticket) ≡ true
  unfolding committing
  commit-ticketed ticket = by (commits (tickets_at b) ticket) refl
    where
      waiting : commits (tickets_at b) ticket ≡ true → (tickets_at b).pending ≡ true
      waiting e = commits-pending (tickets_at b) ticket e

      by : (q : Bool) → commits (tickets_at b) ticket ≡ q → is_ticketed (committing b ticket) ≡ true
      by false e = ap is_ticketed (sym (commit-17 b ticket is e).1) ∙ is
      by true e =
          ap is_ticketed
          (pick_true _ _ _ (ap (λ (x : ℕ). eqb x 0) (commit-0 b ticket is e))
          ∙ ap (λ (t : Tickets (List ℕ)). step_record b ++ ticket_bytes t) (commit-made (tickets_at b) ticket e))
          ∙ made-ticketed (waiting e)

  -- ---- after an ask

  -- whose step, where its answer is ok, leaves what makes a record with the settings
  pub ask-ticketed : (o : Outcomes) (area : ℕ)
      → (is_done o.answer ≡ true → (length (drop settings_length (asked_record (ticketed_in b) o area)) ≡ held_length)
      × (is_record (take settings_length (record_of b) ++ drop settings_length (asked_record (ticketed_in b) o area)) ≡ true))
      → is_ticketed (asked_area b o area) ≡ true
  unfolding asked_area
  ask-ticketed o area leaves = ap is_ticketed (pick_true (is_ticketed b) _ _ is) ∙ by (is_spent (tickets_at b)) (is_done o.answer) refl refl
    where
      s : List ℕ
      s = drop settings_length (asked_record (ticketed_in b) o area)

      given : ℕ
      given = (tickets_at b).latest

      below : given < 18446744073709551616
      below = latest-fits b bytes (judged b is).long

      left : is_spent (tickets_at b) ≡ false → given + 1 < 18446744073709551616
      left e = omega (arith, eqb-false given largest_ticket e, below)

      some : eqb (given + 1) 0 ≡ false
      some = ne_eqb (given + 1) 0 (λ z. omega (arith, z))

      with : Tickets (List ℕ) → Type 0
      with t = is_ticketed (record_of b ++ ticket_bytes t) ≡ true

      by : (q ok : Bool) → is_spent (tickets_at b) ≡ q → is_done o.answer ≡ ok → with (tickets_after b o area)
      by true ok e f =
          subst with (sym (ask-spent (tickets_at b) (is_done o.answer) s e))
          (shut-ticketed (record_of b) (judged b is).stored (voided (tickets_at b)) (step-long b (judged b is).long) below refl)
      by false true e f =
          let t : Tickets (List ℕ) = record { latest = given + 1; pending = true; step = s } in
          let same : tickets_after b o area ≡ t =
          ask-next (tickets_at b) (is_done o.answer) s e
          ∙ (λ i. record { latest = given + 1; pending = f i; step = pick_true (is_done o.answer) s (tickets_at b).step f i }) in
          subst with (sym same) (open-ticketed (record_of b) (judged b is).stored t (leaves f).0 (left e) refl some (leaves f).1)
      by false false e f =
          let t : Tickets (List ℕ) = record { latest = given + 1; pending = false; step = (tickets_at b).step } in
          let same : tickets_after b o area ≡ t =
          ask-next (tickets_at b) (is_done o.answer) s e
          ∙ (λ i. record { latest = given + 1; pending = f i; step = pick-false (is_done o.answer) s (tickets_at b).step f i }) in
          subst with (sym same) (shut-ticketed (record_of b) (judged b is).stored t (step-long b (judged b is).long) (left e) refl)

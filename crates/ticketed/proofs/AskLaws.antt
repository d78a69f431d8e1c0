-- What the asks give, from what the asks of crate asks give. Assumes nothing.
use mathlib.Core.Path.{◌≡◌, refl, sym, ap, ◌∙◌, subst}
use mathlib.Core.Bool.{Bool, true, false}
use mathlib.Core.List.{List, [], ◌∷◌, ◌++◌}
use Prim.Native.Nat.{ℕ, ◌+◌, ◌≤◌}
use native.Mathlib.Omega.{arith}
use lib.ListN.{length, take, drop, length-append, length-drop}
use lib.Seq.{take_at, drop-append-le}
use lib.Dec.{eqb}
use lib.IntN.{ℤ}
use borrow.Author.Tests.{eqb-true}
use Rattle.lists.specs.Choice.{pick}
use Rattle.lists.proofs.Booleans.{never}
use Rattle.lists.proofs.Choice.{pick_true, pick-false, pick_same}
use Rattle.octets.specs.Words.{AllBytes, little_endian, part}
use Rattle.octets.specs.Areas.{put, over}
use Rattle.octets.proofs.Numbers.{bytes-part, length_part, length-little_endian}
use Rattle.estimate.specs.Marks.{bit}
use Rattle.scram.specs.Answers.{Answered, Done, Ignored, Refused}
use Rattle.scram.specs.Events.{refusing}
use Rattle.scram.specs.Held as Scram
use Rattle.readings.specs.declared.Readings.{Readings}
use Rattle.tickets.specs.Tickets.{Tickets, is_spent, voided}
use Rattle.tickets.proofs.Laws.{ask-spent, ask-next}
use Rattle.replica.specs.declared.Replica.{Replica}
use Rattle.replica.specs.declared.Held.{Held}
use Rattle.replica.specs.Held.{held_of}
use Rattle.replica.specs.Calls.{Outcomes}
use Rattle.records.specs.Lengths.{settings_length, held_length, record_length}
use Rattle.records.specs.Recording.{record_refusal, record_bytes}
use Rattle.records.specs.Reading.{is_done, is_record, replica_in}
use Rattle.records.proofs.PartLengths.{TypedTables, length-settings, length-recorded}
use Rattle.records.proofs.Recorded.{ready, record-done}
use Rattle.records.proofs.RoundTrip.{read-in-order}
use Rattle.asks.specs.declared.Ticketed.{Ticketed}
use Rattle.asks.specs.declared.Asked as Value
use Rattle.asks.specs.declared.Tickets as Beside
use Rattle.asks.specs.Asking as Ask
use Rattle.asks.specs.Asking.{tickets_of, tickets_in, step_of, answer_before, outcome_after, ask_outcome, asked_record}
use Rattle.ticketed.specs.declared.Asked.{Asked}
use Rattle.ticketed.specs.Lengths.{ticket_length, ticketed_length}
use Rattle.ticketed.specs.TicketsPart.{head_bytes, ticket_bytes, tickets_at}
use Rattle.ticketed.specs.Reading.{record_of, ticketed_in, head_ok, is_ticketed}
use Rattle.ticketed.specs.Calls.{ask_at, ticket_at, tickets_after, asked_area, Asks, askable, noted, asked_as, refused_ask}
use Rattle.ticketed.proofs.Judged.{judged}
use Rattle.ticketed.proofs.TicketsLaws.{all-parts, record-long, mark-put, latest-put, step-put}
use Rattle.ticketed.proofs.CommitLaws.{step-long}

-- ---- the tickets' part, written

module _ (b : List ℕ) (long : length b ≡ ticketed_length) (head : head_ok b ≡ true) (latest : ℕ) (pending : Bool) where
  abbrev part-with : ℕ → List ℕ → List ℕ → List ℕ
  part-with mark number step = record_of b ++ (head_bytes mark ++ (number ++ step))

  -- the mark and the latest ticket
  pub ticket-put : (b₁ b₂ : List ℕ) → b₁ ≡ put b 618 (bit pending ∷ []) → b₂ ≡ put b₁ 624 (little_endian ticket_length latest)
      → b₂ ≡ part-with (bit pending) (little_endian ticket_length latest) (tickets_at b).step
  unfolding tickets_at
  ticket-put b₁ b₂ e₁ e₂ =
      let p = record-long b long in
      let first : b₁ ≡ part-with (bit pending) (part b 624 ticket_length) (part b 632 held_length) =
      e₁ ∙ ap (λ (l : List ℕ). put l 618 (bit pending ∷ [])) (all-parts b long head) ∙ mark-put (record_of b) p _ (bit pending) _ in
      e₂
      ∙ ap (λ (l : List ℕ). put l 624 (little_endian ticket_length latest)) first
      ∙ latest-put (record_of b) p (bit pending) (part b 624 ticket_length) (little_endian ticket_length latest) (part b 632 held_length)
      (length_part b 624 ticket_length (omega (arith, long))) (length-little_endian ticket_length latest)

  module _ (b₁ b₂ area : List ℕ) (e₁ : b₁ ≡ put b 618 (bit pending ∷ [])) (e₂ : b₂ ≡ put b₁ 624 (little_endian ticket_length latest)) where
    -- a ticket that cannot be committed: what the step of an earlier one leaves stays
    pub noted-shut : pending ≡ false → b₂ ≡ noted b latest pending area
    unfolding ticket_bytes
    noted-shut e =
        ticket-put b₁ b₂ e₁ e₂ ∙ ap (part-with (bit pending) (little_endian ticket_length latest)) (sym (pick-false pending _ (tickets_at b).step e))

    -- one that can be
    pub noted-open : (b₃ : List ℕ) → record_length ≤ length area → b₃ ≡ put b₂ 632 (part area settings_length held_length) → pending ≡ true
        → b₃ ≡ noted b latest pending area
    unfolding ticket_bytes
    noted-open b₃ room e₃ e =
        let s = part area settings_length held_length in
        let l = length_part area settings_length held_length (omega (arith, room)) in
        e₃
        ∙ ap (λ (t : List ℕ). put t 632 s) (ticket-put b₁ b₂ e₁ e₂)
        ∙ step-put (record_of b) (record-long b long) (bit pending) (little_endian ticket_length latest) (tickets_at b).step s
        (length-little_endian ticket_length latest) (omega (arith, l, step-long b long))
        ∙ ap (part-with (bit pending) (little_endian ticket_length latest)) (sym (pick_true pending s (tickets_at b).step e))

-- ---- 15

module _ (b area frame command : List ℕ) where
  as-refused : (h : Scram.Held (List ℤ) Readings) → is_ticketed b ≡ false
      → Asks b (refusing h 15) refused_ask b area area frame frame command command
  unfolding ticket_at asked_area asked_record pick
  as-refused h e = record {
    answer = refl;
    ticket = sym (pick-false (is_ticketed b) _ _ e);
    replica = sym (pick-false (is_ticketed b) _ _ e);
    record-bytes = refl;
    frame-length = refl;
    command-length = refl;
    frame-bytes = refl;
    command-bytes = refl;
  }

  pub asks-refused : (event : Replica → Outcomes) (r : Asked) → is_ticketed b ≡ false → r ≡ refused_ask
      → Asks b (ask_at b (length area) event) r b area area frame frame command command
  unfolding ask_at
  asks-refused event r e g =
      subst (λ (r : Asked). Asks b (ask_at b (length area) event) r b area area frame frame command command) (sym g)
      (subst (λ (o : Outcomes). Asks b o refused_ask b area area frame frame command command) (sym (pick-false (is_ticketed b) _ _ e)) (as-refused _ e))

-- ---- an ask that was done writes a record

-- an answer that is done is given where nothing was refused before the event
done-before : (h : Held) (a : Answered) (o : Outcomes) → is_done (outcome_after h a o).answer ≡ true → a ≡ Done
done-before h Done o e = refl
done-before h Ignored o e = never e
done-before h (Refused number) o e = never e

before-done : (x : Ticketed) (area : ℕ) → answer_before x area ≡ Done → record_refusal x.replica.settings area ≡ 0
unfolding answer_before
before-done x area e = by (is_spent (tickets_of x.tickets)) (eqb (record_refusal x.replica.settings area) 0) refl refl
  where
    by : (s t : Bool) → is_spent (tickets_of x.tickets) ≡ s → eqb (record_refusal x.replica.settings area) 0 ≡ t
        → record_refusal x.replica.settings area ≡ 0
    by true t p q = never (ap is_done (sym (pick_true _ _ _ p)) ∙ ap is_done e)
    by false true p q = eqb-true _ _ q
    by false false p q = never (ap is_done (sym (pick-false _ _ _ p ∙ pick-false _ _ _ q)) ∙ ap is_done e)

-- the tables of settings in a record
tables-in : (b : List ℕ) → AllBytes b → is_record b ≡ true → TypedTables (replica_in b).settings.law
tables-in b bytes is =
    let t = (read-in-order b bytes is).settings in record {
      a = t.a-length;
      l = t.l-length;
      c = t.c-length;
      k = t.k-length;
      low = t.low-length;
      high = t.high-length;
      start = t.start-length;
    }

-- and of those in a replica with tickets
pub typed-tables : (b : List ℕ) → AllBytes b → is_ticketed b ≡ true → TypedTables (ticketed_in b).replica.settings.law
unfolding ticketed_in
typed-tables b bytes is = tables-in (record_of b) (bytes-part 0 record_length b bytes) (judged b is).stored

-- of a replica whose settings are typed, and that has ten places heard
pub length-record : (r : Replica) → TypedTables r.settings.law → length r.held.heard ≡ 10 → length (record_bytes r) ≡ record_length
unfolding record_bytes
length-record r t ten =
    rw length-append (omega (arith, length-settings r.settings t, length-recorded r.settings.law.n r.settings.law.m r.held ten))

-- the part of it that is not the settings', of a record put to the start of an area
held-of : (w area : List ℕ) → length w ≡ record_length → part (over w area) settings_length held_length ≡ drop settings_length w
held-of w area long =
    ap (take held_length) (drop-append-le settings_length w _ (omega (arith, long)))
    ∙ take_at (drop settings_length w) _ held_length (rw length-drop (omega (arith, long)))

-- ---- an ask at a replica with tickets

module _ (b : List ℕ) (bytes : AllBytes b) (is : is_ticketed b ≡ true) (event : Replica → Outcomes) where
  -- the value that is asked
  abbrev asker : Ticketed
  asker = askable (ticketed_in b).replica (tickets_at b)

  -- what the step of the latest ticket leaves does not count
  same_outcome : (area : ℕ) → ask_outcome asker area (event (ticketed_in b).replica) ≡ ask_at b area event
  unfolding ask_at ask_outcome answer_before ticketed_in
  same_outcome area = sym (pick_true (is_ticketed b) _ _ is)

  module _ {x : Ticketed} {same-event : Replica → Outcomes} {r : Value.Asked} {area area' frame frame' command command' : List ℕ} (same : x ≡ asker)
      (same-as : same-event ≡ event) (ten : length r.ticketed.tickets.held.heard ≡ 10)
      (given : Ask.Asks x (ask_outcome x (length area) (same-event x.replica)) r area area' frame frame' command command') where
    abbrev o : Outcomes
    o = ask_outcome asker (length area) (event (ticketed_in b).replica)

    abbrev ok : Bool
    ok = is_done o.answer

    abbrev beside : Beside.Tickets
    beside = r.ticketed.tickets

    gives : Ask.Asks asker o r area area' frame frame' command command'
    gives =
        subst (λ (x : Ticketed). Ask.Asks x (ask_outcome x (length area) (event x.replica)) r area area' frame frame' command command') same
        (subst (λ (e : Replica → Outcomes). Ask.Asks x (ask_outcome x (length area) (e x.replica)) r area area' frame frame' command command') same-as given)

    not-refused : ok ≡ true → record_refusal asker.replica.settings (length area) ≡ 0
    unfolding ask_outcome
    not-refused e = before-done asker (length area) (done-before _ (answer_before asker (length area)) _ e)

    whole-record : ok ≡ true → asked_record asker o (length area) ≡ record_bytes (step_of asker o)
    unfolding asked_record
    whole-record e = pick_true ok _ _ e ∙ (record-done (step_of asker o) (length area) (not-refused e)).1

    -- the largest ticket was given: the tickets are void
    module _ (spent : is_spent (tickets_at b) ≡ true) where
      spent-beside : beside ≡ tickets_in (voided (tickets_of asker.tickets))
      spent-beside = gives.tickets ∙ ap tickets_in (ask-spent (tickets_of asker.tickets) ok (held_of o.held) spent)

    -- it was not: a ticket more
    module _ (left : is_spent (tickets_at b) ≡ false) where
      next-beside : beside
          ≡ tickets_in (record { latest = (tickets_at b).latest + 1; pending = ok; step = pick ok (held_of o.held) asker.tickets.held })
      next-beside = gives.tickets ∙ ap tickets_in (ask-next (tickets_of asker.tickets) ok (held_of o.held) left)

      ten-after : ok ≡ true → length (held_of o.held).heard ≡ 10
      ten-after e =
          ap (λ (h : Held). length h.heard) (sym (ap (λ (t : Beside.Tickets). t.held) next-beside ∙ pick_true ok _ _ e)) ∙ ten

      -- what the step leaves is in the record that the ask gave
      step_given : ok ≡ true → part area' settings_length held_length ≡ drop settings_length (asked_record asker o (length area))
      step_given e =
          ap (λ (l : List ℕ). part l settings_length held_length) gives.record-bytes
          ∙ held-of (asked_record asker o (length area)) area (ap length (whole-record e) ∙ length-record (step_of asker o) (typed-tables b bytes is) (ten-after e))

    -- the tickets then
    record Left : Type 0 where
      latest : beside.latest ≡ (tickets_after b o (length area)).latest
      pending : beside.pending ≡ (tickets_after b o (length area)).pending
      step : pick beside.pending (part area' settings_length held_length) (tickets_at b).step ≡ (tickets_after b o (length area)).step

    left_by : (q : Bool) → is_spent (tickets_at b) ≡ q → Left
    unfolding asked_record pick
    left_by true e =
        let mine = spent-beside e in
        let theirs = ask-spent (tickets_at b) ok (drop settings_length (asked_record (ticketed_in b) o (length area))) e in record {
          latest = ap (λ (t : Beside.Tickets). t.latest) mine ∙ sym (ap (λ (t : Tickets (List ℕ)). t.latest) theirs);
          pending = ap (λ (t : Beside.Tickets). t.pending) mine ∙ sym (ap (λ (t : Tickets (List ℕ)). t.pending) theirs);
          step =
              ap (λ (t : Beside.Tickets). pick t.pending (part area' settings_length held_length) (tickets_at b).step) mine
              ∙ sym (ap (λ (t : Tickets (List ℕ)). t.step) theirs);
        }
    left_by false e =
        let mine = next-beside e in
        let theirs = ask-next (tickets_at b) ok (drop settings_length (asked_record (ticketed_in b) o (length area))) e in record {
          latest = ap (λ (t : Beside.Tickets). t.latest) mine ∙ sym (ap (λ (t : Tickets (List ℕ)). t.latest) theirs);
          pending = ap (λ (t : Beside.Tickets). t.pending) mine ∙ sym (ap (λ (t : Tickets (List ℕ)). t.pending) theirs);
          step =
              ap (λ (t : Beside.Tickets). pick t.pending (part area' settings_length held_length) (tickets_at b).step) mine
              ∙ pick_same ok _ _ (tickets_at b).step (step_given e)
              ∙ sym (ap (λ (t : Tickets (List ℕ)). t.step) theirs);
        }

    -- where the ticket can be committed, the record area has room for a record
    room_by : (q : Bool) → is_spent (tickets_at b) ≡ q → beside.pending ≡ true → record_length ≤ length area
    room_by true e p = never (sym (ap (λ (t : Beside.Tickets). t.pending) (spent-beside e)) ∙ p)
    room_by false e p = (ready _ (length area) (not-refused (sym (ap (λ (t : Beside.Tickets). t.pending) (next-beside e)) ∙ p))).room

    pub ask-room : beside.pending ≡ true → record_length ≤ length area
    ask-room = room_by (is_spent (tickets_at b)) refl

    area-noted : (b' : List ℕ) → b' ≡ noted b beside.latest beside.pending area' → b' ≡ asked_area b o (length area)
    unfolding asked_area
    area-noted b' e =
        let l = left_by (is_spent (tickets_at b)) refl in
        e
        ∙ (λ i. record_of b ++ ticket_bytes (record { latest = l.latest i; pending = l.pending i; step = l.step i }))
        ∙ sym (pick_true (is_ticketed b) _ _ is)

    asked-as : (b' : List ℕ) → b' ≡ noted b beside.latest beside.pending area' → Asks b o (asked_as r) b' area area' frame frame' command command'
    unfolding ticket_at asked_record
    asked-as b' e = record {
      answer = gives.answer;
      ticket = gives.ticket ∙ sym (pick_true (is_ticketed b) _ _ is);
      replica = area-noted b' e;
      record-bytes = gives.record-bytes;
      frame-length = gives.frame-length;
      command-length = gives.command-length;
      frame-bytes = gives.frame-bytes;
      command-bytes = gives.command-bytes;
    }

    pub asked : (r' : Asked) (b' : List ℕ) → r' ≡ asked_as r → b' ≡ noted b beside.latest beside.pending area'
        → Asks b (ask_at b (length area) event) r' b' area area' frame frame' command command'
    asked r' b' g e =
        subst (λ (o : Outcomes). Asks b o r' b' area area' frame frame' command command') (same_outcome (length area))
        (subst (λ (r' : Asked). Asks b o r' b' area area' frame frame' command command') (sym g) (asked-as b' e))

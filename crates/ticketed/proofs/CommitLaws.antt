-- What a commit gives, one condition after the other. Assumes nothing.
use mathlib.Core.Path.{◌≡◌, refl, sym, ap, ◌∙◌}
use mathlib.Core.Bool.{true, false, not}
use mathlib.Core.List.{List, [], ◌∷◌, ◌++◌, append_assoc}
use Prim.Native.Nat.{ℕ, ◌+◌}
use native.Mathlib.Omega.{arith}
use lib.ListN.{length, take, drop, replicate, length-append, length-replicate}
use lib.Seq.{take_all, length-take-le}
use lib.Dec.{eqb}
use Rattle.lists.specs.Choice.{pick}
use Rattle.lists.proofs.Choice.{pick_true, pick-false}
use Rattle.lists.proofs.Refusals.{none-holds, first_holds, first-fails}
use Rattle.octets.specs.Words.{AllBytes, little_endian, part}
use Rattle.octets.specs.Areas.{put}
use Rattle.octets.proofs.Numbers.{length_part}
use Rattle.estimate.specs.Marks.{bit}
use Rattle.scram.specs.Answers.{Done, Refused}
use Rattle.tickets.specs.Tickets.{Tickets, voided, commits}
use Rattle.tickets.proofs.Laws.{commit-made}
use Rattle.records.specs.Lengths.{settings_length, held_length, record_length}
use Rattle.ticketed.specs.Lengths.{ticket_length, ticketed_length}
use Rattle.ticketed.specs.TicketsPart.{ticket_bytes, tickets_at}
use Rattle.ticketed.specs.Reading.{step_record, is_ticketed}
use Rattle.ticketed.specs.Calls.{answer_of, committing_refusal, committing}
use Rattle.ticketed.proofs.Halves.{put_all}
use Rattle.ticketed.proofs.Judged.{judged}
use Rattle.ticketed.proofs.TicketsLaws.{tickets-written, mark-put}

-- ---- what the step leaves

-- it is copied by way of a list of its own
step-copied : (b step : List ℕ) → length b ≡ ticketed_length → step ≡ put (replicate held_length 0) 0 (part b 632 held_length)
    → part step 0 held_length ≡ (tickets_at b).step
unfolding tickets_at
step-copied b step long e =
    let l = length_part b 632 held_length (omega (arith, long)) in
    let blank = length-replicate {A = ℕ} held_length 0 in
    ap (take held_length) (e ∙ put_all (replicate held_length 0) (part b 632 held_length) (omega arith))
    ∙ take_all held_length (part b 632 held_length) (omega arith)

-- the three writes of a step that is made
pub step-made : (b step b₁ b₂ : List ℕ) → length b ≡ ticketed_length → step ≡ put (replicate held_length 0) 0 (part b 632 held_length)
    → b₁ ≡ put b settings_length (part step 0 held_length) → b₂ ≡ put b₁ 618 (0 ∷ []) → b₂ ≡ put (put b settings_length (tickets_at b).step) 618 (0 ∷ [])
step-made b step b₁ b₂ long e e₁ e₂ =
    e₂ ∙ ap (λ (l : List ℕ). put l 618 (0 ∷ [])) (e₁ ∙ ap (put b settings_length) (step-copied b step long e))

pub step-long : (b : List ℕ) → length b ≡ ticketed_length → length (tickets_at b).step ≡ held_length
unfolding tickets_at
step-long b long = length_part b 632 held_length (omega (arith, long))

pub step-record-long : (b : List ℕ) → length b ≡ ticketed_length → length (step_record b) ≡ record_length
step-record-long b long =
    rw length-append (omega (arith, length-take-le settings_length b (omega (arith, long)), step-long b long))

-- with the mark at 0, tickets are void
pub mark-void : (p : List ℕ) → length p ≡ record_length → (t : Tickets (List ℕ)) → put (p ++ ticket_bytes t) 618 (0 ∷ []) ≡ p ++ ticket_bytes (voided t)
unfolding ticket_bytes pick
mark-void p long t = mark-put p long (bit t.pending) 0 (little_endian ticket_length t.latest ++ t.step)

-- ---- the answer, and the area

module _ (b : List ℕ) (ticket : ℕ) where
  refusing : (number : ℕ) → committing_refusal b ticket ≡ number → eqb number 0 ≡ false
      → (Refused number ≡ answer_of (committing_refusal b ticket)) × (b ≡ committing b ticket)
  unfolding committing
  refusing number e n =
      let no = ap (λ (x : ℕ). eqb x 0) e ∙ n in (sym (pick-false _ _ _ no ∙ ap Refused e), sym (pick-false _ _ _ no))

  pub commit-15 : is_ticketed b ≡ false → (Refused 15 ≡ answer_of (committing_refusal b ticket)) × (b ≡ committing b ticket)
  unfolding committing_refusal
  commit-15 e = refusing 15 (first_holds 15 _ _ (ap not e)) refl

  module _ (is : is_ticketed b ≡ true) where
    pub commit-17 : commits (tickets_at b) ticket ≡ false → (Refused 17 ≡ answer_of (committing_refusal b ticket)) × (b ≡ committing b ticket)
    unfolding committing_refusal
    commit-17 e = refusing 17 (first-fails 15 _ _ (ap not is) ∙ first_holds 17 _ _ (ap not e)) refl

    pub commit-0 : commits (tickets_at b) ticket ≡ true → committing_refusal b ticket ≡ 0
    unfolding committing_refusal
    commit-0 e = first-fails 15 _ _ (ap not is) ∙ first-fails 17 _ _ (ap not e) ∙ none-holds

    -- the record is the one that the ask gave, and the tickets' part stays
    step-put : AllBytes b → put b settings_length (tickets_at b).step ≡ step_record b ++ ticket_bytes (tickets_at b)
    unfolding put
    step-put bytes =
        let j = judged b is in
        ap (λ (n : ℕ). take settings_length b ++ ((tickets_at b).step ++ drop (settings_length + n) b)) (step-long b j.long)
        ∙ ap (λ (t : List ℕ). take settings_length b ++ ((tickets_at b).step ++ t)) (sym (tickets-written b bytes j.long j.head))
        ∙ sym (append_assoc (take settings_length b) (tickets_at b).step (ticket_bytes (tickets_at b)))

    pub commit-done : AllBytes b → commits (tickets_at b) ticket ≡ true
        → (Done ≡ answer_of (committing_refusal b ticket)) × (put (put b settings_length (tickets_at b).step) 618 (0 ∷ []) ≡ committing b ticket)
    unfolding committing
    commit-done bytes e =
        let done = ap (λ (x : ℕ). eqb x 0) (commit-0 e) in (
          sym (pick_true _ _ _ done),
          ap (λ (l : List ℕ). put l 618 (0 ∷ [])) (step-put bytes)
              ∙ mark-void (step_record b) (step-record-long b (judged b is).long) (tickets_at b)
              ∙ ap (λ (t : Tickets (List ℕ)). step_record b ++ ticket_bytes t) (sym (commit-made (tickets_at b) ticket e))
              ∙ sym (pick_true _ _ _ done),
        )

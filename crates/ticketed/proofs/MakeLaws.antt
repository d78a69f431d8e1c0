-- What tickets for a record give, one condition after the other. Assumes nothing.
use mathlib.Core.Path.{◌≡◌, refl, sym, ap, ◌∙◌}
use mathlib.Core.Bool.{true, false, not}
use mathlib.Core.List.{List}
use Prim.Native.Nat.{ℕ}
use native.Mathlib.Omega.{arith}
use lib.ListN.{length, set, replicate}
use lib.Dec.{eqb, ltb}
use borrow.Author.Tests.{ltb-false}
use Rattle.lists.specs.Choice.{pick}
use Rattle.lists.proofs.Choice.{pick_true, pick-false}
use Rattle.lists.proofs.Refusals.{none-holds, first_holds, first-fails}
use Rattle.octets.specs.Words.{little_endian, part}
use Rattle.octets.specs.Areas.{put, over}
use Rattle.octets.proofs.Areas.{then-put, put_front}
use Rattle.scram.specs.Answers.{Done, Refused}
use Rattle.records.specs.Lengths.{record_length}
use Rattle.records.specs.Reading.{is_record}
use Rattle.ticketed.specs.Lengths.{tickets_length, ticketed_length}
use Rattle.ticketed.specs.TicketsPart.{head_bytes, ticket_bytes}
use Rattle.ticketed.specs.Calls.{answer_of, fresh_tickets, tickets_refusal, with_tickets}

-- ---- the part where no ticket was given

-- all of it is 0, but for the letter and the version
pub fresh-part : part (set (set (replicate tickets_length 0) 0 84) 1 1) 0 tickets_length ≡ ticket_bytes fresh_tickets
unfolding ticket_bytes head_bytes little_endian pick
fresh-part = refl

pub fresh-length : length (ticket_bytes fresh_tickets) ≡ tickets_length
unfolding ticket_bytes head_bytes little_endian
fresh-length = refl

-- ---- the answer, and what is written

module _ (b area : List ℕ) where
  refusing : (number : ℕ) → tickets_refusal b (length area) ≡ number → eqb number 0 ≡ false
      → (Refused number ≡ answer_of (tickets_refusal b (length area))) × (area ≡ over (with_tickets b (length area)) area)
  unfolding with_tickets
  refusing number e n =
      let no = ap (λ (x : ℕ). eqb x 0) e ∙ n in
      (sym (pick-false _ _ _ no ∙ ap Refused e), sym (ap (λ (w : List ℕ). over w area) (pick-false _ _ _ no)))

  pub tickets-15 : is_record b ≡ false → (Refused 15 ≡ answer_of (tickets_refusal b (length area))) × (area ≡ over (with_tickets b (length area)) area)
  unfolding tickets_refusal
  tickets-15 e = refusing 15 (first_holds 15 _ _ (ap not e)) refl

  module _ (is : is_record b ≡ true) where
    pub tickets-5 : ltb (length area) ticketed_length ≡ true
        → (Refused 5 ≡ answer_of (tickets_refusal b (length area))) × (area ≡ over (with_tickets b (length area)) area)
    unfolding tickets_refusal
    tickets-5 s = refusing 5 (first-fails 15 _ _ (ap not is) ∙ first_holds 5 _ _ s) refl

    -- the record, and the part behind it
    pub tickets-done : (area₁ area₂ : List ℕ) → length b ≡ record_length → ltb (length area) ticketed_length ≡ false
        → area₁ ≡ over b area → area₂ ≡ put area₁ record_length (ticket_bytes fresh_tickets)
        → (Done ≡ answer_of (tickets_refusal b (length area))) × (area₂ ≡ over (with_tickets b (length area)) area)
    unfolding tickets_refusal with_tickets
    tickets-done area₁ area₂ long s e₁ e₂ =
        let z : tickets_refusal b (length area) ≡ 0 = first-fails 15 _ _ (ap not is) ∙ first-fails 5 _ _ s ∙ none-holds in
        let done = ap (λ (x : ℕ). eqb x 0) z in (
          sym (pick_true _ _ _ done),
          then-put area area₁ area₂ 0 record_length b (ticket_bytes fresh_tickets) (e₁ ∙ sym (put_front area b)) e₂ (omega (arith, long))
              (omega (arith, fresh-length, ltb-false (length area) ticketed_length s))
              ∙ put_front area _
              ∙ sym (ap (λ (w : List ℕ). over w area) (pick_true _ _ _ done)),
        )

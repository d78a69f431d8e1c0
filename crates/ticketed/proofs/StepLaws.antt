-- What the steps without an ask give, from what the steps of a replica give. Assumes nothing.
use mathlib.Core.Path.{◌≡◌, refl, sym, ap, ◌∙◌, subst}
use mathlib.Core.Bool.{true, false}
use mathlib.Core.List.{List, [], ◌∷◌, ◌++◌}
use Prim.Native.Nat.{ℕ, ◌≤◌}
use native.Mathlib.Omega.{arith}
use lib.ListN.{length, drop}
use lib.IntN.{ℤ}
use borrow.Author.Tests.{le-ltb}
use Rattle.lists.specs.Choice.{pick}
use Rattle.lists.proofs.Choice.{pick_true, pick-false, pick_same}
use Rattle.octets.specs.Words.{AllBytes}
use Rattle.octets.specs.Areas.{put, over}
use Rattle.readings.specs.declared.Readings.{Readings}
use Rattle.scram.specs.Answers.{Answered, answered}
use Rattle.scram.specs.Events.{refusing}
use Rattle.scram.specs.Held as Scram
use Rattle.tickets.specs.Tickets.{Tickets, after_step}
use Rattle.tickets.proofs.Laws.{step-made}
use Rattle.replica.specs.declared.Replica.{Replica}
use Rattle.replica.specs.declared.Stepped as Plain
use Rattle.replica.specs.Calls.{Outcomes, Gives}
use Rattle.records.specs.Lengths.{record_length}
use Rattle.records.specs.Recording.{record_refusal, record_bytes, recorded}
use Rattle.records.specs.Reading.{is_done, replica_in}
use Rattle.records.proofs.Recorded.{not-refused, record-done}
use Rattle.records.proofs.IsRecord.{record-stands}
use Rattle.asks.specs.Asking.{step_of}
use Rattle.ticketed.specs.declared.Stepped.{Stepped}
use Rattle.ticketed.specs.TicketsPart.{ticket_bytes, tickets_at}
use Rattle.ticketed.specs.Reading.{record_of, ticketed_in, is_ticketed}
use Rattle.ticketed.specs.Calls.{step_at, stepped_area, Steps, stepped_as, refused_step}
use Rattle.ticketed.proofs.Judged.{judged}
use Rattle.ticketed.proofs.TicketsLaws.{tickets-written}
use Rattle.ticketed.proofs.CommitLaws.{mark-void}
use Rattle.ticketed.proofs.AskLaws.{length-record, typed-tables}

-- ---- 15

module _ (b frame command : List ℕ) where
  as-refused : (h : Scram.Held (List ℤ) Readings) → Steps b (refusing h 15) refused_step b frame frame command command
  unfolding stepped_area pick
  as-refused h = record { answer = refl; replica = refl; frame-length = refl; command-length = refl; frame-bytes = refl; command-bytes = refl }

  pub steps-refused : (event : Replica → Outcomes) (r : Stepped) → is_ticketed b ≡ false → r ≡ refused_step
      → Steps b (step_at b event) r b frame frame command command
  unfolding step_at
  steps-refused event r e g =
      subst (λ (r : Stepped). Steps b (step_at b event) r b frame frame command command) (sym g)
      (subst (λ (o : Outcomes). Steps b o refused_step b frame frame command command) (sym (pick-false (is_ticketed b) _ _ e)) (as-refused _))

-- ---- a step at a replica with tickets

module _ (b : List ℕ) (bytes : AllBytes b) (is : is_ticketed b ≡ true) (event : Replica → Outcomes) where
  stands : (area : ℕ) → record_length ≤ area → record_refusal (ticketed_in b).replica.settings area ≡ 0
  unfolding ticketed_in
  stands area room = sym (not-refused (replica_in (record_of b)).settings area (record-stands (record_of b) (judged b is).stored) (le-ltb _ _ room))

  module _ {x : Replica} {same-event : Replica → Outcomes} {s : Plain.Stepped} {frame frame' command command' : List ℕ}
      (same : x ≡ (ticketed_in b).replica) (same-as : same-event ≡ event) (ten : length s.replica.held.heard ≡ 10)
      (given : Gives x.settings (same-event x) s frame frame' command command') where
    abbrev o : Outcomes
    o = event (ticketed_in b).replica

    gives : Gives (ticketed_in b).replica.settings o s frame frame' command command'
    gives =
        subst (λ (x : Replica). Gives x.settings (event x) s frame frame' command command') same
        (subst (λ (e : Replica → Outcomes). Gives x.settings (e x) s frame frame' command command') same-as given)

    -- the record, then the tickets' part as it was
    record-over : over (recorded s.replica (length b)) b ≡ record_bytes (step_of (ticketed_in b) o) ++ ticket_bytes (tickets_at b)
    record-over =
        let j = judged b is in
        let z = (record-done (step_of (ticketed_in b) o) (length b) (stands (length b) (omega (arith, j.long)))).1 in
        let l = length-record (step_of (ticketed_in b) o) (typed-tables b bytes is) (ap (λ (r : Replica). length r.held.heard) (sym gives.replica) ∙ ten) in
        ap (λ (r : Replica). over (recorded r (length b)) b) gives.replica
        ∙ ap (λ (w : List ℕ). over w b) z
        ∙ ap (λ (n : ℕ). record_bytes (step_of (ticketed_in b) o) ++ drop n b) l
        ∙ ap (λ (t : List ℕ). record_bytes (step_of (ticketed_in b) o) ++ t) (sym (tickets-written b bytes j.long j.head))

    -- with the mark at 0
    void-over : is_done o.answer ≡ true
        → put (over (recorded s.replica (length b)) b) 618 (0 ∷ [])
        ≡ record_bytes (step_of (ticketed_in b) o) ++ ticket_bytes (after_step (tickets_at b) (is_done o.answer))
    void-over e =
        let l = length-record (step_of (ticketed_in b) o) (typed-tables b bytes is) (ap (λ (r : Replica). length r.held.heard) (sym gives.replica) ∙ ten) in
        ap (λ (t : List ℕ). put t 618 (0 ∷ [])) record-over
        ∙ mark-void (record_bytes (step_of (ticketed_in b) o)) l (tickets_at b)
        ∙ ap (λ (t : Tickets (List ℕ)). record_bytes (step_of (ticketed_in b) o) ++ ticket_bytes t) (sym (step-made (tickets_at b) (is_done o.answer) e))

    -- what a step leaves in the area
    abbrev left : List ℕ
    left = pick (is_done (answered s.answer)) (put (over (recorded s.replica (length b)) b) 618 (0 ∷ [])) b

    area-left : left ≡ stepped_area b o
    unfolding stepped_area
    area-left =
        ap (λ (a : Answered). pick (is_done a) (put (over (recorded s.replica (length b)) b) 618 (0 ∷ [])) b) gives.answer
        ∙ pick_same (is_done o.answer) _ _ b void-over

    stepped-as : Steps b o (stepped_as s) left frame frame' command command'
    stepped-as = record {
      answer = gives.answer;
      replica = area-left;
      frame-length = gives.frame-length;
      command-length = gives.command-length;
      frame-bytes = gives.frame-bytes;
      command-bytes = gives.command-bytes;
    }

    same_step : o ≡ step_at b event
    unfolding step_at
    same_step = sym (pick_true (is_ticketed b) _ _ is)

    pub stepped : (r : Stepped) (b' : List ℕ) → r ≡ stepped_as s → b' ≡ left → Steps b (step_at b event) r b' frame frame' command command'
    stepped r b' g e =
        subst (λ (o : Outcomes). Steps b o r b' frame frame' command command') same_step
        (subst (λ (r : Stepped). Steps b o r b' frame frame' command command') (sym g)
        (subst (λ (b' : List ℕ). Steps b o (stepped_as s) b' frame frame' command command') (sym e) stepped-as))

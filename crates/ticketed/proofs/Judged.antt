-- Which bytes are a replica with tickets, one condition after the other: callers need not open the definitions. Assumes nothing.
use mathlib.Core.Path.{◌≡◌, sym, ap, ◌∙◌}
use mathlib.Core.Bool.{Bool, true, false, not, ◌&&◌}
use mathlib.Core.List.{List, ◌++◌, append-nil}
use Prim.Native.Nat.{ℕ}
use native.Mathlib.Omega.{arith}
use lib.ListN.{length, replicate, length-append, length-replicate}
use lib.Dec.{eqb}
use borrow.Author.Tests.{eqb-true}
use Rattle.lists.specs.Choice.{pick}
use Rattle.lists.proofs.Booleans.{both}
use Rattle.lists.proofs.Choice.{pick_true, pick-false}
use Rattle.lists.proofs.Parts.{drop-beyond}
use Rattle.octets.specs.Words.{part}
use Rattle.octets.specs.Areas.{put}
use Rattle.octets.proofs.Numbers.{length_part}
use Rattle.octets.proofs.Areas.{then-put, put_front}
use Rattle.replica.specs.Settings.{blank_settings}
use Rattle.replica.specs.Calls.{fresh_of}
use Rattle.records.specs.Lengths.{settings_length, held_length, record_length}
use Rattle.records.specs.Reading.{layout_ok, is_record, replica_in, read_replica}
use Rattle.records.proofs.IsRecord.{layout-length}
use Rattle.ticketed.specs.Lengths.{ticketed_length}
use Rattle.ticketed.specs.TicketsPart.{tickets_at}
use Rattle.ticketed.specs.Reading.{record_of, step_record, ticketed_in, head_ok, step_ok, tickets_ok, is_ticketed}

module _ (b : List ℕ) where
  -- ---- the step of the latest ticket

  -- no ticket can be committed
  pub none-waits : (tickets_at b).pending ≡ false → true ≡ step_ok b
  unfolding step_ok
  none-waits e = sym (pick-false _ _ _ e)

  module _ (waits : (tickets_at b).pending ≡ true) where
    -- ticket 0 is no ask's
    pub zero-waits : eqb (tickets_at b).latest 0 ≡ true → false ≡ step_ok b
    unfolding step_ok
    zero-waits e = sym (pick_true _ _ _ waits ∙ ap (λ (t : Bool). not t && is_record (step_record b)) e)

    pub step-judged : eqb (tickets_at b).latest 0 ≡ false → is_record (step_record b) ≡ step_ok b
    unfolding step_ok
    step-judged e = sym (pick_true _ _ _ waits ∙ ap (λ (t : Bool). not t && is_record (step_record b)) e)

    -- so it leaves a record, and the ticket is not 0
    pub step-record : step_ok b ≡ true → (eqb (tickets_at b).latest 0 ≡ false) × (is_record (step_record b) ≡ true)
    unfolding step_ok
    step-record e =
        let p = both (not (eqb (tickets_at b).latest 0)) _ (sym (pick_true _ _ _ waits) ∙ e) in (not-zero (eqb (tickets_at b).latest 0) p.0, p.1)
      where
        not-zero : (t : Bool) → not t ≡ true → t ≡ false
        not-zero true q = sym q
        not-zero false q = sym (ap not q)

  -- its bytes, copied one part after the other to as many bytes as a record has
  pub step-copied : (l₁ l₂ : List ℕ) → length b ≡ ticketed_length → l₁ ≡ put (replicate record_length 0) 0 (part b 0 settings_length)
      → l₂ ≡ put l₁ settings_length (part b 632 held_length) → l₂ ≡ step_record b
  unfolding tickets_at put
  step-copied l₁ l₂ long e₁ e₂ =
      let first = length_part b 0 settings_length (omega (arith, long)) in
      let second = length_part b 632 held_length (omega (arith, long)) in
      let blank = length-replicate {A = ℕ} record_length 0 in
      then-put (replicate record_length 0) l₁ l₂ 0 settings_length (part b 0 settings_length) (part b 632 held_length) e₁ e₂ (omega arith) (omega arith)
      ∙ put_front (replicate record_length 0) (step_record b)
      ∙ ap (λ (t : List ℕ). step_record b ++ t) (drop-beyond (replicate record_length 0) (length (step_record b)) (rw length-append (omega arith)))
      ∙ append-nil (step_record b)

  -- ---- the tickets' part

  pub not-long : eqb (length b) ticketed_length ≡ false → false ≡ tickets_ok b
  unfolding tickets_ok
  not-long e = rw e

  module _ (long : eqb (length b) ticketed_length ≡ true) where
    pub no-head : head_ok b ≡ false → false ≡ tickets_ok b
    unfolding tickets_ok
    no-head e = rw (long, e)

    pub head_passed : head_ok b ≡ true → step_ok b ≡ tickets_ok b
    unfolding tickets_ok
    head_passed e = rw (long, e)

  -- ---- all

  pub no-tickets : tickets_ok b ≡ false → false ≡ is_ticketed b
  unfolding is_ticketed
  no-tickets e = rw e

  pub record-judged : tickets_ok b ≡ true → is_record (record_of b) ≡ is_ticketed b
  unfolding is_ticketed
  record-judged e = rw e

  pub tickets-long : tickets_ok b ≡ true → length b ≡ ticketed_length
  unfolding tickets_ok
  tickets-long e = eqb-true _ _ (both (eqb (length b) ticketed_length) _ e).0

  -- the replica that reading gives is the one in it
  pub replica-read : is_record (record_of b) ≡ is_ticketed b
      → read_replica (record_of b) ≡ pick (is_ticketed b) (ticketed_in b).replica (fresh_of blank_settings)
  unfolding read_replica ticketed_in
  replica-read e = ap (λ (t : Bool). pick t (replica_in (record_of b)) (fresh_of blank_settings)) e

  -- what a replica with tickets tells
  pub record Judged : Type 0 where
    pub long : length b ≡ ticketed_length
    pub stored : is_record (record_of b) ≡ true
    pub head : head_ok b ≡ true
    pub step : step_ok b ≡ true

  pub judged : is_ticketed b ≡ true → Judged
  unfolding is_ticketed tickets_ok
  judged e =
      let p = both (tickets_ok b) _ e in
      let q = both (eqb (length b) ticketed_length) _ p.0 in
      let r = both (head_ok b) _ q.1 in
      record { long = eqb-true _ _ q.0; stored = p.1; head = r.0; step = r.1 }

-- a record is as long as it must be
pub record-length : (b : List ℕ) → is_record b ≡ true → length b ≡ record_length
unfolding is_record
record-length b e = layout-length b (both (layout_ok b) _ e).0

-- Tickets (document 02, L6): "Asking an event yields the answer, record, frame and command it would give, with a ticket, making no step; committing that
-- ticket makes exactly that step". What a step leaves is any type: what a replica holds, the bytes of it in an area, or the entry of a history.
use Rattle.std.specs.Prelude.{ℕ, ◌+◌, Bool, false, not, ◌&&◌, eqb}
use Rattle.lists.specs.Choice.{pick}
use Rattle.lists.specs.Refusals.{Refusal, refusal}

-- "Tickets stand beside the replica": the latest one given, 0 before the first; whether it can be committed; and what the step leaves that the latest ask
-- with the answer ok was for.
pub record Tickets (Step : Type 0) : Type 0 where
  pub latest : ℕ
  pub pending : Bool
  pub step : Step

-- "have 64 bits": the largest one
abbrev pub largest_ticket : ℕ
largest_ticket = 18446744073709551615

module _ {Step : Type 0} where
  -- "count from 1 after each making or return": none was given
  abbrev pub no_tickets : Step → Tickets Step
  no_tickets s = record { latest = 0; pending = false; step = s }

  -- ---- asking

  -- "an ask after the largest is ignored before any check"
  abbrev pub is_spent : Tickets Step → Bool
  is_spent t = eqb t.latest largest_ticket

  -- the ticket that an ask gets: the next one, or then "ticket 0"
  abbrev pub ticket_for : Tickets Step → ℕ
  ticket_for t = pick (is_spent t) 0 (t.latest + 1)

  -- "voids the earlier ticket"
  abbrev pub voided : Tickets Step → Tickets Step
  voided t = record { latest = t.latest; pending = false; step = t.step }

  -- An ask whose step leaves s, and whether its answer is ok. "A new ask of any answer .. voids the earlier ticket", and its own can be committed unless
  -- "that ask ignored or refused".
  unfoldable pub after_ask : Tickets Step → Bool → Step → Tickets Step
  after_ask t ok s = pick (is_spent t) (voided t) (record { latest = t.latest + 1; pending = ok; step = pick ok s t.step })

  -- ---- a step without an ask

  -- "or a step made, voids the earlier ticket": a step is made where its answer is ok
  unfoldable pub after_step : Tickets Step → Bool → Tickets Step
  after_step t ok = pick ok (voided t) t

  -- ---- committing

  -- whether this ticket makes its step: the latest ask's, neither void nor committed
  unfoldable pub commits : Tickets Step → ℕ → Bool
  commits t ticket = eqb ticket t.latest && t.pending

  -- "17 ticket not the latest ask's, void or committed, or that ask ignored or refused"
  abbrev pub commit_refusal : Tickets Step → ℕ → Refusal
  commit_refusal t ticket = refusal 17 (not (commits t ticket))

  -- the tickets then: committing makes a step, so the ticket is void
  unfoldable pub after_commit : Tickets Step → ℕ → Tickets Step
  after_commit t ticket = after_step t (commits t ticket)

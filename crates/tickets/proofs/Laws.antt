-- What asks, steps and commits do with tickets, case by case: callers need not open the definitions. Assumes nothing.
use mathlib.Core.Path.{◌≡◌, refl, ap, ap₂, ◌∙◌}
use mathlib.Core.Bool.{Bool, true, false, ◌&&◌}
use Prim.Native.Nat.{ℕ, ◌+◌}
use lib.Dec.{eqb}
use borrow.Author.Tests.{eq-eqb}
use Rattle.lists.specs.Choice.{pick}
use Rattle.lists.proofs.Choice.{pick_true, pick-false}
use Rattle.tickets.specs.Tickets.{Tickets, is_spent, ticket_for, voided, after_ask, after_step, commits, after_commit}

module _ {Step : Type 0} (t : Tickets Step) where
  -- ---- asking

  -- after the largest ticket
  pub ticket-spent : is_spent t ≡ true → ticket_for t ≡ 0
  ticket-spent e = pick_true (is_spent t) 0 (t.latest + 1) e

  pub ask-spent : (ok : Bool) (s : Step) → is_spent t ≡ true → after_ask t ok s ≡ voided t
  unfolding after_ask
  ask-spent ok s e = pick_true (is_spent t) _ _ e

  -- before it
  pub ticket-next : is_spent t ≡ false → ticket_for t ≡ t.latest + 1
  ticket-next e = pick-false (is_spent t) 0 (t.latest + 1) e

  pub ask-next : (ok : Bool) (s : Step) → is_spent t ≡ false
      → after_ask t ok s ≡ record { latest = t.latest + 1; pending = ok; step = pick ok s t.step }
  unfolding after_ask
  ask-next ok s e = pick-false (is_spent t) _ _ e

  -- an ask that is not ok: whatever its step would leave
  pub ask-no : (s s' : Step) → after_ask t false s ≡ after_ask t false s'
  unfolding after_ask pick
  ask-no s s' = refl

  -- one that is ok, while tickets are left: its ticket can be committed, and makes its step
  pub asked-commits : (s : Step) → is_spent t ≡ false → commits (after_ask t true s) (ticket_for t) ≡ true
  unfolding commits
  asked-commits s e =
      ap₂ (λ (u : Tickets Step) k. eqb k u.latest && u.pending) (ask-next true s e) (ticket-next e) ∙ ap (λ b. b && true) (eq-eqb (t.latest + 1) (t.latest + 1) refl)

  pub asked-step : (s : Step) → is_spent t ≡ false → (after_ask t true s).step ≡ s
  unfolding pick
  asked-step s e = ap (λ (u : Tickets Step). u.step) (ask-next true s e)

  -- ---- a step without an ask

  pub step-made : (ok : Bool) → ok ≡ true → after_step t ok ≡ voided t
  unfolding after_step
  step-made ok e = pick_true ok (voided t) t e

  pub step-not-made : (ok : Bool) → ok ≡ false → after_step t ok ≡ t
  unfolding after_step
  step-not-made ok e = pick-false ok (voided t) t e

  -- ---- committing

  module _ (ticket : ℕ) where
    -- another ticket than the latest
    pub another : eqb ticket t.latest ≡ false → commits t ticket ≡ false
    unfolding commits
    another e = ap (λ b. b && t.pending) e

    -- the latest one
    pub the-latest : eqb ticket t.latest ≡ true → commits t ticket ≡ t.pending
    unfolding commits
    the-latest e = ap (λ b. b && t.pending) e

    pub commit-made : commits t ticket ≡ true → after_commit t ticket ≡ voided t
    unfolding after_commit
    commit-made e = step-made (commits t ticket) e

    pub commit-refused : commits t ticket ≡ false → after_commit t ticket ≡ t
    unfolding after_commit
    commit-refused e = step-not-made (commits t ticket) e

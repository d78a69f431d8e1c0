-- What a commit gives, case by case. Assumes nothing.
use mathlib.Core.Path.{◌≡◌, sym, ap, ◌∙◌}
use mathlib.Core.Bool.{true, false}
use Prim.Native.Nat.{ℕ}
use Rattle.lists.proofs.Choice.{pick_true, pick-false}
use Rattle.scram.specs.Answers.{Done, Refused}
use Rattle.replica.specs.declared.Replica.{Replica}
use Rattle.tickets.specs.Tickets.{commits, voided}
use Rattle.tickets.proofs.Laws.{commit-made, commit-refused}
use Rattle.asks.specs.declared.Tickets.{Tickets}
use Rattle.asks.specs.declared.Ticketed.{Ticketed}
use Rattle.asks.specs.Asking.{tickets_of, tickets_in, commit_answer, committed_replica, committed}

module _ (x : Ticketed) (ticket : ℕ) where
  -- by 17, and all stays
  pub commit-refuses : commits (tickets_of x.tickets) ticket ≡ false → (Refused 17 ≡ commit_answer x ticket) × (x ≡ committed x ticket)
  unfolding committed
  commit-refuses e =
      let with : Replica → Tickets → Ticketed = λ r t. record { replica = r; tickets = t } in (
        sym (pick-false _ Done (Refused 17) e),
        ap (λ r. with r x.tickets) (sym (pick-false _ (record { settings = x.replica.settings; held = x.tickets.held }) x.replica e))
            ∙ ap (λ t. with (committed_replica x ticket) (tickets_in t)) (sym (commit-refused (tickets_of x.tickets) ticket e)),
      )

  -- the step is made, and the ticket is void
  pub commit-makes : (t : Tickets) → commits (tickets_of x.tickets) ticket ≡ true → tickets_of t ≡ voided (tickets_of x.tickets)
      → (Done ≡ commit_answer x ticket)
      × (record { replica = record { settings = x.replica.settings; held = x.tickets.held }; tickets = t } ≡ committed x ticket)
  unfolding committed
  commit-makes t e v =
      let with : Replica → Tickets → Ticketed = λ r u. record { replica = r; tickets = u } in (
        sym (pick_true _ Done (Refused 17) e),
        ap (λ r. with r t) (sym (pick_true _ (record { settings = x.replica.settings; held = x.tickets.held }) x.replica e))
            ∙ ap (λ u. with (committed_replica x ticket) (tickets_in u)) (v ∙ sym (commit-made (tickets_of x.tickets) ticket e)),
      )

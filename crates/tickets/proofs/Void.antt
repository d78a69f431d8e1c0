-- What asks, steps and commits leave to be committed. Assumes nothing.
use mathlib.Core.Path.{◌≡◌}
use mathlib.Core.Logic.{◌⊎◌, inl, inr}
use mathlib.Core.Bool.{Bool, not, ◌&&◌, ◌||◌}
use Prim.Native.Nat.{ℕ}
use lib.Dec.{T, T_not, not_T, eqb}
use Rattle.lists.proofs.Booleans.{and_right, nand-right, or_cases, is_true}
use Rattle.lists.proofs.Choice.{pick-ok, pick_true}
use Rattle.tickets.specs.Tickets.{Tickets, is_spent, after_ask, after_step, commits, after_commit}

-- no ticket can be committed
abbrev pub Void : {Step : Type 0} → Tickets Step → Type 0
Void t = T (not t.pending)

module _ {Step : Type 0} (t : Tickets Step) where
  -- ---- asking

  -- what can be committed after an ask is its own step
  pub ask-step : (ok : Bool) (s : Step) → T (after_ask t ok s).pending → (after_ask t ok s).step ≡ s
  unfolding after_ask
  ask-step ok s =
      pick-ok (λ (z : Tickets Step). T z.pending → z.step ≡ s) (is_spent t) _ _ (λ _ u. absurd u)
      (λ _ u. pick_true ok s t.step (is_true ok u))

  -- where its answer is not ok, or no ticket is left, none can be committed
  pub ask-void : (ok : Bool) (s : Step) → T (not (ok && not (is_spent t))) → Void (after_ask t ok s)
  unfolding after_ask
  ask-void ok s h =
      pick-ok (λ (z : Tickets Step). Void z) (is_spent t) _ _ (λ _. tt)
      (λ u. not_T ok (λ k. T_not (not (is_spent t)) (nand-right ok (not (is_spent t)) h k) u))

  -- ---- a step without an ask

  -- after a step made none can be committed, and after one not made none if none could be before
  pub step-void : (ok : Bool) → T (ok || not t.pending) → Void (after_step t ok)
  unfolding after_step
  step-void ok h = pick-ok (λ (z : Tickets Step). Void z) ok _ _ (λ _. tt) (λ n. before n (or_cases ok (not t.pending) h))
    where
      before : T (not ok) → T ok ⊎ Void t → Void t
      before n (inl u) = absurd (T_not ok n u)
      before n (inr u) = u

  -- ---- committing

  -- a ticket that makes its step could be committed
  pub commit-pending : (ticket : ℕ) → T (commits t ticket) → T t.pending
  unfolding commits
  commit-pending ticket h = and_right (eqb ticket t.latest) t.pending h

  -- and then none can be
  pub commit-void : (ticket : ℕ) → T (commits t ticket) → Void (after_commit t ticket)
  unfolding after_commit after_step
  commit-void ticket h =
      pick-ok (λ (z : Tickets Step). Void z) (commits t ticket) _ _ (λ _. tt) (λ n. absurd (T_not (commits t ticket) n h))

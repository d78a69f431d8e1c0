-- The calls of a replica with tickets are calls at one box. Assumes nothing.
use Prim.Native.Nat.{ℕ}
use mathlib.Core.Path.{◌≡◌, refl, sym, ap, ap₂, ◌∙◌}
use mathlib.Core.Bool.{Bool, true, false}
use mathlib.Core.Option.{some}
use lib.Dec.{eqb}
use Rattle.lists.specs.Choice.{pick}
use Rattle.lists.proofs.Choice.{pick-false}
use Rattle.std.specs.Prelude.{Result, Ok, Err, IfOk}
use Rattle.refusal.specs.declared.Refusal.{Refusal}
use Rattle.scram.specs.Answers.{Done, Ignored, Refused, answered_of}
use Rattle.scram.specs.Events.{refusing, ignoring}
use Rattle.replica.specs.declared.Held.{Held}
use Rattle.replica.specs.declared.Replica.{Replica}
use Rattle.replica.specs.Held.{held_in, held_of}
use Rattle.replica.specs.Calls.{Outcomes}
use Rattle.records.specs.Recording.{record_refusal}
use Rattle.records.specs.Reading.{is_done}
use Rattle.tickets.specs.Tickets as Of
use Rattle.tickets.specs.Tickets.{is_spent, after_ask, after_step, commits, after_commit}
use Rattle.tickets.proofs.Laws.{ask-spent}
use Rattle.tickets.specs.Calls.{Asked, Committed, Box, after, given}
use Rattle.asks.specs.declared.Ticketed.{Ticketed}
use Rattle.asks.specs.Asking.{tickets_of, answer_before, outcome_after, ask_outcome, commit_answer, committed}
use Rattle.asks.proofs.CommitLaws.{commit-refuses}
use Rattle.asks.specs.AsCalls.{looked, box_of, left_by, AskIsCall, StepIsCall, CommitIsCall, ReturnIsCall}

-- a box, of its two parts
abbrev box_with : Held → Of.Tickets Held → Box Held
box_with h t = record { replica = h; tickets = t }

-- ---- asks

module _ (x : Ticketed) (area : ℕ) (o : Outcomes) where
  abbrev spent : Bool
  spent = is_spent (tickets_of x.tickets)

  abbrev seen : Outcomes
  seen = looked x.replica.settings (some area) x.replica.held o

  -- after the largest ticket an ask is ignored, and else looked at as the box's call is
  asked-outcome : ask_outcome x area o ≡ pick spent (ignoring (held_in x.replica.held)) seen
  unfolding ask_outcome answer_before pick
  asked-outcome = by spent (eqb (record_refusal x.replica.settings area) 0)
    where
      by : (b c : Bool)
          → outcome_after x.replica.held (pick b Ignored (pick c Done (Refused (record_refusal x.replica.settings area)))) o
          ≡ pick b (ignoring (held_in x.replica.held)) (pick c o (refusing (held_in x.replica.held) (record_refusal x.replica.settings area)))
      by true c = refl
      by false true = refl
      by false false = refl

  -- the tickets then: after the largest nothing depends on the outcome
  asked-tickets : (p : Outcomes) → p ≡ pick spent (ignoring (held_in x.replica.held)) seen
      → after_ask (tickets_of x.tickets) (is_done p.answer) (held_of p.held)
      ≡ after_ask (tickets_of x.tickets) (is_done seen.answer) (held_of seen.held)
  asked-tickets p e = by spent refl
    where
      with : Outcomes → Of.Tickets Held
      with q = after_ask (tickets_of x.tickets) (is_done q.answer) (held_of q.held)

      by : (b : Bool) → spent ≡ b → with p ≡ with seen
      by true f = ask-spent (tickets_of x.tickets) _ _ f ∙ sym (ask-spent (tickets_of x.tickets) _ _ f)
      by false f = ap with (e ∙ pick-false _ _ _ f)

pub ask-is-call : AskIsCall
unfolding after given
ask-is-call x i r area area' frame frame' command command' a = (
  ap₂ box_with (ap (λ (y : Replica). y.held) a.replica)
      (ap tickets_of a.tickets ∙ asked-tickets x _ _ _ (asked-outcome x _ _)),
  ap₂ Asked (asked-outcome x _ _) a.ticket,
)

-- ---- steps

pub step-is-call : StepIsCall
unfolding after given
step-is-call x i r frame frame' command command' a =
    (ap₂ box_with (ap (λ (y : Replica). y.held) a.replica) (ap tickets_of a.tickets), refl)

-- ---- commits

taken : (b : Bool) → is_done (pick b Done (Refused 17)) ≡ b
unfolding pick
taken true = refl
taken false = refl

moved : (x : Ticketed) (b : Bool)
    → (pick b (record { settings = x.replica.settings; held = x.tickets.held }) x.replica).held ≡ pick b x.tickets.held x.replica.held
unfolding pick
moved x true = refl
moved x false = refl

-- where a commit is refused, its definition leaves what was handed in too
left-as : (x : Ticketed) (ticket : ℕ) (r : Result Ticketed Refusal) → answered_of r ≡ commit_answer x ticket
    → IfOk r (λ (y : Ticketed). y ≡ committed x ticket) → left_by x r ≡ committed x ticket
left-as x ticket (Ok y) e a = a
left-as x ticket (Err refusal) e a =
    (commit-refuses x ticket (sym (taken (commits (tickets_of x.tickets) ticket)) ∙ ap is_done (sym e))).1

pub commit-is-call : CommitIsCall
unfolding after given committed
commit-is-call x ticket r e a = (
  ap (box_of x.replica.settings) (left-as x ticket r e a)
      ∙ ap (λ h. box_with h (after_commit (tickets_of x.tickets) ticket)) (moved x (commits (tickets_of x.tickets) ticket)),
  ap (λ y. Committed (is_done y)) e ∙ ap Committed (taken (commits (tickets_of x.tickets) ticket)),
)

-- ---- made or returned

pub return-is-call : ReturnIsCall
unfolding after
return-is-call s h b = refl

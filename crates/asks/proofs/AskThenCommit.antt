-- Asking and committing give what the step gives. Assumes nothing.
use Prim.Native.Nat.{ℕ, ◌≤◌}
use mathlib.Core.Path.{◌≡◌, refl, sym, ap, ap₂, ◌∙◌, subst}
use mathlib.Core.Bool.{Bool, true, false, not}
use mathlib.Core.List.{List, []}
use lib.ListN.{length}
use lib.Dec.{eqb}
use borrow.Author.Tests.{eqb-true, eqb-false, eq-eqb, le-ltb, ne_eqb}
use Rattle.lists.proofs.Choice.{pick_true, pick-false}
use Rattle.octets.specs.Areas.{over}
use Rattle.transmitters.specs.declared.Reading.{Reading}
use Rattle.scram.specs.Answers.{Answered, Done, Refused}
use Rattle.scram.specs.Events.{refusing}
use Rattle.scram.specs.Held.{Input, Tick, Arrival, GiveUp}
use Rattle.replica.specs.declared.Held.{Held}
use Rattle.replica.specs.declared.Replica.{Replica}
use Rattle.replica.specs.declared.Settings.{Settings}
use Rattle.replica.specs.declared.Stepped as Plain
use Rattle.replica.specs.Settings.{settings_refusal}
use Rattle.replica.specs.Held.{held_in, held_of}
use Rattle.replica.specs.Calls.{Outcomes, step_refusal, checked, tick_outcome, give_up_outcome, arrive_outcome, Gives}
use Rattle.replica.proofs.Calls.{checked_refused}
use Rattle.records.specs.Lengths.{record_length}
use Rattle.records.specs.Recording.{record_refusal, recorded}
use Rattle.records.specs.Reading.{is_done}
use Rattle.records.proofs.Recorded.{refused-settings, not-refused}
use Rattle.tickets.specs.Tickets as Of
use Rattle.tickets.specs.Tickets.{is_spent, ticket_for, after_ask, commits}
use Rattle.tickets.proofs.Laws.{asked-commits, asked-step}
use Rattle.asks.specs.declared.Ticketed.{Ticketed}
use Rattle.asks.specs.declared.Asked.{Asked}
use Rattle.asks.specs.Asking.{tickets_of, step_of, answer_before, outcome_after, ask_outcome, asked_record, Asks}
use Rattle.asks.specs.Asking.{committed}
use Rattle.asks.specs.AskThenCommit.{outcome_of, SameAsStep, AskThenCommit}
use Rattle.asks.proofs.AskLaws.{before-refused, before-done}

-- ---- where a ticket is left and the record area is long enough, an ask has the step's outcome

module _ (x : Ticketed) (area : ℕ) (left : is_spent (tickets_of x.tickets) ≡ false) (long : record_length ≤ area) (frame command : ℕ) where
  abbrev s : Settings
  s = x.replica.settings

  -- settings that are refused get their number from both
  refused-first : (settings_refusal s ≡ 0 → ⊥) → step_refusal s frame command ≡ settings_refusal s
  unfolding step_refusal
  refused-first n = pick_true _ _ _ (ap not (ne_eqb (settings_refusal s) 0 n))

  pub ask-checked : (o : Outcomes) → ask_outcome x area (checked x.replica frame command o) ≡ checked x.replica frame command o
  unfolding ask_outcome
  ask-checked o = by (eqb (settings_refusal s) 0) refl
    where
      with : Answered → Outcomes
      with a = outcome_after x.replica.held a (checked x.replica frame command o)

      by : (b : Bool) → eqb (settings_refusal s) 0 ≡ b → with (answer_before x area) ≡ checked x.replica frame command o
      by true e =
          let none = sym (not-refused s area (eqb-true _ _ e) (le-ltb area record_length long)) in
          ap with (before-done x area left (eq-eqb (record_refusal s area) 0 none))
      by false e =
          let n = eqb-false (settings_refusal s) 0 e in
          let same = refused-settings s area n in
          ap with (before-refused x area left (ne_eqb (record_refusal s area) 0 (λ z. n (same ∙ z))))
          ∙ ap (refusing (held_in x.replica.held)) (sym same ∙ sym (refused-first n))
          ∙ checked_refused x.replica frame command o (λ z. n (sym (refused-first n) ∙ z))

  pub ask-has : (e : Input (List Reading) (List ℕ)) → ask_outcome x area (outcome_of x.replica e frame command) ≡ outcome_of x.replica e frame command
  unfolding tick_outcome arrive_outcome give_up_outcome
  ask-has (Tick y) = ask-checked _
  ask-has (Arrival bytes) = ask-checked _
  ask-has GiveUp = ask-checked _

-- ---- an ask that was ok, and its commit

module _ {x : Ticketed} {o : Outcomes} {r : Asked} {area area' frame frame' command command' : List ℕ} (a : Asks x o r area area' frame frame' command command')
    (left : is_spent (tickets_of x.tickets) ≡ false) (done : is_done o.answer ≡ true) where
  abbrev t : Of.Tickets Held
  t = tickets_of x.tickets

  tickets-are : tickets_of r.ticketed.tickets ≡ after_ask t true (held_of o.held)
  tickets-are = ap tickets_of a.tickets ∙ ap (λ b. after_ask t b (held_of o.held)) done

  pub ticket-commits : commits (tickets_of r.ticketed.tickets) r.ticket ≡ true
  ticket-commits = ap₂ commits tickets-are a.ticket ∙ asked-commits t (held_of o.held) left

  held-is : r.ticketed.tickets.held ≡ held_of o.held
  held-is = ap (λ u. u.step) tickets-are ∙ asked-step t (held_of o.held) left

  pub replica-is : (committed r.ticketed r.ticket).replica ≡ step_of x o
  unfolding committed
  replica-is =
      let with : Settings → Held → Replica = λ y h. record { settings = y; held = h } in
      pick_true _ (with r.ticketed.replica.settings r.ticketed.tickets.held) r.ticketed.replica ticket-commits
      ∙ ap₂ with (ap (λ (y : Replica). y.settings) a.replica) held-is

-- ---- beside the step

beside : {x : Ticketed} {o : Outcomes} {s : Plain.Stepped} {r : Asked} {area area' frame frame' asked-frame command command' asked-command : List ℕ}
    → is_spent (tickets_of x.tickets) ≡ false → Gives x.replica.settings o s frame frame' command command'
    → Asks x o r area area' frame asked-frame command asked-command → SameAsStep x s r area area' frame' asked-frame command' asked-command
unfolding asked_record
beside {x} {o} {s} {r} {area} left g a = record {
  unstepped = a.replica;
  answer = a.answer ∙ sym g.answer;
  frame-length = a.frame-length ∙ sym g.frame-length;
  frame = a.frame-bytes ∙ sym g.frame-bytes;
  command-length = a.command-length ∙ sym g.command-length;
  command = a.command-bytes ∙ sym g.command-bytes;
  stored = λ d.
      a.record-bytes
      ∙ ap (λ b. over b area) (pick_true _ (recorded (step_of x o) (length area)) [] (sym (ap is_done g.answer) ∙ d))
      ∙ ap (λ (y : Replica). over (recorded y (length area)) area) (sym g.replica);
  nothing_stored = λ d. a.record-bytes ∙ ap (λ b. over b area) (pick-false _ (recorded (step_of x o) (length area)) [] (sym (ap is_done g.answer) ∙ d));
  commits = λ d. pick_true _ Done (Refused 17) (ticket-commits a left (sym (ap is_done g.answer) ∙ d));
  replica = λ d. replica-is a left (sym (ap is_done g.answer) ∙ d) ∙ sym g.replica;
}

pub ask-then-commit : AskThenCommit
ask-then-commit x e s r area area' frame frame' asked-frame command command' asked-command left long g a =
    beside left g
    (subst (λ (o : Outcomes). Asks x o r area area' frame asked-frame command asked-command) (ask-has x (length area) left long (length frame) (length command) e) a)

-- What the three asks and the three steps give, from what their parts give. Assumes nothing.
use mathlib.Core.Path.{◌≡◌, refl, sym, ap, ◌∙◌, subst}
use mathlib.Core.Bool.{true, false}
use mathlib.Core.List.{List, []}
use Prim.Native.Nat.{ℕ}
use lib.ListN.{length}
use lib.Dec.{eqb}
use Rattle.lists.specs.Choice.{pick}
use Rattle.lists.proofs.Booleans.{never}
use Rattle.lists.proofs.Choice.{pick_true, pick-false}
use Rattle.octets.specs.Areas.{over}
use Rattle.scram.specs.declared.Answer.{Answer}
use Rattle.scram.specs.Answers.{Answered, Done, Ignored, Refused, answered}
use Rattle.replica.specs.declared.Stepped as Plain
use Rattle.replica.specs.Calls.{Outcomes, Gives}
use Rattle.records.specs.Recording.{record_refusal, recorded}
use Rattle.records.specs.Reading.{is_done}
use Rattle.tickets.specs.Tickets.{is_spent, after_ask, after_step}
use Rattle.tickets.proofs.Laws.{ask-no}
use Rattle.asks.specs.declared.Ticketed.{Ticketed}
use Rattle.asks.specs.declared.Asked.{Asked}
use Rattle.asks.specs.declared.Stepped.{Stepped}
use Rattle.asks.specs.Asking.{tickets_of, tickets_in, answer_before, outcome_after, ask_outcome, asked_record, Asks, Steps, ask_giving, step_giving}

-- ---- what is answered before the event is looked at

module _ (x : Ticketed) (area : ℕ) where
  pub before-spent : is_spent (tickets_of x.tickets) ≡ true → answer_before x area ≡ Ignored
  unfolding answer_before
  before-spent e = pick_true _ _ _ e

  pub before-refused : is_spent (tickets_of x.tickets) ≡ false → eqb (record_refusal x.replica.settings area) 0 ≡ false
      → answer_before x area ≡ Refused (record_refusal x.replica.settings area)
  unfolding answer_before
  before-refused e f = pick-false _ _ _ e ∙ pick-false _ _ _ f

  pub before-done : is_spent (tickets_of x.tickets) ≡ false → eqb (record_refusal x.replica.settings area) 0 ≡ true → answer_before x area ≡ Done
  unfolding answer_before
  before-done e f = pick-false _ _ _ e ∙ pick_true _ _ _ f

-- an answer that is done
done-is : (a : Answered) → is_done a ≡ true → a ≡ Done
done-is Done e = refl
done-is Ignored e = never e
done-is (Refused number) e = never e

-- ---- asks

module _ (x : Ticketed) (o : Outcomes) (area frame command : List ℕ) where
  -- an ask that is answered before its event is looked at
  turned_as : (answer : Answer) → is_done (answered answer) ≡ false
      → Asks x (outcome_after x.replica.held (answered answer) o) (ask_giving x answer x.replica.held 0 0) area area frame frame command command
  unfolding asked_record pick
  turned_as Answer.Done e = never (sym e)
  turned_as Answer.Ignored e = record {
    answer = refl;
    ticket = refl;
    replica = refl;
    tickets = ap tickets_in (ask-no (tickets_of x.tickets) _ _);
    record-bytes = refl;
    frame-length = refl;
    command-length = refl;
    frame-bytes = refl;
    command-bytes = refl;
  }
  turned_as (Answer.Refused number) e = record {
    answer = refl;
    ticket = refl;
    replica = refl;
    tickets = ap tickets_in (ask-no (tickets_of x.tickets) _ _);
    record-bytes = refl;
    frame-length = refl;
    command-length = refl;
    frame-bytes = refl;
    command-bytes = refl;
  }

  pub turned : (answer : Answer) (r : Asked) → answered answer ≡ answer_before x (length area) → is_done (answered answer) ≡ false
      → r ≡ ask_giving x answer x.replica.held 0 0 → Asks x (ask_outcome x (length area) o) r area area frame frame command command
  unfolding ask_outcome
  turned answer r e n g =
      subst (λ (a : Answered). Asks x (outcome_after x.replica.held a o) r area area frame frame command command) e
      (subst (λ (r : Asked). Asks x (outcome_after x.replica.held (answered answer) o) r area area frame frame command command) (sym g)
      (turned_as answer n))

  -- an ask whose step gives this
  module _ {area' frame' command' : List ℕ} where
    offered-as : (s : Plain.Stepped) → Gives x.replica.settings o s frame frame' command command'
        → area' ≡ over (pick (is_done (answered s.answer)) (recorded s.replica (length area)) []) area
        → Asks x o (ask_giving x s.answer s.replica.held s.frame s.command) area area' frame frame' command command'
    unfolding asked_record
    offered-as s g w = record {
      answer = g.answer;
      ticket = refl;
      replica = refl;
      tickets =
          ap (λ a. tickets_in (after_ask (tickets_of x.tickets) (is_done a) s.replica.held)) g.answer
          ∙ ap (λ r. tickets_in (after_ask (tickets_of x.tickets) (is_done o.answer) r.held)) g.replica;
      record-bytes =
          w ∙ ap (λ a. over (pick (is_done a) (recorded s.replica (length area)) []) area) g.answer
          ∙ ap (λ r. over (pick (is_done o.answer) (recorded r (length area)) []) area) g.replica;
      frame-length = g.frame-length;
      command-length = g.command-length;
      frame-bytes = g.frame-bytes;
      command-bytes = g.command-bytes;
    }

    pub offered : (s : Plain.Stepped) (r : Asked) → is_done (answer_before x (length area)) ≡ true
        → Gives x.replica.settings o s frame frame' command command'
        → r ≡ ask_giving x s.answer s.replica.held s.frame s.command
        → area' ≡ over (pick (is_done (answered s.answer)) (recorded s.replica (length area)) []) area
        → Asks x (ask_outcome x (length area) o) r area area' frame frame' command command'
    unfolding ask_outcome
    offered s r e g h w =
        subst (λ (a : Answered). Asks x (outcome_after x.replica.held a o) r area area' frame frame' command command')
        (sym (done-is (answer_before x (length area)) e))
        (subst (λ (r : Asked). Asks x o r area area' frame frame' command command') (sym h) (offered-as s g w))

-- ---- a step without an ask

module _ (x : Ticketed) {o : Outcomes} {frame frame' command command' : List ℕ} where
  stepped-as : (s : Plain.Stepped) → Gives x.replica.settings o s frame frame' command command'
      → Steps x o (step_giving x s) frame frame' command command'
  stepped-as s g = record {
    answer = g.answer;
    replica = g.replica;
    tickets = ap (λ a. tickets_in (after_step (tickets_of x.tickets) (is_done a))) g.answer;
    frame-length = g.frame-length;
    command-length = g.command-length;
    frame-bytes = g.frame-bytes;
    command-bytes = g.command-bytes;
  }

  pub stepped-gives : (s : Plain.Stepped) (r : Stepped) → Gives x.replica.settings o s frame frame' command command' → r ≡ step_giving x s
      → Steps x o r frame frame' command command'
  stepped-gives s r g e = subst (λ (r : Stepped). Steps x o r frame frame' command command') (sym e) (stepped-as s g)

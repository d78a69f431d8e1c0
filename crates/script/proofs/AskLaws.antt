-- What asks and commits give at a box, from what their parts give. Assumes nothing.
use mathlib.Core.Path.{◌≡◌, refl, sym, ap, ◌∙◌}
use mathlib.Core.Bool.{Bool, true, false}
use mathlib.Core.List.{List, [], ◌∷◌}
use Prim.Native.Nat.{ℕ}
use lib.ListN.{replicate}
use denote.Enum.Declared.{tag_of}
use types.Run.{OneOf, miss}
use Rattle.lists.specs.Choice.{pick}
use Rattle.lists.proofs.Booleans.{never}
use Rattle.lists.proofs.Choice.{pick_true, pick-false, pick_same}
use Rattle.scram.specs.Answers.{Answered, Done, Refused, answered}
use Rattle.frame.specs.Lengths.{longest_frame, longest_command}
use Rattle.transmitters.specs.declared.Reading.{Reading}
use Rattle.replica.specs.declared.Held.{Held}
use Rattle.replica.specs.Held.{held_of}
use Rattle.replica.specs.Calls.{Outcomes}
use Rattle.records.specs.Lengths.{record_length}
use Rattle.records.specs.Reading.{is_done}
use Rattle.tickets.specs.Tickets.{Tickets, is_spent, after_ask, commits}
use Rattle.asks.specs.declared.Asked.{Asked}
use Rattle.asks.specs.declared.Ticketed.{Ticketed}
use Rattle.asks.specs.Asking as Of
use Rattle.asks.specs.Asking.{tickets_of, answer_before, outcome_after, ask_outcome, commit_answer}
use Rattle.line.specs.declared.events.Event.{Event}
use Rattle.line.specs.declared.events.Event.TheVariants.{Tick, GiveUp, Deliver, Store, Return, Commit, StoreAsked, Bad}
use Rattle.line.specs.contracts.events.Event as Events
use Rattle.script.specs.declared.boxes.Kept.{Kept}
use Rattle.script.specs.declared.asking.AskEffect as Given
use Rattle.script.specs.Asking.{Asks, asking, ask_giving, not_asked, ask_of}

-- ---- asks

-- after the largest ticket no ask is answered ok
spent : (x : Ticketed) (area : ℕ) (o : Outcomes) → is_spent (tickets_of x.tickets) ≡ true → is_done (ask_outcome x area o).answer ≡ false
unfolding ask_outcome answer_before
spent x area o e = ap (λ (a : Answered). is_done (outcome_after x.replica.held a o).answer) (pick_true _ _ _ e)

-- where its answer is ok, the ticket's step leaves what the outcome has
ticket-step : (x : Ticketed) (area : ℕ) (event : Outcomes) → let o = ask_outcome x area event in is_done o.answer ≡ true
    → (after_ask (tickets_of x.tickets) (is_done o.answer) (held_of o.held)).step ≡ held_of o.held
unfolding after_ask
ticket-step x area event ok = by (is_spent (tickets_of x.tickets)) refl
  where
    by : (t : Bool) → is_spent (tickets_of x.tickets) ≡ t
        → (after_ask (tickets_of x.tickets) (is_done (ask_outcome x area event).answer) (held_of (ask_outcome x area event).held)).step ≡ held_of (ask_outcome x area event).held
    by true e = never (sym (spent x area event e) ∙ ok)
    by false e = ap (λ (t : Tickets Held). t.step) (pick-false _ _ _ e) ∙ pick_true _ _ _ ok

module _ (b : Kept) (event : Outcomes) {one : Asked} {r : Given.AskEffect} {area' frame command : List ℕ} where
  pub asked-gives : Of.Asks b.ticketed (ask_outcome b.ticketed record_length event) one (replicate record_length 0) area'
      (replicate longest_frame 0) frame (replicate longest_command 0) command
      → r ≡ ask_giving b one frame command → Asks (asking b event) r
  unfolding asking
  asked-gives s e =
      let ok = ap is_done s.answer in
      record {
        answer = ap (λ (r : Given.AskEffect). answered r.answer) e ∙ s.answer;
        ticket = ap (λ (r : Given.AskEffect). r.ticket) e ∙ s.ticket;
        kept =
            ap (λ (r : Given.AskEffect). r.kept) e
            ∙ (λ i. record {
              ticketed = record { replica = s.replica i; tickets = s.tickets i };
              stored = b.stored;
              recorded = b.recorded;
              latest = record {
                ok = ok i;
                gave = record { frame = s.frame-bytes i; sent = s.frame-length i; command = s.command-bytes i; issued = s.command-length i };
              };
            });
        shown =
            ap (λ (r : Given.AskEffect). r.shown) e
            ∙ (λ i. pick (ok i) (record { settings = (s.replica i).settings; held = (s.tickets i).held }) (s.replica i))
            ∙ pick_same (is_done (ask_outcome b.ticketed record_length event).answer) _ _ _
            (λ e. ap (λ (h : Held). record { settings = b.ticketed.replica.settings; held = h }) (ticket-step b.ticketed record_length event e));
      }

-- any other event is not asked
pub other-asked : (b : Kept) (e : Event) (y : List Reading) (bytes : List ℕ) (r : Given.AskEffect)
    → OneOf (3 ∷ 4 ∷ 5 ∷ 6 ∷ 7 ∷ []) (tag_of Events.the_type e) → Asks (not_asked b) r → Asks (ask_of b e y bytes) r
unfolding ask_of
other-asked b (Tick at) y bytes r k a = absurd (miss (3 ∷ 4 ∷ 5 ∷ 6 ∷ 7 ∷ []) 0 tt k)
other-asked b (GiveUp at) y bytes r k a = absurd (miss (3 ∷ 4 ∷ 5 ∷ 6 ∷ 7 ∷ []) 1 tt k)
other-asked b (Deliver at f) y bytes r k a = absurd (miss (3 ∷ 4 ∷ 5 ∷ 6 ∷ 7 ∷ []) 2 tt k)
other-asked b (Store at) y bytes r k a = a
other-asked b (Return at n) y bytes r k a = a
other-asked b (Commit at t) y bytes r k a = a
other-asked b (StoreAsked at) y bytes r k a = a
other-asked b Bad y bytes r k a = a

-- ---- commits

done-where : (t : Bool) → is_done (pick t Done (Refused 17)) ≡ t
unfolding pick
done-where true = refl
done-where false = refl

-- a commit is answered ok where its ticket makes its step
pub commits-done : (b : Kept) (ticket : ℕ) → is_done (commit_answer b.ticketed ticket) ≡ commits (tickets_of b.ticketed.tickets) ticket
commits-done b ticket = done-where (commits (tickets_of b.ticketed.tickets) ticket)

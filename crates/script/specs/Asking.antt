-- Events asked first: what asks, commits and the records of asks give at a box.
use Rattle.std.specs.Prelude.{ℕ, ◌≡◌, List}
use Rattle.lists.specs.Choice.{pick}
use Rattle.transmitters.specs.declared.Reading.{Reading}
use Rattle.scram.specs.Answers.{Answered, Done, Ignored, answered}
use Rattle.replica.specs.declared.Replica.{Replica}
use Rattle.replica.specs.Held.{held_of}
use Rattle.replica.specs.Calls.{Outcomes}
use Rattle.records.specs.Lengths.{record_length}
use Rattle.records.specs.Reading.{is_done}
use Rattle.tickets.specs.Tickets.{ticket_for, after_ask, commits}
use Rattle.asks.specs.declared.Ticketed.{Ticketed}
use Rattle.asks.specs.declared.Asked.{Asked}
use Rattle.asks.specs.Asking.{tickets_of, tickets_in, step_of, ask_outcome, commit_answer, committed}
use Rattle.line.specs.declared.events.Event.{Event}
use Rattle.line.specs.declared.events.Event.TheVariants.{Tick, GiveUp, Deliver, Store, Return, Commit, StoreAsked, Bad}
use Rattle.script.specs.declared.boxes.Kept.{Kept}
use Rattle.script.specs.declared.asking.AskEffect as Given
use Rattle.script.specs.Boxes.{nothing, outgoing, with_ticketed, with_record, Effect, quietly, ticked, given_up, arrived}

-- ---- asks

-- the replica that the latest ask with the answer ok would make: the tickets have it "also after that ask was committed or voided"
abbrev pub asked_replica : Ticketed → Replica
asked_replica x = record { settings = x.replica.settings; held = x.tickets.held }

-- what an ask gives: its answer and its ticket, what is kept of the box then, and the replica that is shown
pub record Asking : Type 0 where
  pub answer : Answered
  pub ticket : ℕ
  pub kept : Kept
  pub shown : Replica

-- and as a value
pub record Asks (a : Asking) (r : Given.AskEffect) : Type 0 where
  pub answer : answered r.answer ≡ a.answer
  pub ticket : r.ticket ≡ a.ticket
  pub kept : r.kept ≡ a.kept
  pub shown : r.shown ≡ a.shown

-- an ask of this outcome: it makes no step, and is the latest
abbrev pub kept_asking : Kept → Outcomes → Kept
kept_asking b o = record {
  ticketed = record {
    replica = b.ticketed.replica;
    tickets = tickets_in (after_ask (tickets_of b.ticketed.tickets) (is_done o.answer) (held_of o.held));
  };
  stored = b.stored;
  recorded = b.recorded;
  latest = record { ok = is_done o.answer; gave = outgoing b.ticketed.replica.settings o };
}

-- "the period, view, bases and state that the step would leave (those of the replica as it is where the answer is not ok)"
abbrev pub shown_of : Kept → Outcomes → Replica
shown_of b o = pick (is_done o.answer) (step_of b.ticketed o) b.ticketed.replica

-- the ask of an event that would have this outcome, lent a record area
unfoldable pub asking : Kept → Outcomes → Asking
asking b event =
    let o = ask_outcome b.ticketed record_length event in
    record { answer = o.answer; ticket = ticket_for (tickets_of b.ticketed.tickets); kept = kept_asking b o; shown = shown_of b o }

-- an ask that gave this, with these areas, as a value: where its answer is ok, the replica that its ticket makes is shown
abbrev pub ask_giving : Kept → Asked → (frame command : List ℕ) → Given.AskEffect
ask_giving b a frame command = record {
  answer = a.answer;
  ticket = a.ticket;
  kept = record {
    ticketed = a.ticketed;
    stored = b.stored;
    recorded = b.recorded;
    latest = record { ok = is_done (answered a.answer); gave = record { frame = frame; sent = a.frame; command = command; issued = a.command } };
  };
  shown = pick (is_done (answered a.answer)) (asked_replica a.ticketed) a.ticketed.replica;
}

-- a line asks for no other event
abbrev pub not_asked : Kept → Asking
not_asked b = record { answer = Ignored; ticket = 0; kept = b; shown = b.ticketed.replica }

-- the ask of an event; bytes are those of the frame delivered
unfoldable pub ask_of : Kept → Event → List Reading → List ℕ → Asking
ask_of b (Tick at) y bytes = asking b (ticked b y)
ask_of b (GiveUp at) y bytes = asking b (given_up b)
ask_of b (Deliver at f) y bytes = asking b (arrived b bytes)
ask_of b (Store at) y bytes = not_asked b
ask_of b (Return at k) y bytes = not_asked b
ask_of b (Commit at t) y bytes = not_asked b
ask_of b (StoreAsked at) y bytes = not_asked b
ask_of b Bad y bytes = not_asked b

-- ---- commits

-- "box r commits ticket t": on ok what the ask gave leaves; on r17 "nothing changes"
abbrev pub committing : Kept → ℕ → Effect
committing b t = record {
  answer = commit_answer b.ticketed t;
  kept = with_ticketed b (committed b.ticketed t);
  gave = pick (commits (tickets_of b.ticketed.tickets) t) b.latest.gave nothing;
}

-- ---- records of asks

-- "the record that box r's latest ask gave is stored"
abbrev pub storing_asked : Kept → Effect
storing_asked b = quietly Done (with_record b (asked_replica b.ticketed))

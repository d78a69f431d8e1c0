-- The calls of a replica with tickets are calls at one box of crate tickets: what crate tickets says of an ask that is never committed (`NeverCommitted`)
-- is said of them. No call changes the settings, so the replica is what is held.
use Rattle.std.specs.Prelude.{ℕ, ◌≡◌, List, length, eqb, Ok, Err, IfOk}
use Rattle.std.specs.Prelude as Code
use Rattle.std.proofs.Math.Option.{Option, none, some}
use Rattle.lists.specs.Choice.{pick}
use Rattle.transmitters.specs.declared.Reading.{Reading}
use Rattle.refusal.specs.declared.Refusal.{Refusal}
use Rattle.scram.specs.Answers.{answered_of}
use Rattle.scram.specs.Held.{Input}
use Rattle.scram.specs.Events.{refusing, ignoring}
use Rattle.replica.specs.declared.Settings.{Settings}
use Rattle.replica.specs.declared.Held.{Held}
use Rattle.replica.specs.declared.Replica.{Replica}
use Rattle.replica.specs.Held.{held_in, held_of}
use Rattle.replica.specs.Calls.{Outcomes}
use Rattle.records.specs.Recording.{record_refusal}
use Rattle.records.specs.Reading.{is_done}
use Rattle.tickets.specs.Calls.{Result, Step, Ask, Commit, Return, Asked, Stepped, Committed, Box, after, given}
use Rattle.asks.specs.declared.Ticketed.{Ticketed}
use Rattle.asks.specs.declared.Asked as Declared
use Rattle.asks.specs.declared.Stepped as DeclaredStep
use Rattle.asks.specs.Asking.{tickets_of, ticketless, ask_outcome, Asks, Steps, commit_answer, committed}
use Rattle.asks.specs.AskThenCommit.{outcome_of}

-- an event, with the lengths of the areas lent: an ask has one for a record too
pub record Event : Type 0 where
  pub input : Input (List Reading) (List ℕ)
  pub area : Option ℕ
  pub frame : ℕ
  pub command : ℕ

module _ (s : Settings) where
  abbrev pub replica_of : Held → Replica
  replica_of h = record { settings = s; held = h }

  -- a record area is looked at before the event
  abbrev pub looked : Option ℕ → Held → Outcomes → Outcomes
  looked none h o = o
  looked (some area) h o = pick (eqb (record_refusal s area) 0) o (refusing (held_in h) (record_refusal s area))

  -- what an event gives; all that a call answers and writes is its outcome's (`Asks`, `Steps`)
  abbrev pub result : Held → Event → Result Held Outcomes
  result h e =
      let o = looked e.area h (outcome_of (replica_of h) e.input e.frame e.command) in
      record { ok = is_done o.answer; replica = held_of o.held; output = o }

  -- a replica with its tickets, as such a box
  abbrev pub box_of : Ticketed → Box Held
  box_of x = record { replica = x.replica.held; tickets = tickets_of x.tickets }

  abbrev pub ignored : Held → Outcomes
  ignored h = ignoring (held_in h)

-- an ask gives what the box's call gives, and leaves that box
abbrev pub AskIsCall : Type 0
AskIsCall = (x : Ticketed) (i : Input (List Reading) (List ℕ)) (r : Declared.Asked) (area area' frame frame' command command' : List ℕ)
    → let s = x.replica.settings in
    let e : Event = record { input = i; area = some (length area); frame = length frame; command = length command } in
    let o = ask_outcome x (length area) (outcome_of x.replica i (length frame) (length command)) in
    Asks x o r area area' frame frame' command command'
    → (box_of s r.ticketed ≡ after (result s) (ignored s) (box_of s x) (Ask e))
    × (Asked o r.ticket ≡ given (result s) (ignored s) (box_of s x) (Ask e))

-- a step that was not asked
abbrev pub StepIsCall : Type 0
StepIsCall = (x : Ticketed) (i : Input (List Reading) (List ℕ)) (r : DeclaredStep.Stepped) (frame frame' command command' : List ℕ)
    → let s = x.replica.settings in
    let e : Event = record { input = i; area = none; frame = length frame; command = length command } in
    let o = outcome_of x.replica i (length frame) (length command) in
    Steps x o r frame frame' command command'
    → (box_of s r.ticketed ≡ after (result s) (ignored s) (box_of s x) (Step e))
    × (Stepped o ≡ given (result s) (ignored s) (box_of s x) (Step e))

-- what a commit leaves: where it is refused, what was handed in
abbrev pub left_by : Ticketed → Code.Result Ticketed Refusal → Ticketed
left_by x (Ok ticketed) = ticketed
left_by x (Err refusal) = x

-- a commit
abbrev pub CommitIsCall : Type 0
CommitIsCall = (x : Ticketed) (ticket : ℕ) (r : Code.Result Ticketed Refusal) → answered_of r ≡ commit_answer x ticket
    → IfOk r (λ (y : Ticketed). y ≡ committed x ticket)
    → let s = x.replica.settings in
    (box_of s (left_by x r) ≡ after (result s) (ignored s) (box_of s x) (Commit ticket))
    × (Committed (is_done (answered_of r)) ≡ given (result s) (ignored s) (box_of s x) (Commit ticket))

-- a box that was made or returned as a replica of these settings
abbrev pub ReturnIsCall : Type 0
ReturnIsCall = (s : Settings) (h : Held) (b : Box Held) → box_of s (ticketless (replica_of s h)) ≡ after (result s) (ignored s) b (Return h)

-- The protocol (document 01, "Events", "Ignored" and the refusals 6 to 12): for each event the answer, the replica that comes back, the
-- frame sent and the command. The order of the refusals and of the grounds for ignoring is the order of the tests here.
use Rattle.std.specs.Prelude.{Bool, true, false, not, ◌&&◌, ◌||◌, ℕ, ◌+◌, eqb, leb, ltb}
use Rattle.std.proofs.Math.Option.{Option, none, some}
use Rattle.lists.specs.Choice.{pick}
use Rattle.scram.specs.Quorum.{nobody, among, with, count, beats}
use Rattle.scram.specs.Held.{Law, Group, Estimate, Best, Held, Kind, Message, Command, Outcome, no_estimate, no_best}
use Rattle.scram.specs.Answers.{Done, Ignored, Refused}

-- the largest period and the largest view, of 32 bits
abbrev pub largest : ℕ
largest = 4294967295

-- ---- refusals and grounds for ignoring, on plain numbers

-- 6: "period already 4,294,967,295"
abbrev pub last_period : ℕ → Bool
last_period period = leb largest period

-- 12: "view already 4,294,967,295"
abbrev pub last_view : ℕ → Bool
last_view view = leb largest view

-- 9: "sender not 1 to N, or the own number"
unfoldable pub bad_sender : ℕ → ℕ → ℕ → Bool
bad_sender N own sender = ltb sender 1 || ltb N sender || eqb sender own

-- 10: "Propose or Decide not from its view's coordinator; Ack or Estimate at a box that isn't"
unfoldable pub bad_place : Kind → ℕ → ℕ → ℕ → Bool
bad_place Kind.Propose coordinator own sender = not (eqb sender coordinator)
bad_place Kind.Ack coordinator own sender = not (eqb own coordinator)
bad_place Kind.Decide coordinator own sender = not (eqb sender coordinator)
bad_place Kind.Estimate coordinator own sender = not (eqb own coordinator)

-- 11: not as "Base fields: Ack both 0; Propose and Decide the view and the period; Estimate a base view below the view and a base
-- period not above the period."
unfoldable pub bad_base : Kind → ℕ → ℕ → ℕ → ℕ → Bool
bad_base Kind.Propose period view base_view base_period = not (eqb base_view view && eqb base_period period)
bad_base Kind.Ack period view base_view base_period = not (eqb base_view 0 && eqb base_period 0)
bad_base Kind.Decide period view base_view base_period = not (eqb base_view view && eqb base_period period)
bad_base Kind.Estimate period view base_view base_period = not (ltb base_view view && leb base_period period)

-- "frames and give-ups in period 0 or in a decided period"
abbrev pub idle : ℕ → Bool → Bool
idle period decided = eqb period 0 || decided

-- "a frame of another period; a frame of a lower view"
abbrev pub stale : ℕ → ℕ → ℕ → ℕ → Bool
stale period view frame_period frame_view = not (eqb frame_period period) || ltb frame_view view

-- "an Ack of a higher view or in view-change mode; an Estimate at the own view in normal mode; a second Ack or Estimate of one box".
-- An Estimate at a higher view empties the boxes heard first, so it is never a second one.
unfoldable pub unwanted : Kind → ℕ → Bool → Bool → ℕ → Bool
unwanted Kind.Propose view view_change heard frame_view = false
unwanted Kind.Ack view view_change heard frame_view = ltb view frame_view || view_change || heard
unwanted Kind.Decide view view_change heard frame_view = false
unwanted Kind.Estimate view view_change heard frame_view = eqb frame_view view && (not view_change || heard)

-- ---- what a step gives

module _ {State Readings Values : Type 0} where
  -- "A refusal returns its number, no frame and no command"; what is held comes back as it was
  abbrev pub refusing : Held State Readings → ℕ → Outcome State Readings Values
  refusing s number = record { answer = Refused number; held = s; sent = none; command = none }

  -- an event ignored: nothing changes and nothing is sent
  abbrev pub ignoring : Held State Readings → Outcome State Readings Values
  ignoring s = record { answer = Ignored; held = s; sent = none; command = none }

  -- what was called for: what is held then, and what is sent and issued
  abbrev pub doing : Held State Readings → Option (Message State Readings) → Option (Command Values) → Outcome State Readings Values
  doing s m c = record { answer = Done; held = s; sent = m; command = c }

-- ---- moves that need no law, and the grounds for ignoring a frame

module _ {State Readings : Type 0} where
  -- the better of the best estimate so far and another
  unfoldable pub better : Best State Readings → Best State Readings → Best State Readings
  better b c = pick (not b.any || beats c.base_view c.base_period c.box b.base_view b.base_period b.box) c b

  -- a box's own estimate, as one heard
  abbrev pub own_estimate : ℕ → Held State Readings → Best State Readings
  own_estimate own s = record {
    any = true;
    box = own;
    base_view = s.base_view;
    base_period = s.base_period;
    estimate = s.estimate;
  }

  -- the estimate that a frame carries, as one heard
  abbrev pub estimate_of : Message State Readings → Best State Readings
  estimate_of m = record {
    any = true;
    box = m.sender;
    base_view = m.base_view;
    base_period = m.base_period;
    estimate = m.estimate;
  }

  -- a view entered as its coordinator: "view-change mode, its own estimate is the first heard"
  abbrev pub entered : ℕ → Held State Readings → ℕ → Held State Readings
  entered own s view = record {
    period = s.period;
    view = view;
    base_view = s.base_view;
    view_change = true;
    decided = s.decided;
    estimate = s.estimate;
    base_period = s.base_period;
    heard = with nobody own;
    best = own_estimate own s;
  }

  -- one box more heard, and the best estimate then
  abbrev pub hearing : Held State Readings → ℕ → Best State Readings → Bool → Held State Readings
  hearing s box best decided = record {
    period = s.period;
    view = s.view;
    base_view = s.base_view;
    view_change = s.view_change;
    decided = decided;
    estimate = s.estimate;
    base_period = s.base_period;
    heard = with s.heard box;
    best = best;
  }

  -- the frames with an estimate: "Propose and Decide the view and the period"
  abbrev pub carrying : Kind → ℕ → ℕ → ℕ → Estimate State Readings → Message State Readings
  carrying kind own period view e = record {
    kind = kind;
    sender = own;
    period = period;
    view = view;
    base_view = view;
    base_period = period;
    estimate = e;
  }

  -- an Estimate has the bases as the replica holds them
  abbrev pub estimating : ℕ → Held State Readings → ℕ → Message State Readings
  estimating own s view = record {
    kind = Kind.Estimate;
    sender = own;
    period = s.period;
    view = view;
    base_view = s.base_view;
    base_period = s.base_period;
    estimate = s.estimate;
  }

  -- whether a frame is ignored
  abbrev pub ignores : Held State Readings → Message State Readings → Bool
  ignores s m =
      idle s.period s.decided
      || stale s.period s.view m.period m.view
      || unwanted m.kind s.view s.view_change (among s.heard m.sender) m.view

-- whether the box `own` coordinates a view
abbrev pub leads : Group → ℕ → ℕ → Bool
leads group own view = eqb own (group.coordinator view)

module _ {State Readings Values : Type 0} (law : Law State Readings Values) where
  -- "The state becomes Update of the estimate's state and readings, except on the first tick (period 0 to 1)."
  abbrev pub next_state : Held State Readings → State
  next_state s = pick (eqb s.period 0) s.estimate.state (law.update s.estimate.state s.estimate.readings)

  -- "Period rises by 1, the readings are taken, base view and base period stay, decided is cleared."
  abbrev pub ticked : Held State Readings → Readings → Held State Readings
  ticked s y = record {
    period = s.period + 1;
    view = s.view;
    base_view = s.base_view;
    view_change = s.view_change;
    decided = false;
    estimate = record { state = next_state s; readings = y };
    base_period = s.base_period;
    heard = nobody;
    best = no_best law;
  }

  -- a view entered as another box: normal mode
  abbrev pub following : Held State Readings → ℕ → Held State Readings
  following s view = record {
    period = s.period;
    view = view;
    base_view = s.base_view;
    view_change = false;
    decided = s.decided;
    estimate = s.estimate;
    base_period = s.base_period;
    heard = nobody;
    best = no_best law;
  }

  -- "View and estimate are adopted, base view is the view, mode is normal"; base period is the period, as in the frame
  abbrev pub adopting : Held State Readings → ℕ → Estimate State Readings → Bool → Held State Readings
  adopting s view e decided = record {
    period = s.period;
    view = view;
    base_view = view;
    view_change = false;
    decided = decided;
    estimate = e;
    base_period = s.period;
    heard = nobody;
    best = no_best law;
  }

  -- "Mode is normal, base period becomes the period and base view the view"
  abbrev pub proposing : ℕ → Held State Readings → Estimate State Readings → Held State Readings
  proposing own s e = record {
    period = s.period;
    view = s.view;
    base_view = s.view;
    view_change = false;
    decided = s.decided;
    estimate = e;
    base_period = s.period;
    heard = with nobody own;  -- "the coordinator counts itself as having acknowledged"
    best = no_best law;
  }

  -- "A box that decides issues the command of Update(estimate's state, estimate's readings)."
  abbrev pub command_of : ℕ → Estimate State Readings → Command Values
  command_of period e = record { period = period; values = law.command e.state e.readings }

  -- "Base fields: Ack both 0"
  abbrev pub acknowledging : ℕ → ℕ → ℕ → Message State Readings
  acknowledging own period view = record {
    kind = Kind.Ack;
    sender = own;
    period = period;
    view = view;
    base_view = 0;
    base_period = 0;
    estimate = no_estimate law;
  }

  -- ---- the rules, for the box `own` of a group

  module _ (group : Group) (own : ℕ) where
    -- "Propose goes to all others": an estimate is proposed, the own one or the best heard
    abbrev pub propose : Held State Readings → Estimate State Readings → Outcome State Readings Values
    propose s e = doing (proposing own s e) (some (carrying Kind.Propose own s.period s.view e)) none

    -- "View plus 1. If the box is now coordinator: view-change mode, its own estimate is the first heard. Otherwise: normal mode and its
    -- Estimate goes to the new coordinator."
    unfoldable pub raise : Held State Readings → Outcome State Readings Values
    raise s =
        pick (leads group own (s.view + 1)) (doing (entered own s (s.view + 1)) none none)
        (doing (following s (s.view + 1)) (some (estimating own s (s.view + 1))) none)

    -- "In view-change mode the view is then raised. In normal mode a coordinator proposes."
    unfoldable pub after_tick : Held State Readings → Outcome State Readings Values
    unfolding raise
    after_tick s = pick s.view_change (raise s) (pick (leads group own s.view) (propose s s.estimate) (doing s none none))

    -- Tick with readings: 6, then 7 (`beyond` tells whether there is a present mark at or above m), then 12, then the rule
    unfoldable pub tick : Held State Readings → Bool → Readings → Outcome State Readings Values
    unfolding after_tick
    tick s beyond y =
        pick (last_period s.period) (refusing s 6)
        (pick beyond (refusing s 7)
        (pick (s.view_change && last_view s.view) (refusing s 12)
        (after_tick (ticked s y))))

    -- Give up the view: "Raises it, unless the box is coordinator in normal mode." "ignoring a give-up comes before 12"
    unfoldable pub give_up : Held State Readings → Outcome State Readings Values
    unfolding raise
    give_up s =
        pick (idle s.period s.decided) (ignoring s)
        (pick (not s.view_change && leads group own s.view) (ignoring s)
        (pick (last_view s.view) (refusing s 12)
        (raise s)))

    -- Ack arrives: at "a, the boxes needed to decide", "the box decides: Decide to all others, and the command."
    unfoldable pub hear_ack : Held State Readings → ℕ → Outcome State Readings Values
    hear_ack s box =
        pick (leb group.to_decide (count (among (with s.heard box)) group.size))
        (doing (hearing s box s.best true) (some (carrying Kind.Decide own s.period s.view s.estimate))
        (some (command_of s.period s.estimate)))
        (doing (hearing s box s.best s.decided) none none)

    -- Estimate arrives: at "b, the boxes heard before a new coordinator proposes", "it takes the best estimate whole and proposes."
    unfoldable pub hear_estimate : Held State Readings → Best State Readings → Outcome State Readings Values
    hear_estimate s c =
        pick (leb group.to_propose (count (among (with s.heard c.box)) group.size))
        (propose s (better s.best c).estimate)
        (doing (hearing s c.box (better s.best c) s.decided) none none)

    -- a frame that is neither refused nor ignored
    unfoldable pub receive : Kind → Held State Readings → Message State Readings → Outcome State Readings Values
    unfolding hear_ack hear_estimate
    -- "View and estimate are adopted, .., Ack goes back. A repeated one is acknowledged again."
    receive Kind.Propose s m = doing (adopting s m.view m.estimate s.decided) (some (acknowledging own s.period m.view)) none
    receive Kind.Ack s m = hear_ack s m.sender
    -- "Adopted like Propose, no Ack; the box decides and issues the command."
    receive Kind.Decide s m = doing (adopting s m.view m.estimate true) none (some (command_of s.period m.estimate))
    -- "At a higher view the box first enters it in view-change mode with its own estimate heard."
    receive Kind.Estimate s m = pick (ltb s.view m.view) (hear_estimate (entered own s m.view) (estimate_of m)) (hear_estimate s (estimate_of m))

    -- "Frame refusals are found before any ground for ignoring"
    unfoldable pub arrive : Held State Readings → Message State Readings → Outcome State Readings Values
    unfolding receive
    arrive s m =
        pick (bad_sender group.size own m.sender) (refusing s 9)
        (pick (bad_place m.kind (group.coordinator m.view) own m.sender) (refusing s 10)
        (pick (bad_base m.kind m.period m.view m.base_view m.base_period) (refusing s 11)
        (pick (ignores s m) (ignoring s)
        (receive m.kind s m))))

    -- a frame arrives: what reading its bytes found, if it found anything; else 8
    unfoldable pub arrival : Held State Readings → Option (Message State Readings) → Outcome State Readings Values
    unfolding arrive
    arrival s none = refusing s 8
    arrival s (some m) = arrive s m

-- The definitions compute: a group of three through a power cycle, and an order of storing that the conditions rule out. Assumes nothing.
use mathlib.Core.Path.{◌≡◌, refl}
use mathlib.Core.Bool.{false}
use mathlib.Core.List.{List, [], ◌∷◌, map}
use mathlib.Core.Option.{Option, none, some}
use Prim.Native.Nat.{ℕ, ◌+◌, ◌/◌}
use lib.ListN.{get_or}
use lib.Dec.{eqb}
use Rattle.lists.specs.Choice.{pick}
use Rattle.scram.specs.Quorum.{majority, coordinator, beats, count}
use Rattle.scram.specs.Held.{Law, Group, Held, Message, Command, Input, Tick, Arrival, GiveUp, Outcome, fresh}
use Rattle.scram.specs.declared.Kind.{Kind}
use Rattle.scram.specs.Events.{better, bad_sender, bad_place, bad_base, unwanted, raise, after_tick, tick, give_up, hear_ack, hear_estimate, receive, arrive}
use Rattle.scram.specs.History.{Result, System}
use Rattle.scram.specs.Shown.{is_refused}
use Rattle.power.specs.Demand3.{Entry, Event, Store, FrameLeaves, CommandLeaves, Return, Storage, step, steps, after}
use Rattle.power.specs.Returns.{missed}

-- ---- a group of three

-- the bench's law, on natural numbers: half of what the reading differs by is added
abbrev halfway : ℕ → Option ℕ → ℕ
halfway x none = x
halfway x (some y) = (x + y) / 2

abbrev pub law : Law ℕ (Option ℕ) ℕ
law = record { update = halfway; command = halfway; start = 0; none = none; blank = 0 }

abbrev group : Group
group = record { size = 3; to_decide = majority 3; to_propose = majority 3; coordinator = coordinator 3 }

pub record Replica : Type 0 where
  own : ℕ
  held : Held ℕ (Option ℕ)

-- frames and commands as lists of numbers
abbrev kind_number : Kind → ℕ
kind_number Kind.Propose = 1
kind_number Kind.Ack = 2
kind_number Kind.Decide = 3
kind_number Kind.Estimate = 4

abbrev kind_of : ℕ → Kind
kind_of k = pick (eqb k 1) Kind.Propose (pick (eqb k 2) Kind.Ack (pick (eqb k 3) Kind.Decide Kind.Estimate))

-- a reading as two numbers: 0 0 where it is absent
abbrev reading_bytes : Option ℕ → List ℕ
reading_bytes none = 0 ∷ 0 ∷ []
reading_bytes (some y) = 1 ∷ y ∷ []

abbrev bytes : Message ℕ (Option ℕ) → List ℕ
bytes m =
    kind_number m.kind ∷ m.sender ∷ m.period ∷ m.view ∷ m.base_view ∷ m.base_period ∷ m.estimate.state ∷ reading_bytes m.estimate.readings

abbrev read : List ℕ → Message ℕ (Option ℕ)
read l = record {
  kind = kind_of (get_or l 0 0);
  sender = get_or l 1 0;
  period = get_or l 2 0;
  view = get_or l 3 0;
  base_view = get_or l 4 0;
  base_period = get_or l 5 0;
  estimate = record { state = get_or l 6 0; readings = pick (eqb (get_or l 7 0) 0) none (some (get_or l 8 0)) };
}

abbrev sent_bytes : Option (Message ℕ (Option ℕ)) → List ℕ
sent_bytes none = []
sent_bytes (some m) = bytes m

abbrev command_bytes : Option (Command ℕ) → List ℕ
command_bytes none = []
command_bytes (some c) = c.period ∷ c.values ∷ []

abbrev pub outcome_of : Replica → Input (Option ℕ) (List ℕ) → Outcome ℕ (Option ℕ) ℕ
outcome_of c (Tick y) = tick law group c.own c.held false y
outcome_of c (Arrival b) = arrive law group c.own c.held (read b)
outcome_of c GiveUp = give_up law group c.own c.held

abbrev result_of : ℕ → Outcome ℕ (Option ℕ) ℕ → Result Replica
result_of own o = record {
  box = record { own = own; held = o.held };
  refused = is_refused o.answer;
  frame = sent_bytes o.sent;
  command = command_bytes o.command;
}

abbrev pub system : System ℕ (Option ℕ) ℕ
system = record {
  Box = Replica;
  Handed = Option ℕ;
  Areas = Unit {0};
  fresh = λ i. record { own = i; held = fresh law };
  call = λ c e a. result_of c.own (outcome_of c e);
  held = λ c. c.held;
  row = λ y. y;
  beyond = λ y. false;
  frame_bytes = bytes;
  command_bytes = λ c. command_bytes (some c);
  command_period = λ b. get_or b 0 0;
}

-- a record is the replica itself
abbrev pub storage : Storage system
storage = record { Record = Replica; recorded = λ c. c; back = λ c k. missed system none tt k c }

-- ---- what lists come to

abbrev History : Type 0
History = List (Entry (Option ℕ) (Unit {0}))

-- the commands that left, the last one first: period and value
commands : History → List (List ℕ)
commands h = map (λ c. c.bytes) (after system law storage h).issued

-- the rows of the ticks that count in a box's replica
rows : History → ℕ → List (Option ℕ)
rows h i = ((after system law storage h).boxes i).now.rows

-- box i ticks, gets the frame that left by entry k, gives up
abbrev T : ℕ → Option ℕ → Entry (Option ℕ) (Unit {0})
T i y = Event (record { box = i; event = Tick y; areas = tt })

abbrev D : ℕ → ℕ → Entry (Option ℕ) (Unit {0})
D i k = Event (record { box = i; event = Arrival k; areas = tt })

abbrev G : ℕ → Entry (Option ℕ) (Unit {0})
G i = Event (record { box = i; event = GiveUp; areas = tt })

-- Box 1 ticks with 100 and stores; its tick with 50 is lost at the stop. It returns with one missed period. In period 3 it decides with box
-- 2: the rows behind the command are 100, none and 7.
abbrev missing : History
missing =
    T 1 (some 100) ∷ Store 0 ∷ T 1 (some 50) ∷ T 2 (some 102) ∷ T 2 (some 104) ∷ Return 1 1 ∷ Store 5 ∷ T 1 (some 7) ∷ Store 7 ∷ FrameLeaves 7
    ∷ T 2 none ∷ D 2 9 ∷ Store 11 ∷ FrameLeaves 11 ∷ D 1 13 ∷ Store 14 ∷ CommandLeaves 14 ∷ []

missing-rows : rows missing 1 ≡ some 100 ∷ none ∷ some 7 ∷ []
unfolding rows after steps step missed pick majority coordinator beats count better bad_sender bad_place bad_base unwanted
    tick after_tick raise give_up arrive receive hear_ack hear_estimate
missing-rows = refl

missing-commands : commands missing ≡ (3 ∷ 28 ∷ []) ∷ []
unfolding commands after steps step missed pick majority coordinator beats count better bad_sender bad_place bad_base unwanted
    tick after_tick raise give_up arrive receive hear_ack hear_estimate
missing-commands = refl

-- All three boxes tick with readings of their own, and store; the Propose of box 1 leaves by entry 2. Box 2 acknowledges, stops before it
-- stored that, and returns. Storing the record then (entry 9) does nothing, and so does the Ack's leaving (entry 10). Else box 1 would decide
-- 50 by entry 11, while boxes 2 and 3, which do not know of it, decide 100 in the same period.
late : commands (
    T 1 (some 100) ∷ Store 0 ∷ FrameLeaves 0 ∷ T 2 (some 200) ∷ Store 3 ∷ T 3 (some 300) ∷ Store 5 ∷ D 2 2 ∷ Return 2 0 ∷ Store 7 ∷ FrameLeaves 7
    ∷ D 1 10 ∷ Store 11 ∷ CommandLeaves 11 ∷ G 2 ∷ Store 14 ∷ G 3 ∷ Store 16 ∷ FrameLeaves 16 ∷ D 2 18 ∷ Store 19 ∷ FrameLeaves 19
    ∷ D 3 21 ∷ Store 22 ∷ FrameLeaves 22 ∷ D 2 24 ∷ Store 25 ∷ CommandLeaves 25 ∷ [])
    ≡ (1 ∷ 100 ∷ []) ∷ []
unfolding commands after steps step missed pick majority coordinator beats count better bad_sender bad_place bad_base unwanted
    tick after_tick raise give_up arrive receive hear_ack hear_estimate
late = refl
